use Rattle.output.proofs.Puts.{starts, turn, step, ends_put}
use Rattle.output.proofs.Texts.{escape_more}
use Rattle.output.proofs.Runs.{run_cut, run_last}
use Rattle.output.proofs.put_escaped.Goals as goal

pub loop-e-init : goal.loop-e-init
loop-e-init c = (starts, c.plain_end-e.ensures)

pub loop-e-preserved : goal.loop-e-preserved
loop-e-preserved c =
    let inv = c.loop-e.invariant in
    let run = step _ (turn (run_cut inv.1) inv.0) c.put_bytes-m.ensures in
    (step _ (turn (escape_more _ _ c.loop-e-test.true) run) c.put_escape-n.ensures, c.plain_end-e-in-loop-e.ensures)

pub returns : goal.returns
returns c =
    let inv = c.loop-e.invariant in
    ends_put (turn (run_last inv.1 c.loop-e-test.false) inv.0) c.put_bytes.ensures
