use native.Mathlib.Omega.{arith}
use Rattle.output.proofs.Runs.{run_none, run_piece}
use Rattle.output.proofs.plain_pieces.Goals as goal

pub loop-i-init : goal.loop-i-init
loop-i-init c = run_none _ _ c.requires.0

pub returns-then-not-all_plain : goal.returns-then-not-all_plain
returns-then-not-all_plain c = c.loop-i.invariant

pub loop-i-preserved : goal.loop-i-preserved
loop-i-preserved c = run_piece _ c.loop-i.invariant (omega arith) (omega arith) c.all_plain.ensures c.if-not-all_plain.false-raw

pub returns : goal.returns
returns c = c.loop-i.invariant
