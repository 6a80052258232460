use mathlib.Core.Path.{◌≡◌, ◌∙◌}
use lib.ListN.{length}
use native.Mathlib.Omega.{arith}
use Rattle.component_records.proofs.Records.{all_filled}
use Rattle.component_records.proofs.lend_records.Goals as goal

pub returns : goal.returns
returns c =
    let done : c.loop-i.i ≡ length c.args.all.now = omega (arith, c.loop-i.auto.i-end, c.loop-i-test.false) in
    rw done at c.loop-i.invariant ∙ all_filled c.args.words.now c.args.from c.args.count c.args.all.now c.requires.2
