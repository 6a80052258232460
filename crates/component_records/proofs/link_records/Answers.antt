use mathlib.Core.Path.{◌≡◌, ◌∙◌}
use native.Mathlib.Omega.{arith}
use Rattle.component_records.proofs.Pairs.{counted_is, all_linked, asked}
use Rattle.component_records.proofs.link_records.Goals as goal

pub link_record-n-requires : goal.link_record-n-requires
link_record-n-requires c =
    let v = c.loop-i.invariant in
    asked c.args.all.now c.args.count c.args.pairs.now c.requires.1 c.requires.2 v.kept v.number v.pairs c.requires.0 c.loop-i-test.true

pub returns : goal.returns
returns c =
    let v = c.loop-i.invariant in
    let done : c.loop-i.i ≡ c.args.count = omega arith in (
      v.kept,
      rw done at v.pairs ∙ all_linked c.args.all.now c.args.count c.args.pairs.now c.requires.1 c.requires.2,
      rw done at v.number ∙ counted_is c.args.all.now c.args.count c.requires.1,
    )
