use mathlib.Core.Path.{sym, refl}
use Rattle.component_records.proofs.Links.{own_pairs, own_place, no_pairs, no_place}
use Rattle.component_records.proofs.link_record.Goals as goal

pub returns-then-is_own_reference : goal.returns-then-is_own_reference
returns-then-is_own_reference c =
    let own = sym c.if-is_own_reference.ensures in
    let back = c.requires.3.back own in
    let k = c.set_referenced_from.ensures.1 in
    (c.set_referenced_from.ensures.0, own_pairs c.args.all.now c.args.pairs.now c.args.i c.args.n own back k, own_place c.args.all.now c.args.pairs.now c.args.i c.args.n own back k c.place_after.ensures)

pub returns : goal.returns
returns c =
    let none = sym c.if-is_own_reference.ensures in
    (refl, no_pairs c.args.all.now c.args.pairs.now c.args.i c.args.n none, no_place c.args.all.now c.args.pairs.now c.args.i c.args.n none)
