use borrow.Author.Rules.{rules}
use native.Mathlib.Omega.{arith}
use Prim.Native.Nat.{◌-◌}
use mathlib.Core.Path.{refl, ◌∙◌}
use Rattle.meta_map.proofs.Props.{indexed_of}
use Rattle.meta_map.proofs.Walks.{index_starts, index_ends, index_cut, index_known, index_room, index_on}
use Rattle.meta_map.proofs.index_lines.Goals as goal

pub loop-from-init : goal.loop-from-init
loop-from-init c = (index_starts _ c.args.sheet.now.read (rw c.requires.0 at (indexed_of c.args.map.now.indexed)) c.requires.1, c.requires.0, refl)

pub returns-in_default-clause-indexed : goal.returns-in_default-clause-indexed
returns-in_default-clause-indexed c = index_cut c.loop-from.invariant.0 c.line_end.ensures c.loop-from-test.true c.in_default.is

pub index_line-requires : goal.index_line-requires
index_line-requires c =
    let i = c.line_end.ensures.inside _ c.in-Some.is in
    let w = index_known c.loop-from.invariant.0 c.line_end.ensures c.in-Some.is in
    rw c.loop-from.invariant.1 (index_room c.loop-from.invariant.0 c.line_end.ensures c.in-Some.is, i.0, i.1, w.0, w.1)

pub overflow_add-from : goal.overflow_add-from
overflow_add-from c = search (rules, (c.line_end.ensures.inside _ c.in-Some.is).0, (c.line_end.ensures.inside _ c.in-Some.is).1)

pub loop-from-smaller : goal.loop-from-smaller
loop-from-smaller c = omega (arith, (c.line_end.ensures.inside _ c.in-Some.is).0, (c.line_end.ensures.inside _ c.in-Some.is).1)

pub loop-from-preserved : goal.loop-from-preserved
loop-from-preserved c =
    (index_on c.loop-from.invariant.0 c.line_end.ensures c.in-Some.is (rw c.loop-from.invariant.1 at c.index_line.ensures.indexed), c.index_line.ensures.sheet ∙ c.loop-from.invariant.1, c.index_line.ensures.lent ∙ c.loop-from.invariant.2)

pub returns-clause-indexed : goal.returns-clause-indexed
returns-clause-indexed c = index_ends c.loop-from.invariant.0 c.loop-from-test.false
