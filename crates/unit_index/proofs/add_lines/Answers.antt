use native.Mathlib.Omega.{arith}
use Rattle.unit_index.proofs.Adds.{add_starts, add_ends, add_named, add_twice, add_on}
use Rattle.unit_index.proofs.add_lines.Goals as goal

pub loop-u-init : goal.loop-u-init
loop-u-init c = add_starts c.requires.0 c.requires.2

pub unit_at-requires : goal.unit_at-requires
unit_at-requires c = c.loop-u.invariant.placed.list

pub add_line-requires : goal.add_line-requires
add_line-requires c = (c.loop-u.invariant.filled, add_named c.loop-u.invariant c.in-Some.ensures, c.requires.1)

pub returns-then-add_line : goal.returns-then-add_line
returns-then-add_line c = add_twice c.loop-u.invariant c.in-Some.ensures c.add_line.ensures c.if-add_line.true

pub overflow_add-n : goal.overflow_add-n
overflow_add-n c = omega (arith, c.loop-u.invariant.filled.few, c.loop-u.invariant.filled.most)

pub loop-u-smaller : goal.loop-u-smaller
loop-u-smaller c = omega (arith, c.in-Some.ensures.named, c.in-Some.ensures.ended, c.in-Some.ensures.within)

pub loop-u-preserved : goal.loop-u-preserved
loop-u-preserved c = add_on c.loop-u.invariant c.in-Some.ensures c.add_line.ensures c.if-add_line.false

pub returns : goal.returns
returns c = add_ends c.loop-u.invariant c.in_default.ensures
