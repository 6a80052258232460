use borrow.Author.Rules.{rules}
use native.Mathlib.Omega.{arith}
use Rattle.output.proofs.Puts.{put_past, keeps}
use Rattle.entry_lines.proofs.Rows.{lined_none, lined_more, lined_all}
use Rattle.entry_lines.proofs.component_lines.Goals as goal

pub returns-then-out-at : goal.returns-then-out-at
returns-then-out-at c = put_past _ _ _ c.if-out-at.true

pub loop-i-init : goal.loop-i-init
loop-i-init c = lined_none _ _ _ _ c.if-out-at.false

pub put_entry-next-requires : goal.put_entry-next-requires
put_entry-next-requires c = (c.requires, omega (arith, c.loop-i-test.true, c.count_of-i-end.ensures))

pub loop-i-preserved : goal.loop-i-preserved
loop-i-preserved c = lined_more _ _ _ _ c.loop-i.invariant (omega (arith, c.loop-i-test.true, c.count_of-i-end.ensures)) c.put_entry-next.ensures

pub shape_of-out : goal.shape_of-out
shape_of-out c = let x = keeps c.loop-i.invariant.is in search rules

pub returns : goal.returns
returns c = lined_all _ _ _ _ c.loop-i.invariant (omega (arith, c.loop-i-test.false, c.count_of-i-end.ensures))
