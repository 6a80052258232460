use native.Mathlib.Omega.{arith}
use Rattle.fronts.proofs.Seams.{facing_seam}
use Rattle.text.proofs.Turns.{facing, facing_answer, facing_on, facing_rest}
use Rattle.text.proofs.same_whole.Goals as goal

pub loop-r-init : goal.loop-r-init
loop-r-init c = facing _ _

pub overflow_add-i : goal.overflow_add-i
overflow_add-i c = omega (arith, (facing_seam c.loop-r.invariant c.level-n.ensures).left)

pub overflow_add-j : goal.overflow_add-j
overflow_add-j c = omega (arith, (facing_seam c.loop-r.invariant c.level-n.ensures).right)

pub returns-in-Answer : goal.returns-in-Answer
returns-in-Answer c = facing_answer (facing_seam c.loop-r.invariant c.level-n.ensures) c.meet-m.ensures _ c.in-Answer.is

pub slice_bounds-wide_pairs-count : goal.slice_bounds-wide_pairs-count
slice_bounds-wide_pairs-count c = (facing_on (facing_seam c.loop-r.invariant c.level-n.ensures) c.meet-m.ensures _ _ c.in-On.is).still.left

pub slice_bounds-wide_pairs-start : goal.slice_bounds-wide_pairs-start
slice_bounds-wide_pairs-start c = omega (arith, (facing_on (facing_seam c.loop-r.invariant c.level-n.ensures) c.meet-m.ensures _ _ c.in-On.is).still.left)

pub slice_bounds-wide_pairs-count-in-On : goal.slice_bounds-wide_pairs-count-in-On
slice_bounds-wide_pairs-count-in-On c = (facing_on (facing_seam c.loop-r.invariant c.level-n.ensures) c.meet-m.ensures _ _ c.in-On.is).still.right

pub slice_bounds-wide_pairs-start-in-On : goal.slice_bounds-wide_pairs-start-in-On
slice_bounds-wide_pairs-start-in-On c = omega (arith, (facing_on (facing_seam c.loop-r.invariant c.level-n.ensures) c.meet-m.ensures _ _ c.in-On.is).still.right)

pub overflow_add-i-in-On : goal.overflow_add-i-in-On
overflow_add-i-in-On c = omega (arith, (facing_seam (facing_on (facing_seam c.loop-r.invariant c.level-n.ensures) c.meet-m.ensures _ _ c.in-On.is).still c.wide_pairs-w.ensures).left)

pub overflow_add-j-in-On : goal.overflow_add-j-in-On
overflow_add-j-in-On c = omega (arith, (facing_seam (facing_on (facing_seam c.loop-r.invariant c.level-n.ensures) c.meet-m.ensures _ _ c.in-On.is).still c.wide_pairs-w.ensures).right)

pub loop-r-smaller : goal.loop-r-smaller
loop-r-smaller c = let w = facing_on (facing_seam c.loop-r.invariant c.level-n.ensures) c.meet-m.ensures _ _ c.in-On.is in omega (arith, w.more, (facing_seam w.still c.wide_pairs-w.ensures).left)

pub loop-r-preserved : goal.loop-r-preserved
loop-r-preserved c = facing_seam (facing_on (facing_seam c.loop-r.invariant c.level-n.ensures) c.meet-m.ensures _ _ c.in-On.is).still c.wide_pairs-w.ensures

pub slice_bounds-same_rest-count : goal.slice_bounds-same_rest-count
slice_bounds-same_rest-count c = omega (arith, (facing_seam c.loop-r.invariant c.level-n.ensures).left)

pub slice_bounds-same_rest-start : goal.slice_bounds-same_rest-start
slice_bounds-same_rest-start c = omega (arith, (facing_seam c.loop-r.invariant c.level-n.ensures).left)

pub slice_bounds-same_rest-end : goal.slice_bounds-same_rest-end
slice_bounds-same_rest-end c = omega (arith, (facing_seam c.loop-r.invariant c.level-n.ensures).left)

pub slice_bounds-same_rest-count-2 : goal.slice_bounds-same_rest-count-2
slice_bounds-same_rest-count-2 c = omega (arith, (facing_seam c.loop-r.invariant c.level-n.ensures).right)

pub slice_bounds-same_rest-start-2 : goal.slice_bounds-same_rest-start-2
slice_bounds-same_rest-start-2 c = omega (arith, (facing_seam c.loop-r.invariant c.level-n.ensures).right)

pub slice_bounds-same_rest-end-2 : goal.slice_bounds-same_rest-end-2
slice_bounds-same_rest-end-2 c = omega (arith, (facing_seam c.loop-r.invariant c.level-n.ensures).right)

pub returns : goal.returns
returns c = facing_rest (facing_seam c.loop-r.invariant c.level-n.ensures) _ c.same_rest.ensures
