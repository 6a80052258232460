use native.Mathlib.Omega.{arith}
use Rattle.fronts.proofs.Seams.{seam_none, seam_on}
use Rattle.text.proofs.meets.wide_pairs.Goals as goal

pub loop-i-init : goal.loop-i-init
loop-i-init c = seam_none _ _

pub slice_bounds-pair_size-count : goal.slice_bounds-pair_size-count
slice_bounds-pair_size-count c = c.loop-i.invariant.left

pub slice_bounds-pair_size-start : goal.slice_bounds-pair_size-start
slice_bounds-pair_size-start c = omega (arith, c.loop-i.invariant.left)

pub slice_bounds-pair_size-count-in-loop-i : goal.slice_bounds-pair_size-count-in-loop-i
slice_bounds-pair_size-count-in-loop-i c = c.loop-i.invariant.right

pub slice_bounds-pair_size-start-in-loop-i : goal.slice_bounds-pair_size-start-in-loop-i
slice_bounds-pair_size-start-in-loop-i c = omega (arith, c.loop-i.invariant.right)

pub returns-then-k-eq0 : goal.returns-then-k-eq0
returns-then-k-eq0 c = c.loop-i.invariant

pub overflow_add-i : goal.overflow_add-i
overflow_add-i c = omega (arith, (seam_on c.loop-i.invariant c.pair_size-k.ensures).left)

pub loop-i-smaller : goal.loop-i-smaller
loop-i-smaller c = omega (arith, (seam_on c.loop-i.invariant c.pair_size-k.ensures).left, c.if-k-eq0.false)

pub loop-i-preserved : goal.loop-i-preserved
loop-i-preserved c = seam_on c.loop-i.invariant c.pair_size-k.ensures
