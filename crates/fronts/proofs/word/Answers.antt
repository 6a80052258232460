use native.Mathlib.Omega.{arith}
use mathlib.Core.Path.{refl}
use Prim.Native.Nat.{◌+◌}
use Rattle.fronts.proofs.Seams.{word_read}
use Rattle.fronts.proofs.word.Goals as goal

pub overflow_mul-lower : goal.overflow_mul-lower
overflow_mul-lower c = omega (arith, c.shared_slice_known-1.given (c.args.i + 1))

pub overflow_add-lower : goal.overflow_add-lower
overflow_add-lower c = omega (arith, c.shared_slice_known-1.given (c.args.i + 1), c.shared_slice_known-1.given c.args.i)

pub overflow_mul-upper : goal.overflow_mul-upper
overflow_mul-upper c = omega (arith, c.shared_slice_known-1.given (c.args.i + 3))

pub overflow_add-upper : goal.overflow_add-upper
overflow_add-upper c = omega (arith, c.shared_slice_known-1.given (c.args.i + 3), c.shared_slice_known-1.given (c.args.i + 2))

pub overflow_mul-result : goal.overflow_mul-result
overflow_mul-result c = omega (arith, c.shared_slice_known-1.given (c.args.i + 3), c.shared_slice_known-1.given (c.args.i + 2))

pub overflow_add-result : goal.overflow_add-result
overflow_add-result c = omega (arith, c.shared_slice_known-1.given (c.args.i + 3), c.shared_slice_known-1.given (c.args.i + 2), c.shared_slice_known-1.given (c.args.i + 1), c.shared_slice_known-1.given c.args.i)

pub returns : goal.returns
returns c = word_read c.args.s.now c.args.i refl refl refl refl (λ k. omega (arith, c.shared_slice_known-1.given k))
