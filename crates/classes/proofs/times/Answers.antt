use Prim.Native.Nat.{◌≤◌}
use native.Mathlib.Nat.{mul-le-mul}
use native.Mathlib.Omega.{arith}
use Rattle.classes.proofs.times.Goals as goal

pub overflow_mul-result : goal.overflow_mul-result
overflow_mul-result c =
    let a : c.args.a ≤ 4294967295 = omega arith in
    let b : c.args.b ≤ 4294967295 = omega arith in
    record { fits = omega (arith, mul-le-mul a b) }

pub returns : goal.returns
returns c =
    let a : c.args.a ≤ 4294967295 = omega arith in
    let b : c.args.b ≤ 4294967295 = omega arith in
    mul-le-mul a b
