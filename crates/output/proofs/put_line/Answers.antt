use native.Mathlib.Omega.{arith}
use Prim.Native.Nat.{◌+◌, ◌^◌, ◌<◌}
use mathlib.Core.Path.{refl}
use lib.ListN.{length, length-drop}
use Rattle.output.proofs.Puts.{put_past, put_rest, whole_rest}
use Rattle.output.proofs.put_line.Goals as goal

pub returns-then-out-at : goal.returns-then-out-at
returns-then-out-at g c = record { put = λ e. put_past _ _ _ c.if-out-at.true }

pub overflow_add-result-2 : goal.overflow_add-result-2
overflow_add-result-2 g c =
    let m = c.requires.fits _ _ (record { shown = _; shows = whole_rest c.args.at c.args.out.now; left = _; met = c.write.ensures; leaves = refl }) in
    let b : length c.args.out.now + 1 < 2 ^ 64 = omega arith in
    record { fits = omega (arith, m, b, c.if-out-at.false, length-drop c.args.at c.args.out.now) }

pub returns : goal.returns
returns g c = record { put = λ e. put_rest _ _ c.if-out-at.false (rw (whole_rest c.args.at c.args.out.now) (e _ _ (record { shown = _; shows = whole_rest c.args.at c.args.out.now; left = _; met = c.write.ensures; leaves = refl }))) }
