use native.Mathlib.Omega.{arith}
use Prim.Native.Nat.{◌+◌, ◌-◌, ◌<◌, ◌≤◌}
use lib.ListN.{length}
use lib.Seq.{length-take-le}
use mathlib.Core.Path.{sym, ◌∙◌}
use borrow.Author.Tests.{leb-true, leb-false}
use Rattle.output.proofs.Puts.{put_full, put_short}
use Rattle.output.proofs.put_bytes.Goals.{then-at-out, else-at-out}
use Rattle.output.proofs.put_bytes.Goals as goal

pub overflow_add-end : goal.overflow_add-end
overflow_add-end c =
    let a = c.args in
    let h : a.at + length a.w.now ≤ length a.out.now = leb-true _ _ (sym c.has_room.ensures ∙ c.if-has_room.true) in
    omega (arith, h)

pub copy_in-requires : goal.copy_in-requires
copy_in-requires c = leb-true _ _ (sym c.has_room.ensures ∙ c.if-has_room.true)

pub slice_bounds-copy_in-end : goal.slice_bounds-copy_in-end
slice_bounds-copy_in-end c =
    let l : length c.args.out.now < c.args.at + length c.args.w.now = leb-false _ _ (sym c.has_room.ensures ∙ c.if-has_room.false) in
    sym (length-take-le _ c.args.w.now (omega (arith, l)))

pub copy_in-requires-then-at-out : goal.copy_in-requires-then-at-out
copy_in-requires-then-at-out c =
    let l : length c.args.out.now < c.args.at + length c.args.w.now = leb-false _ _ (sym c.has_room.ensures ∙ c.if-has_room.false) in
    omega (arith, c.if-at-out.true, length-take-le (length c.args.out.now - c.args.at) c.args.w.now (omega (arith, l)))

pub returns : goal.returns
returns c =
    let l : length c.args.out.now < c.args.at + length c.args.w.now = leb-false _ _ (sym c.has_room.ensures ∙ c.if-has_room.false) in
    elim c.if-at-out.branch [ then-at-out w ↦ rw c.if-at-out.auto.out (rw w.out-is (put_short l w.copy_in-then-at-out.ensures)) | else-at-out w ↦ rw c.if-at-out.auto.out (rw w.out-is (put_full _ _ _ w.if-at-out.false l)) ]
