-- Writers follow one another: `Put v` and then `Put w` is `Put (v ++ w)`.
use Prim.Native.Nat.{ℕ, ◌+◌, ◌-◌, ◌^◌, ◌≤◌, ◌<◌}
use mathlib.Core.Path.{◌≡◌, refl, ap, sym, ◌∙◌}
use mathlib.Core.List.{List, [], ◌∷◌, ◌++◌, append-nil, append_assoc}
use native.Mathlib.Omega.{arith}
use borrow.Author.Tests.{le-leb, lt-leb}
use lib.ListN.{length, take, drop, set, take-append-drop, drop_of_length-le, length-append, length-drop, length-take}
use lib.Seq.{take_all, take_at, drop_at, length-take-le, set_split, drop-cons, drop-drop}
use Rattle.rules.proofs.Basics.{by_order}
use Rattle.output.specs.Put.{over, over_at, after, Put}
use Rattle.output.proofs.Over.{over_length, over_fits, over_full, over_append, over_none}

pub at_length : (at : ℕ) (w o : List ℕ) → length (over_at at w o) ≡ length o
unfolding over_at
at_length at w o = length-append (take at o) (over w (drop at o)) ∙ ap (λ (n : ℕ). length (take at o) + n) (over_length w (drop at o)) ∙ sym (length-append (take at o) (drop at o)) ∙ ap length (take-append-drop at o)

after_in : (at k m : ℕ) → at + k ≤ m → after at k m ≡ at + k
unfolding after
after_in at k m h = simp (le-leb _ _ h)

after_out : (at k m : ℕ) → m < at + k → after at k m ≡ m + 1
unfolding after
after_out at k m h = simp (lt-leb _ _ h)

after_seq : (at a b m : ℕ) → after (after at a m) b m ≡ after at (a + b) m
after_seq at a b m =
    by_order (at + a) m
    (λ h. rw (after_in at a m h)
    (by_order (at + a + b) m
    (λ k. let l : at + (a + b) ≤ m = omega arith in rw (after_in (at + a) b m k, after_in at (a + b) m l) (omega arith))
    (λ k. let l : m < at + (a + b) = omega arith in rw (after_out (at + a) b m k, after_out at (a + b) m l))))
    (λ h. let l : m < at + (a + b) = omega arith in let k : m < m + 1 + b = omega arith in rw (after_out at a m h, after_out (m + 1) b m k, after_out at (a + b) m l))

module _ (at : ℕ) (v w o : List ℕ) where
  at_fits : at + length v ≤ length o → over_at (after at (length v) (length o)) w (over_at at v o) ≡ over_at at (v ++ w) o
  unfolding over_at
  at_fits h =
      let a : at ≤ length o = omega arith in
      let k : length v ≤ length (drop at o) = omega (arith, length-drop at o) in
      let l : length (take at o ++ v) ≡ at + length v = length-append (take at o) v ∙ ap (λ (n : ℕ). n + length v) (length-take-le at o a) in
      rw (
        after_in at (length v) (length o) h,
        over_fits v (drop at o) k,
        over_append v w (drop at o) k,
        ← append_assoc,
        take_at (take at o ++ v) (drop (length v) (drop at o)) (at + length v) l,
        drop_at (take at o ++ v) (drop (length v) (drop at o)) (at + length v) l,
        append_assoc,
      )

  at_misfits : length o < at + length v → over_at (after at (length v) (length o)) w (over_at at v o) ≡ over_at at (v ++ w) o
  unfolding over_at
  at_misfits h =
      let k : length (drop at o) ≤ length v = omega (arith, length-drop at o) in
      let l : length (take at o ++ over v (drop at o)) ≤ length o + 1 = omega (arith, at_length at v o) in
      rw (
        after_out at (length v) (length o) h,
        over_full v w (drop at o) k,
        take_all (length o + 1) (take at o ++ over v (drop at o)) l,
        drop_of_length-le (take at o ++ over v (drop at o)) l,
        over_none w,
        append-nil,
      )

  at_seq : over_at (after at (length v) (length o)) w (over_at at v o) ≡ over_at at (v ++ w) o
  at_seq = by_order (at + length v) (length o) at_fits at_misfits

-- two writers
pub put_seq : {v w o₀ o₁ o₂ : List ℕ} {at n r : ℕ} → Put v o₀ at o₁ n → Put w o₁ n o₂ r → Put (v ++ w) o₀ at o₂ r
put_seq {v} {w} {o₀} {o₁} {o₂} {at} {n} {r} p q =
    let l : length o₁ ≡ length o₀ = ap length p.bytes ∙ at_length at v o₀ in
    record {
      bytes = q.bytes ∙ rw (p.bytes, p.next) (at_seq at v w o₀);
      next = q.next ∙ rw (l, p.next, length-append v w) (after_seq at (length v) (length w) (length o₀));
    }

-- The invariant of a loop that writes w at a position of a buffer that held o₀: to write rest at n in o is to write w there.
pub record Leads (w o₀ : List ℕ) (at : ℕ) (rest o : List ℕ) (n : ℕ) : Type 0 where
  pub bytes : over_at n rest o ≡ over_at at w o₀
  pub next : after n (length rest) (length o) ≡ after at (length w) (length o₀)
  pub same : length o ≡ length o₀

pub starts : {w o₀ : List ℕ} {at : ℕ} → Leads w o₀ at w o₀ at
starts = record { bytes = refl; next = refl; same = refl }

module _ {w o₀ : List ℕ} {at : ℕ} {o : List ℕ} {n : ℕ} where
  pub turn : {rest also : List ℕ} → rest ≡ also → Leads w o₀ at rest o n → Leads w o₀ at also o n
  turn e i = rw e at i

  pub step : {v o' : List ℕ} {n' : ℕ} (rest : List ℕ) → Leads w o₀ at (v ++ rest) o n → Put v o n o' n' → Leads w o₀ at rest o' n'
  step {v} {o'} {n'} rest i p =
      let l : length o' ≡ length o = ap length p.bytes ∙ at_length n v o in
      record {
        bytes = rw (p.bytes, p.next) (at_seq n v rest o) ∙ i.bytes;
        next = rw (l, p.next) (after_seq n (length v) (length rest) (length o)) ∙ (rw length-append at i.next);
        same = l ∙ i.same;
      }

  -- the end of the text, and the position handed on
  ends : {r : ℕ} → Leads w o₀ at [] o n → r ≡ after n 0 (length o) → Put w o₀ at o r
  unfolding over_at over
  ends {r} i e = record { bytes = sym (take-append-drop n o) ∙ i.bytes; next = e ∙ i.next }

  pub ends_in : Leads w o₀ at [] o n → n ≤ length o → Put w o₀ at o n
  ends_in i h = ends i (let k : n + 0 ≤ length o = omega arith in sym (after_in n 0 (length o) k ∙ omega arith))

  pub ends_out : Leads w o₀ at [] o n → length o < n → Put w o₀ at o (length o + 1)
  ends_out i h = ends i (let k : length o < n + 0 = omega arith in sym (after_out n 0 (length o) k))

  -- the rest of the text, written at once
  pub ends_put : {rest o' : List ℕ} {r : ℕ} → Leads w o₀ at rest o n → Put rest o n o' r → Put w o₀ at o' r
  ends_put i p = record { bytes = p.bytes ∙ i.bytes; next = p.next ∙ i.next }

-- nothing
pub put_none : (o : List ℕ) (at : ℕ) → at + 0 ≤ length o → Put [] o at o (at + 0)
unfolding over_at over
put_none o at h = record { bytes = sym (take-append-drop at o); next = sym (after_in at 0 (length o) h) }

-- one byte
pub one_in : (o : List ℕ) (at b : ℕ) → at < length o → Put (b ∷ []) o at (set o at b) (at + 1)
unfolding over_at over
one_in o at b h =
    let k : at + 1 ≤ length o = omega arith in
    record { bytes = rw (set_split o at b h, drop-cons o at 0 h); next = sym (after_in at 1 (length o) k) }

pub one_out : (o : List ℕ) (at b : ℕ) → length o ≤ at → Put (b ∷ []) o at o (length o + 1)
unfolding over_at
one_out o at b h =
    let k : length o < at + 1 = omega arith in
    record { bytes = rw (drop_of_length-le o h, take_all at o h, over_none (b ∷ []), append-nil); next = sym (after_out at 1 (length o) k) }

-- a buffer keeps its length
pub keeps : {w o₀ o : List ℕ} {at r : ℕ} → Put w o₀ at o r → length o ≡ length o₀
keeps {w} {o₀} {o} {at} p = ap length p.bytes ∙ at_length at w o₀

-- the next position
pub put_room : {w o₀ o : List ℕ} {at r : ℕ} → Put w o₀ at o r → at + length w ≤ length o₀ → r ≡ at + length w
put_room {w} {o₀} {o} {at} p h = p.next ∙ after_in at (length w) (length o₀) h

pub put_no_room : {w o₀ o : List ℕ} {at r : ℕ} → Put w o₀ at o r → length o₀ < at + length w → r ≡ length o₀ + 1
put_no_room {w} {o₀} {o} {at} p h = p.next ∙ after_out at (length w) (length o₀) h

pub put_most : {w o₀ o : List ℕ} {at r : ℕ} → Put w o₀ at o r → r ≤ length o₀ + 1
put_most {w} {o₀} {o} {at} {r} p =
    by_order (at + length w) (length o₀) (λ h. let e = put_room p h in omega arith) (λ h. let e = put_no_room p h in omega arith)

-- where the next position is in the buffer the text is there, between what stood before and after it
pub put_fit : {w o₀ o : List ℕ} {at r : ℕ} → Put w o₀ at o r → r ≤ length o₀ → at + length w ≤ length o₀
put_fit {w} {o₀} {o} {at} {r} p h =
    by_order (at + length w) (length o₀) (λ l. l) (λ l. let e = put_no_room p l in absurd (omega arith))

pub put_fits : {w o₀ o : List ℕ} {at r : ℕ} → Put w o₀ at o r → r ≤ length o₀ → o ≡ take at o₀ ++ w ++ drop (at + length w) o₀
unfolding over_at
put_fits {w} {o₀} {o} {at} {r} p h =
    let l = put_fit p h in
    let k : length w ≤ length (drop at o₀) = omega (arith, length-drop at o₀) in
    p.bytes ∙ rw (over_fits w (drop at o₀) k, drop-drop, append_assoc)

-- past the buffer nothing is written
pub put_full : (w o : List ℕ) (at : ℕ) → length o ≤ at → length o < at + length w → Put w o at o (length o + 1)
unfolding over_at
put_full w o at l k = record { bytes = rw (drop_of_length-le o l, take_all at o l, over_none w, append-nil); next = sym (after_out at (length w) (length o) k) }

pub put_past : (w o : List ℕ) (at : ℕ) → length o < at → Put w o at o (length o + 1)
put_past w o at h = put_full w o at (omega arith) (omega arith)

-- as much of a text as there is room for
pub put_short : {w o o' : List ℕ} {at r : ℕ} → length o < at + length w → Put (take (length o - at) w) o at o' r → Put w o at o' (length o + 1)
unfolding over_at
put_short {w} {o} {at = at} h p =
    let n = length o - at in
    let e : take n w ++ drop n w ≡ w = take-append-drop n w in
    let l : length (drop at o) ≤ length (take n w) = omega (arith, length-drop at o, length-take n w) in
    record { bytes = p.bytes ∙ ap (λ (x : List ℕ). take at o ++ x) (sym (over_full (take n w) (drop n w) (drop at o) l) ∙ ap (λ (x : List ℕ). over x (drop at o)) e); next = sym (after_out at (length w) (length o) h) }

-- a writer that was lent the rest of the buffer from `at` on: o' is what it left there
module _ {w o' : List ℕ} {n : ℕ} (o : List ℕ) (at : ℕ) where
  rest_is : at ≤ length o → Put w (drop at o) 0 o' n → Put w o at (take at o ++ o') (at + n)
  unfolding over_at
  rest_is h p =
      let d : length (drop at o) ≡ length o - at = length-drop at o in
      record {
        bytes = rw p.bytes;
        next = by_order (at + length w) (length o)
            (λ l. let m : 0 + length w ≤ length (drop at o) = omega arith in rw (put_room p m, after_in at (length w) (length o) l) (omega arith))
            (λ l. let m : length (drop at o) < 0 + length w = omega arith in rw (put_no_room p m, after_out at (length w) (length o) l) (omega arith));
      }

  -- the same, as the checker hands the rest out and takes it back
  pub put_rest : at ≤ length o → Put w (take (length o - at) (drop at o)) 0 o' n → Put w o at (take at o ++ (o' ++ drop (length o - at) (drop at o))) (at + n)
  put_rest h p =
      let k : length (drop at o) ≤ length o - at = omega (arith, length-drop at o) in
      rw (drop_of_length-le (drop at o) k, append-nil) (rest_is h (rw (take_all (length o - at) (drop at o) k) at p))

  -- the position that follows
  pub rest_fits : length o + 1 < 2 ^ 64 → at ≤ length o → Put w (take (length o - at) (drop at o)) 0 o' n → at + n < 2 ^ 64
  rest_fits b h p =
      let l : length (take (length o - at) (drop at o)) ≤ length o - at = omega (arith, length-take (length o - at) (drop at o)) in
      omega (arith, put_most p)

-- the rest that is lent from a position on is all of it
pub whole_rest : (at : ℕ) (o : List ℕ) → take (length o - at) (drop at o) ≡ drop at o
whole_rest at o = take_all (length o - at) (drop at o) (omega (arith, length-drop at o))
