-- Memory whose front is zero, one place more a turn; and a part of memory that was cleared.
use Prim.Native.Nat.{ℕ, ◌+◌, ◌-◌, ◌≤◌, ◌<◌}
use mathlib.Core.Path.{◌≡◌, refl, ap, ◌∙◌}
use mathlib.Core.List.{List, ◌++◌, append-nil, append_assoc}
use native.Mathlib.Nat.{le_antisymm}
use native.Mathlib.Omega.{arith}
use borrow.Author.Fill.{fill_none, fill_more}
use lib.ListN.{length, take, drop, set, replicate, length-set, length-drop, length-append, length-replicate, replicate-append-replicate, drop_of_length-le}
use lib.Seq.{take_all, take_at, drop_at, drop-drop, length-take-le}

-- the first i places of s₀ are cleared
pub record Zeroed (s₀ s : List ℕ) (i : ℕ) : Type 0 where
  pub upto : i ≤ length s₀
  pub is : s ≡ replicate i 0 ++ drop i s₀
  pub long : length s ≡ length s₀

pub zero_start : {s₀ : List ℕ} → Zeroed s₀ s₀ 0
zero_start {s₀} = record { upto = omega arith; is = fill_none s₀ 0; long = refl }

pub zero_turn : {s₀ s : List ℕ} {i : ℕ} → Zeroed s₀ s i → i < length s → Zeroed s₀ (set s i 0) (i + 1)
zero_turn {s₀} {s} {i} z h =
    record {
      upto = omega arith;
      is = ap (λ (l : List ℕ). set l i 0) z.is ∙ fill_more i 0 s₀ (omega arith);
      long = simp length-set z.long;
    }

pub zero_end : {s₀ s : List ℕ} {i : ℕ} → Zeroed s₀ s i → length s ≤ i → s ≡ replicate (length s₀) 0
zero_end {s₀} {s} {i} z k =
    let h : length s₀ ≤ i = omega arith in
    z.is ∙ rw (drop_of_length-le s₀ h, append-nil) (ap (λ (n : ℕ). replicate n 0) (le_antisymm z.upto h))

pieced : (s₀ s z : List ℕ) (i e : ℕ) → take i s ≡ replicate i 0 → drop i s ≡ drop i s₀ → z ≡ replicate (length (take (e - i) (drop i s))) 0
    → length (take (e - i) (drop i s)) ≡ e - i → i + (e - i) ≡ e → take i s ++ (z ++ drop (e - i) (drop i s)) ≡ replicate e 0 ++ drop e s₀
pieced s₀ s z i e a b q k t =
    rw (q, k, a, b, drop-drop (e - i) i s₀, t, ← append_assoc, replicate-append-replicate {A = ℕ} i (e - i) 0, t)

-- the next piece, up to e, as the checker hands it out and takes it back
pub zero_piece : {s₀ s z : List ℕ} {i : ℕ} (e : ℕ) → Zeroed s₀ s i → i ≤ e → e ≤ length s → z ≡ replicate (length (take (e - i) (drop i s))) 0
    → Zeroed s₀ (take i s ++ (z ++ drop (e - i) (drop i s))) e
zero_piece {s₀} {s} {z} {i} e p l h q =
    let a : take i s ≡ replicate i 0 = rw p.is (take_at (replicate i 0) (drop i s₀) i (length-replicate i 0)) in
    let b : drop i s ≡ drop i s₀ = rw p.is (drop_at (replicate i 0) (drop i s₀) i (length-replicate i 0)) in
    let k : length (take (e - i) (drop i s)) ≡ e - i = length-take-le (e - i) (drop i s) (omega (arith, length-drop i s)) in
    let t : i + (e - i) ≡ e = omega arith in
    let f : take i s ++ (z ++ drop (e - i) (drop i s)) ≡ replicate e 0 ++ drop e s₀ = pieced s₀ s z i e a b q k t in
    record {
      upto = omega arith;
      is = f;
      long = rw f (length-append (replicate e 0) (drop e s₀) ∙ rw (length-replicate {A = ℕ} e 0, length-drop e s₀) (omega arith));
    }

-- ---- the rest from a place on, as the checker hands it out and takes it back
module _ (s : List ℕ) (at : ℕ) where
  pub rest_cleared : {z : List ℕ} → at < length s → z ≡ replicate (length (take (length s - at) (drop at s))) 0
      → take at s ++ (z ++ drop (length s - at) (drop at s)) ≡ take at s ++ replicate (length s - at) 0
  rest_cleared {z} h e =
      let k : length (drop at s) ≤ length s - at = omega (arith, length-drop at s) in
      let l : length (drop at s) ≡ length s - at = length-drop at s in
      rw (e, drop_of_length-le (drop at s) k, append-nil, take_all (length s - at) (drop at s) k, l)

  pub none_cleared : length s ≤ at → s ≡ take at s ++ replicate (length s - at) 0
  none_cleared h =
      let k : length s - at ≡ 0 = omega arith in
      rw (k, take_all at s h, append-nil)

pub ruleset zeros = (zero_start, zero_turn, zero_piece, zero_end)
