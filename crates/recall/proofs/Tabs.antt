-- Fields that are skipped by their tabs.
use Prim.Native.Nat.{ℕ, zero, suc, ◌+◌, ◌-◌, ◌≤◌, ◌<◌}
use mathlib.Core.Path.{◌≡◌, refl, sym, ◌∙◌}
use mathlib.Core.Bool.{Bool, true, false}
use mathlib.Core.List.{List, [], ◌∷◌}
use native.Mathlib.Omega.{arith}
use borrow.Author.Tests.{ne_eqb, eqb-true, eqb-false, le-leb}
use lib.Dec.{eqb}
use lib.ListN.{length, get_or, take, drop, length-drop}
use lib.Seq.{drop-cons, drop-nil, get_or-drop, get_or-take, length-take-le}
use Rattle.rules.specs.Basic.{pick, tab, split_at, on_first}
use Rattle.rules.specs.Sheet.{fields_of}
use Rattle.rules.proofs.Basics.{pick_either, by_order}
use Rattle.sheet.specs.Lines.{fields_from, field_at}
use Rattle.sheet.proofs.Scans.{fields_next, fields_past}
use Rattle.recall.specs.Places.{tabs_in}

-- a byte more of the first field changes nothing after it
drop_first : (x : ℕ) (fs : List (List ℕ)) (m : ℕ) → drop (suc m) (on_first x fs) ≡ drop (suc m) fs
unfolding on_first
drop_first x [] m = drop-nil m
drop_first x (f ∷ fs) m = refl

module _ (s : List ℕ) (i : ℕ) (h : i < length s) where
  fields_tab : get_or s i 0 ≡ 9 → fields_from s i ≡ [] ∷ fields_from s (i + 1)
  unfolding fields_from fields_of split_at
  fields_tab q =
      let a : i ≤ length s = omega arith in
      let b : i + 1 ≤ length s = omega arith in
      let k : i + 1 ≡ suc i = omega arith in
      rw (le-leb i (length s) a, le-leb (i + 1) (length s) b, k, drop-cons s i 0 h, q)

  fields_other : (get_or s i 0 ≡ 9 → ⊥) → fields_from s i ≡ on_first (get_or s i 0) (fields_from s (i + 1))
  unfolding fields_from fields_of split_at
  fields_other q =
      let a : i ≤ length s = omega arith in
      let b : i + 1 ≤ length s = omega arith in
      let k : i + 1 ≡ suc i = omega arith in
      rw (le-leb i (length s) a, le-leb (i + 1) (length s) b, k, drop-cons s i 0 h, ne_eqb (get_or s i 0) 9 q)

  -- a turn
  pub turn_tab : (left : ℕ) {n : ℕ} {fs : List (List ℕ)} → 0 < left → get_or s i 0 ≡ 9 → drop left (fields_from s i) ≡ fs → n ≡ left - 1 → drop n (fields_from s (i + 1)) ≡ fs
  turn_tab left {n} l q e k = let z : left ≡ suc n = omega arith in rw (z, fields_tab q) at e

  pub turn_other : (left : ℕ) {n : ℕ} {fs : List (List ℕ)} → 0 < left → (get_or s i 0 ≡ 9 → ⊥) → drop left (fields_from s i) ≡ fs → n ≡ left → drop n (fields_from s (i + 1)) ≡ fs
  turn_other left {n} l q e k =
      let z : left ≡ suc (left - 1) = omega arith in
      rw k (rw z (sym (drop_first (get_or s i 0) (fields_from s (i + 1)) (left - 1)) ∙ (rw (z, fields_other q) at e)))

-- the fields end
past_last : (s : List ℕ) (i m : ℕ) → length s ≤ i → drop (suc m) (fields_from s i) ≡ []
past_last s i m h =
    by_order i (length s)
    (λ l. let k : length s < i + length (field_at s i) + 1 = omega arith in rw (fields_next s i l, fields_past s (i + length (field_at s i) + 1) k) (drop-nil m))
    (λ g. rw (fields_past s i g))

pub too_few : (s : List ℕ) (i left : ℕ) {fs : List (List ℕ)} → length s ≤ i → 0 < left → drop left (fields_from s i) ≡ fs → fields_from s (length s + 1) ≡ fs
too_few s i left h l e =
    let z : left ≡ suc (left - 1) = omega arith in
    let k : length s < length s + 1 = omega arith in
    fields_past s (length s + 1) k ∙ sym (past_last s i (left - 1) h) ∙ (rw z at e)

pub none_left : (s : List ℕ) (i left : ℕ) {fs : List (List ℕ)} → left ≤ 0 → drop left (fields_from s i) ≡ fs → fields_from s i ≡ fs
none_left s i left h e = let z : left ≡ 0 = omega arith in rw z at e

-- past the line there are none
pub all_past : (s : List ℕ) (at n : ℕ) → length s < at → fields_from s at ≡ drop n (fields_from s at)
all_past s at n h = rw (fields_past s at h) (sym (drop-nil n))

-- ---- tabs that are counted

few : (s : List ℕ) (at j : ℕ) → tabs_in s at j ≤ j
unfolding tabs_in
few s at zero = omega arith
few s at (suc j) = let h = few s at j in pick_either (λ (n : ℕ). n ≤ suc j) (eqb (get_or s (at + j) 0) tab) (tabs_in s at j + 1) (tabs_in s at j) (λ q. omega arith) (λ q. omega arith)

pub tabs_few : (s : List ℕ) (at j : ℕ) {n : ℕ} → n ≡ tabs_in s at j → n ≤ j
tabs_few s at j e = rw e (few s at j)

pub tabs_none : (s : List ℕ) (at : ℕ) → 0 ≡ tabs_in s at 0
unfolding tabs_in
tabs_none s at = refl

module _ (s : List ℕ) (at j : ℕ) {n : ℕ} (e : n ≡ tabs_in s at j) where
  pub tabs_hit : get_or s (at + j) 0 ≡ 9 → n + 1 ≡ tabs_in s at (j + 1)
  unfolding tabs_in
  tabs_hit q = let k : j + 1 ≡ suc j = omega arith in rw (k, q, e)

  pub tabs_miss : (get_or s (at + j) 0 ≡ 9 → ⊥) → n ≡ tabs_in s at (j + 1)
  unfolding tabs_in
  tabs_miss q = let k : j + 1 ≡ suc j = omega arith in rw (k, ne_eqb (get_or s (at + j) 0) 9 q, e)

-- the eight bytes at a place
module _ (s : List ℕ) (at : ℕ) where
  pub eight_long : at + 8 ≤ length s → length (take (at + 8 - at) (drop at s)) ≡ 8
  eight_long h = let k : at + 8 - at ≡ 8 = omega arith in rw k (length-take-le 8 (drop at s) (omega (arith, length-drop at s)))

  pub eight_byte : {j : ℕ} → j < 8 → get_or (take (at + 8 - at) (drop at s)) j 0 ≡ get_or s (at + j) 0
  eight_byte {j} l = get_or-take (at + 8 - at) (drop at s) j 0 (omega arith) ∙ get_or-drop at s j 0

pub tabs_whole : (s : List ℕ) (at j : ℕ) {n : ℕ} → n ≡ tabs_in s at j → 8 ≤ j → j ≤ 8 → n ≡ tabs_in s at 8
tabs_whole s at j e h g = let k : j ≡ 8 = omega arith in rw k at e

module _ (s : List ℕ) (i left : ℕ) {fs : List (List ℕ)} (e : drop left (fields_from s i) ≡ fs) where
  -- bytes with fewer tabs than are left
  pass : (n : ℕ) → i + n ≤ length s → tabs_in s i n < left → drop (left - tabs_in s i n) (fields_from s (i + n)) ≡ fs
  unfolding tabs_in
  pass zero h l = let a : left - 0 ≡ left = omega arith in let b : i + 0 ≡ i = omega arith in rw (a, b) e
  pass (suc n) h l = by (eqb (get_or s (i + n) 0) tab) refl l (λ k. pass n (omega arith) k)
    where
      by : (t : Bool) → eqb (get_or s (i + n) 0) tab ≡ t → pick t (tabs_in s i n + 1) (tabs_in s i n) < left
          → (tabs_in s i n < left → drop (left - tabs_in s i n) (fields_from s (i + n)) ≡ fs)
          → drop (left - pick t (tabs_in s i n + 1) (tabs_in s i n)) (fields_from s (i + suc n)) ≡ fs
      by true q k p =
          let a : i + suc n ≡ i + n + 1 = omega arith in
          let b : left - (tabs_in s i n + 1) ≡ left - tabs_in s i n - 1 = omega arith in
          rw a (turn_tab s (i + n) (omega arith) (left - tabs_in s i n) (omega arith) (eqb-true _ _ q) (p (omega arith)) b)
      by false q k p =
          let a : i + suc n ≡ i + n + 1 = omega arith in
          rw a (turn_other s (i + n) (omega arith) (left - tabs_in s i n) (omega arith) (eqb-false _ _ q) (p k) refl)

  pub pass_eight : {n : ℕ} → n ≡ tabs_in s i 8 → i + 8 ≤ length s → n < left → drop (left - n) (fields_from s (i + 8)) ≡ fs
  pass_eight k h l = rw k (pass 8 h (rw k at l))
