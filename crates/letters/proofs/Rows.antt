-- The folding by its columns.
use Prim.Native.Nat.{ℕ, zero, suc, ◌+◌, ◌≤◌, ◌<◌, zero-le, suc-le-suc}
use mathlib.Core.Path.{◌≡◌, refl, sym, ap, ◌∙◌}
use mathlib.Core.Bool.{true, false}
use mathlib.Core.List.{List, [], ◌∷◌}
use native.Mathlib.Nat.{le_refl, le_of_suc-le-suc, not-suc-le-zero}
use native.Mathlib.Omega.{arith}
use lib.Dec.{eqb}
use lib.ListN.{length, get_or, take, drop, length-take, length-drop}
use borrow.Author.Tests.{eq-eqb, ne_eqb, lt-ltb, le-ltb}
use Rattle.rules.specs.Basic.{within}
use Rattle.rules.specs.Ranges.{FoldLine, ◌folds_to◌, lookup}
use Rattle.rules.specs.Folding.{folding}
use Rattle.rules.specs.Unicode.{fold}
use Rattle.rules.proofs.Basics.{and_left, and_right, no_truth, within_to}
use Rattle.rules.proofs.Folds.{all_maps, all_codes, all_codes_at, named, shaped, mapped_are_shaped, keys_ascend_lem}
use Rattle.letters.specs.Search.{Ascending, Place}
use Rattle.letters.specs.Tables.{keys, column, unicode_tables}
use Rattle.letters.specs.Folded.{row_of}
use Rattle.letters.proofs.Places.{keys_ascending}
use Rattle.letters.proofs.Windows.{columns, in_window, row_window}

-- ---- a mapping and its row: no code point of a mapping is 0, which the row has for none

not_zero : (x : ℕ) → named x ≡ true → eqb x 0 ≡ false
not_zero zero h = no_truth h
not_zero (suc x) h = ne_eqb (suc x) 0 (λ q. omega arith)

whole_row : (m : List ℕ) → shaped m ≡ true → row_of (get_or m 0 0) (get_or m 1 0) (get_or m 2 0) ≡ m
unfolding row_of
whole_row [] h = no_truth h
whole_row (a ∷ []) h = refl
whole_row (a ∷ b ∷ []) h =
    let n : all_codes named (a ∷ b ∷ []) ≡ true = h in
    rw (not_zero b (all_codes_at named (a ∷ b ∷ []) 1 n (omega arith)))
whole_row (a ∷ b ∷ c ∷ []) h =
    let n : all_codes named (a ∷ b ∷ c ∷ []) ≡ true = h in
    rw (not_zero b (all_codes_at named (a ∷ b ∷ c ∷ []) 1 n (omega arith)), not_zero c (all_codes_at named (a ∷ b ∷ c ∷ []) 2 n (omega arith)))
whole_row (a ∷ b ∷ c ∷ d ∷ m) h =
    absurd (omega (arith, within_to 1 3 (length (a ∷ b ∷ c ∷ d ∷ m)) (and_left (within 1 3 (length (a ∷ b ∷ c ∷ d ∷ m))) (all_codes named (a ∷ b ∷ c ∷ d ∷ m)) h)))

-- ---- what a key's place says of the lines

found : (ls : List FoldLine) (c k : ℕ) → all_maps shaped ls ≡ true → k < length (keys ls) → ((j : ℕ) → j < k → get_or (keys ls) j 0 < c)
    → get_or (keys ls) k 0 ≡ c → row_of (get_or (column 0 ls) k 0) (get_or (column 1 ls) k 0) (get_or (column 2 ls) k 0) ≡ lookup c ls
unfolding keys column lookup
found [] c k t h low e = absurd (not-suc-le-zero h)
found ((x folds_to m) ∷ ls) c zero t h low e =
    rw (le-ltb c x (omega arith), eq-eqb c x (sym e)) (whole_row m (and_left (shaped m) (all_maps shaped ls) t))
found ((x folds_to m) ∷ ls) c (suc k) t h low e =
    let l : x < c = low zero (suc-le-suc zero-le) in
    rw (le-ltb c x (omega arith), ne_eqb c x (λ q. omega arith))
    (found ls c k (and_right (shaped m) (all_maps shaped ls) t) (le_of_suc-le-suc h) (λ j g. low (suc j) (suc-le-suc g)) e)

missing : (ls : List FoldLine) (c k : ℕ) → ((j : ℕ) → j < k → get_or (keys ls) j 0 < c) → (k < length (keys ls) → c < get_or (keys ls) k 0)
    → c ∷ [] ≡ lookup c ls
unfolding keys lookup
missing [] c k low f = refl
missing ((x folds_to m) ∷ ls) c zero low f = rw (lt-ltb c x (f (suc-le-suc zero-le)))
missing ((x folds_to m) ∷ ls) c (suc k) low f =
    let l : x < c = low zero (suc-le-suc zero-le) in
    rw (le-ltb c x (omega arith), ne_eqb c x (λ q. omega arith))
    (missing ls c k (λ j g. low (suc j) (suc-le-suc g)) (λ g. f (suc-le-suc g)))

-- ---- the same of the tables

module _ (t : List ℕ) (e : t ≡ unicode_tables) where
  keys_are : take 1557 (drop 1822 t) ≡ keys folding
  keys_are = (columns e).fold_keys

  pub window_ascends : Ascending (take 1557 (drop 1822 t))
  window_ascends = rw (columns e).fold_keys (keys_ascending folding keys_ascend_lem)

  window_long : length (take {A = ℕ} 1557 (drop 1822 t)) ≡ 1557
  window_long = omega (arith, length-take 1557 (drop 1822 t), length-drop 1822 t, (columns e).long)

  module _ (c k : ℕ) (p : Place (take 1557 (drop 1822 t)) c k) where
    place : Place (keys folding) c k
    place = rw (columns e).fold_keys at p

    keys_long : length (keys folding) ≡ 1557
    keys_long = rw (columns e).fold_keys at (window_long)

    pub row_found : {r : List ℕ} → k < 1557 → get_or t (1822 + k) 0 ≡ c
        → r ≡ row_of (get_or unicode_tables (3379 + k) 0) (get_or unicode_tables (4936 + k) 0) (get_or unicode_tables (6493 + k) 0) → r ≡ fold c
    unfolding fold
    row_found h q z =
        z ∙ row_window refl k h ∙ (found folding c k mapped_are_shaped (omega (arith, keys_long)) place.below
        (ap (λ (l : List ℕ). get_or l k 0) (sym (columns e).fold_keys) ∙ sym (in_window 1557 1822 t k h) ∙ q))

    pub row_other : k < 1557 → (get_or t (1822 + k) 0 ≡ c → ⊥) → c ∷ [] ≡ fold c
    unfolding fold
    row_other h n =
        missing folding c k place.below
        (λ l. omega (
          arith,
          place.above k (le_refl k) l,
          ap (λ (l : List ℕ). get_or l k 0) (sym (columns e).fold_keys) ∙ sym (in_window 1557 1822 t k h),
          n,
        ))

    pub row_past : 1557 ≤ k → c ∷ [] ≡ fold c
    unfolding fold
    row_past h = missing folding c k place.below (λ l. absurd (omega (arith, keys_long)))
