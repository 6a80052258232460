-- The folding of the code points that have a word each, by one computed test for each block.
use Prim.Native.Nat.{ℕ, zero, suc, ◌+◌, ◌-◌, ◌≤◌, ◌<◌}
use mathlib.Core.Path.{◌≡◌, refl, ap, ◌∙◌}
use mathlib.Core.Bool.{Bool, true, false, ◌&&◌}
use mathlib.Core.List.{List, [], ◌∷◌}
use native.Mathlib.Nat.{not-suc-le-zero}
use native.Mathlib.Omega.{arith}
use lib.Dec.{ltb}
use lib.ListN.{get_or}
use borrow.Author.Tests.{ltb-true, ltb-false, eq-eqb, lt-ltb, le-ltb}
use Rattle.rules.specs.Basic.{pick, eq_list}
use Rattle.rules.specs.Ranges.{lookup}
use Rattle.rules.specs.Folding.{folding}
use Rattle.rules.specs.Unicode.{fold}
use Rattle.rules.proofs.Basics.{and_left, and_right, no_truth}
use Rattle.rules.proofs.SameChars.{eq_true}
use Rattle.letters.specs.Tables.{column, keys_below, word_for, near_word, near_code, near, unicode_tables}
use Rattle.letters.specs.Folded.{row_of}
use Rattle.letters.proofs.Ascii.{alone, alone_is}
use Rattle.letters.proofs.Below.{all_below, below}
use Rattle.letters.proofs.Windows.{columns, in_window, row_in, row_window}

-- ---- the words

near_at : (j n i : ℕ) → i < n → get_or (near j n) i 0 ≡ near_word (near_code (j + i))
unfolding near
near_at j zero i h = absurd (not-suc-le-zero h)
near_at j (suc n) zero h = let z : j ≡ j + 0 = omega arith in ap (λ (k : ℕ). near_word (near_code k)) z
near_at j (suc n) (suc i) h = let z : suc j + i ≡ j + suc i = omega arith in near_at (suc j) n i (omega arith) ∙ ap (λ (k : ℕ). near_word (near_code k)) z

-- the word x tells the folding m
abbrev tells : ℕ → List ℕ → Bool
tells x m = pick (ltb x 0x110000) (alone x m) (ltb (x - 0x110000) 1557 && eq_list (row_in (x - 0x110000)) m)

-- that of c does
abbrev told : ℕ → List ℕ → Bool
told c [] = false
told c (x ∷ []) = ltb x 0x110000
told c (x ∷ y ∷ xs) = tells (0x110000 + keys_below c folding) (x ∷ y ∷ xs)

told_tells : (c : ℕ) (m : List ℕ) → told c m ≡ true → tells (word_for c m) m ≡ true
unfolding word_for
told_tells c [] t = no_truth t
told_tells c (x ∷ []) t = rw (t, eq-eqb x x refl)
told_tells c (x ∷ y ∷ xs) t = t

abbrev near_told : ℕ → Bool
near_told c = told c (fold c)

first_told : all_below (λ i. near_told (0x80 + i)) 1288 ≡ true
unfolding keys_below column row_of fold lookup folding eq_list
first_told = refl

second_told : all_below (λ i. near_told (0x1e00 + i)) 512 ≡ true
unfolding keys_below column row_of fold lookup folding eq_list
second_told = refl

near_told_lem : (i : ℕ) → i < 1800 → tells (near_word (near_code i)) (fold (near_code i)) ≡ true
unfolding near_word near_code
near_told_lem i h = told_tells (near_code i) (fold (near_code i)) (go (ltb i 1288) refl)
  where
    go : (b : Bool) → ltb i 1288 ≡ b → near_told (pick b (0x80 + i) (0x1e00 + (i - 1288))) ≡ true
    go true e = below (λ k. near_told (0x80 + k)) 1288 first_told i (ltb-true i 1288 e)
    go false e = below (λ k. near_told (0x1e00 + k)) 512 second_told (i - 1288) (omega (arith, ltb-false i 1288 e))

-- ---- in the tables

module _ (t : List ℕ) (e : t ≡ unicode_tables) (i : ℕ) (h : i < 1800) where
  word_is : get_or t (8050 + i) 0 ≡ near_word (near_code i)
  word_is =
      let z : 0 + i ≡ i = omega arith in
      in_window 1800 8050 t i h ∙ ap (λ (l : List ℕ). get_or l i 0) (columns e).fold_near ∙ near_at 0 1800 i h ∙ ap (λ (k : ℕ). near_word (near_code k)) z

  module _ {x : ℕ} (q : x ≡ get_or t (8050 + i) 0) where
    word_tells : tells x (fold (near_code i)) ≡ true
    word_tells = rw (q, word_is) (near_told_lem i h)

    pub near_one : x < 0x110000 → x ∷ [] ≡ fold (near_code i)
    near_one l = alone_is x (fold (near_code i)) (rw (lt-ltb x 0x110000 l) at word_tells)

    several : 0x110000 ≤ x → (ltb (x - 0x110000) 1557 && eq_list (row_in (x - 0x110000)) (fold (near_code i))) ≡ true
    several l = rw (le-ltb x 0x110000 l) at word_tells

    pub near_few : 0x110000 ≤ x → x - 0x110000 < 1557
    near_few l = ltb-true (x - 0x110000) 1557 (and_left (ltb (x - 0x110000) 1557) (eq_list (row_in (x - 0x110000)) (fold (near_code i))) (several l))

    pub near_row : 0x110000 ≤ x → (r : List ℕ) → r ≡ row_of (get_or unicode_tables (3379 + (x - 0x110000)) 0) (get_or unicode_tables (4936 + (x - 0x110000)) 0) (get_or unicode_tables (6493 + (x - 0x110000)) 0) → r ≡ fold (near_code i)
    near_row l r z =
        let k = x - 0x110000 in
        let f = near_few l in
        z ∙ row_window refl k f ∙ (eq_true (row_in k) (fold (near_code i)) (and_right (ltb k 1557) (eq_list (row_in k) (fold (near_code i))) (several l)))

-- ---- the two blocks

pub near_first : (c : ℕ) → 0x80 ≤ c → c < 0x588 → near_code (c - 128) ≡ c
unfolding near_code
near_first c h g = let z : 128 + (c - 128) ≡ c = omega arith in rw (lt-ltb (c - 128) 1288 (omega arith)) z

pub near_second : (c : ℕ) → 0x1e00 ≤ c → near_code (c - 0x1e00 + 1288) ≡ c
unfolding near_code
near_second c h =
    let z : 0x1e00 + (c - 0x1e00 + 1288 - 1288) ≡ c = omega arith in
    rw (le-ltb (c - 0x1e00 + 1288) 1288 (omega arith)) z
