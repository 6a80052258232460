-- Ascending lists by a computed test, and membership in ranges by place.
use Prim.Native.Nat.{ℕ, zero, suc, ◌≤◌, ◌<◌, zero-le, suc-le-suc}
use mathlib.Core.Path.{◌≡◌, refl, ap, ◌∙◌}
use mathlib.Core.Bool.{Bool, true, false, ◌&&◌}
use mathlib.Core.List.{List, [], ◌∷◌}
use native.Mathlib.Nat.{le_refl, le_trans, le_of_suc-le-suc, not-suc-le-zero}
use native.Mathlib.Omega.{arith}
use lib.Dec.{leb, ltb}
use lib.ListN.{length, get_or}
use borrow.Author.Tests.{leb-true, leb-false, ltb-true, le-leb, lt-leb, le-ltb, lt-ltb}
use Rattle.rules.specs.Basic.{pick}
use Rattle.rules.specs.Ranges.{Range, ◌to◌, member, ascending, FoldLine, ◌folds_to◌, keys_ascend}
use Rattle.rules.proofs.Basics.{and_left, and_right, and_both}
use Rattle.letters.specs.Search.{Ascending, Place, zipped}
use Rattle.letters.specs.Tables.{starts, ends, keys}

-- ---- ascending lists

-- the test: each element is at least the one before it, and the first at least a
abbrev pub rising : ℕ → List ℕ → Bool
rising a [] = true
rising a (x ∷ xs) = leb a x && rising x xs

module _ (a x : ℕ) (xs : List ℕ) (t : rising a (x ∷ xs) ≡ true) where
  head_rises : a ≤ x
  head_rises = leb-true a x (and_left (leb a x) (rising x xs) t)

  tail_rises : rising x xs ≡ true
  tail_rises = and_right (leb a x) (rising x xs) t

all_above : (a : ℕ) (xs : List ℕ) → rising a xs ≡ true → (k : ℕ) → k < length xs → a ≤ get_or xs k 0
all_above a [] t k h = absurd (not-suc-le-zero h)
all_above a (x ∷ xs) t zero h = head_rises a x xs t
all_above a (x ∷ xs) t (suc k) h = le_trans (head_rises a x xs t) (all_above x xs (tail_rises a x xs t) k (le_of_suc-le-suc h))

pub rising_ascends : (a : ℕ) (xs : List ℕ) → rising a xs ≡ true → Ascending xs
rising_ascends a [] t p q h l = absurd (not-suc-le-zero l)
rising_ascends a (x ∷ xs) t zero zero h l = le_refl x
rising_ascends a (x ∷ xs) t zero (suc q) h l = all_above x xs (tail_rises a x xs t) q (le_of_suc-le-suc l)
rising_ascends a (x ∷ xs) t (suc p) zero h l = absurd (not-suc-le-zero h)
rising_ascends a (x ∷ xs) t (suc p) (suc q) h l =
    rising_ascends x xs (tail_rises a x xs t) p q (le_of_suc-le-suc h) (le_of_suc-le-suc l)

-- the columns of an ascending table rise
module _ (low a b : ℕ) (rs : List Range) (t : ascending low ((a to b) ∷ rs) ≡ true) where
  start_above : low < a
  unfolding ascending
  start_above = ltb-true low a (and_left (ltb low a) (leb a b) (and_left (ltb low a && leb a b) (ascending b rs) t))

  end_above : a ≤ b
  unfolding ascending
  end_above = leb-true a b (and_right (ltb low a) (leb a b) (and_left (ltb low a && leb a b) (ascending b rs) t))

  rest_ascends : ascending b rs ≡ true
  unfolding ascending
  rest_ascends = and_right (ltb low a && leb a b) (ascending b rs) t

starts_rise : (m low : ℕ) (rs : List Range) → m ≤ low → ascending low rs ≡ true → rising m (starts rs) ≡ true
unfolding starts
starts_rise m low [] h t = refl
starts_rise m low ((a to b) ∷ rs) h t =
    let u = start_above low a b rs t in
    and_both (leb m a) (rising a (starts rs)) (le-leb m a (omega arith)) (starts_rise a b rs (end_above low a b rs t) (rest_ascends low a b rs t))

ends_rise : (low : ℕ) (rs : List Range) → ascending low rs ≡ true → rising low (ends rs) ≡ true
unfolding ends
ends_rise low [] t = refl
ends_rise low ((a to b) ∷ rs) t =
    let u = start_above low a b rs t in
    let v = end_above low a b rs t in
    and_both (leb low b) (rising b (ends rs)) (le-leb low b (omega arith)) (ends_rise b rs (rest_ascends low a b rs t))

keys_rise : (low : ℕ) (ls : List FoldLine) → keys_ascend low ls ≡ true → rising low (keys ls) ≡ true
unfolding keys keys_ascend
keys_rise low [] t = refl
keys_rise low ((k folds_to m) ∷ ls) t =
    let u = ltb-true low k (and_left (ltb low k) (keys_ascend k ls) t) in
    and_both (leb low k) (rising k (keys ls)) (le-leb low k (omega arith)) (keys_rise k ls (and_right (ltb low k) (keys_ascend k ls) t))

pub keys_ascending : (ls : List FoldLine) → keys_ascend 0 ls ≡ true → Ascending (keys ls)
keys_ascending ls t = rising_ascends 0 (keys ls) (keys_rise 0 ls t)

-- ---- membership

-- the last range that can have c starts at or below it
member_in : (xs ys : List ℕ) (c k : ℕ) → k < length xs → k < length ys → ((j : ℕ) → j ≤ k → get_or xs j 0 ≤ c)
    → ((j : ℕ) → j < k → get_or ys j 0 < c) → c ≤ get_or ys k 0 → true ≡ member c (zipped xs ys)
unfolding member zipped
member_in [] ys c k h l f g b = absurd (not-suc-le-zero h)
member_in (x ∷ xs) [] c k h l f g b = absurd (not-suc-le-zero l)
member_in (x ∷ xs) (y ∷ ys) c zero h l f g b = simp (le-ltb c x (f 0 zero-le), le-leb c y b)
member_in (x ∷ xs) (y ∷ ys) c (suc k) h l f g b =
    rw (le-ltb c x (f 0 zero-le), lt-leb c y (g 0 (suc-le-suc zero-le)))
    (member_in xs ys c k (le_of_suc-le-suc h) (le_of_suc-le-suc l) (λ j i. f (suc j) (suc-le-suc i)) (λ j i. g (suc j) (suc-le-suc i)) b)

-- all ranges that start at or below c end below it
member_out : (xs ys : List ℕ) (c k : ℕ) → ((j : ℕ) → j < k → get_or ys j 0 < c) → (k < length xs → c < get_or xs k 0)
    → false ≡ member c (zipped xs ys)
unfolding member zipped
member_out [] ys c k g f = refl
member_out (x ∷ xs) [] c k g f = refl
member_out (x ∷ xs) (y ∷ ys) c zero g f = rw (lt-ltb c x (f (suc-le-suc zero-le)))
member_out (x ∷ xs) (y ∷ ys) c (suc k) g f =
    rw (lt-leb c y (g 0 (suc-le-suc zero-le)))
    (go (ltb c x) (member_out xs ys c k (λ j i. g (suc j) (suc-le-suc i)) (λ i. f (suc-le-suc i))))
  where
    go : (b : Bool) → false ≡ member c (zipped xs ys) → false ≡ pick b false (member c (zipped xs ys))
    go true r = refl
    go false r = r

-- what the search says
module _ (xs ys : List ℕ) (c k : ℕ) (p : Place ys c k) where
  pub settle : Ascending xs → length xs ≡ length ys → k < length xs → leb (get_or xs k 0) c ≡ member c (zipped xs ys)
  settle asc e h = go (leb (get_or xs k 0) c) refl
    where
      go : (b : Bool) → leb (get_or xs k 0) c ≡ b → b ≡ member c (zipped xs ys)
      go true q =
          let a : get_or xs k 0 ≤ c = leb-true _ _ q in
          member_in xs ys c k h (omega arith) (λ j i. omega (arith, asc j k i h)) p.below (p.above k (le_refl k) (omega arith))
      go false q = member_out xs ys c k p.below (λ i. leb-false _ _ q)

  pub settle_past : length xs ≤ k → false ≡ member c (zipped xs ys)
  settle_past l = member_out xs ys c k p.below (λ i. absurd (omega arith))

-- ---- a table that is lent, as its ranges

zip_back : (rs : List Range) → zipped (starts rs) (ends rs) ≡ rs
unfolding zipped starts ends
zip_back [] = refl
zip_back ((a to b) ∷ rs) = rw (zip_back rs)

ends_length : (rs : List Range) → length (starts rs) ≡ length (ends rs)
unfolding starts ends
ends_length [] = refl
ends_length ((a to b) ∷ rs) = ap suc (ends_length rs)

module _ (rs : List Range) (t u : List ℕ) (et : t ≡ starts rs) (eu : u ≡ ends rs) where
  pub lent_ready : ascending 0 rs ≡ true → Ascending t × Ascending u × (length t ≡ length u)
  lent_ready a =
      rw (et, eu) (rising_ascends 0 (starts rs) (starts_rise 0 0 rs (le_refl 0) a), rising_ascends 0 (ends rs) (ends_rise 0 rs a), ends_length rs)

  pub lent_member : (c : ℕ) (r : Bool) → r ≡ member c (zipped t u) → r ≡ member c rs
  lent_member c r e = e ∙ rw (et, eu, zip_back rs)
