-- Bytes joined at a place where a character starts: their contents, and their kept contents, are joined as they are.
use Prim.Native.Nat.{ℕ, zero, suc, ◌≤◌}
use mathlib.Core.Path.{◌≡◌, refl, sym, ap, ◌∙◌}
use mathlib.Core.List.{List, [], ◌∷◌, ◌++◌}
use mathlib.Core.Bool.{Bool, true, false, ◌&&◌, and-false}
use Rattle.std.specs.Prelude.{Option, None, Some}
use native.Mathlib.Omega.{arith}
use lib.Dec.{eqb}
use lib.ListN.{length, get_or}
use borrow.Author.Tests.{eqb-true, eqb-false, eq-eqb}
use Rattle.rules.specs.Basic.{pick, eq_list}
use Rattle.rules.specs.Sheet.{escaped}
use Rattle.rules.specs.Text.{retain}
use Rattle.rules.specs.Unicode.{fold_name, same_name}
use Rattle.rules.specs.Utf8.{size_of, second, later, sized, first_of, followers, chars_from, chars}
use Rattle.rules.proofs.Basics.{by_order, no_truth}
use Rattle.rules.proofs.Begins.{second_later, second_ascii, later_ascii}
use Rattle.rules.proofs.Chars.{fits}
use Rattle.rules.proofs.Folds.{fold_name_append}
use Rattle.content.specs.Contents.{pair_or, plain_of, content_in, kept_in}
use Rattle.content.specs.Parts.{Opens}
use Rattle.content.proofs.Plains.{plain_one, plain_pair, by_backslash, First, low, high, first}
use Rattle.content.proofs.Kept.{retain_front, Skipping, skip_other, skip_end}

-- ---- escapes: the front does not end with a backslash

pair_join : (o : Option ℕ) (x y z : List ℕ) → pair_or o (x ++ z) (y ++ z) ≡ pair_or o x y ++ z
unfolding pair_or
pair_join None x y z = refl
pair_join (Some c) x y z = refl

one_join : (b : ℕ) (q : List ℕ) → (b ≡ 92 → ⊥) → plain_of (b ∷ q) ≡ plain_of (b ∷ []) ++ plain_of q
one_join b q n = plain_one b q n ∙ sym (ap (λ (x : List ℕ). x ++ plain_of q) (plain_one b [] n) ∙ unfold plain_of in refl)

pair_alone : (b : ℕ) → plain_of (92 ∷ b ∷ []) ≡ pair_or (escaped b) [] (plain_of (b ∷ []))
unfolding plain_of
pair_alone b = refl

two_join : (b : ℕ) (q : List ℕ) → (b ≡ 92 → ⊥) → plain_of (92 ∷ b ∷ q) ≡ plain_of (92 ∷ b ∷ []) ++ plain_of q
two_join b q n = plain_pair b q ∙ rw (one_join b q n, pair_alone b) (pair_join (escaped b) [] (plain_of (b ∷ [])) (plain_of q))

plain_join : (p : List ℕ) (b : ℕ) (q : List ℕ) → (b ≡ 92 → ⊥) → plain_of (p ++ (b ∷ q)) ≡ plain_of (p ++ (b ∷ [])) ++ plain_of q
plain_join [] b q n = one_join b q n
plain_join (c ∷ []) b q n =
    by_backslash c
    (λ e. rw e (two_join b q n))
    (λ m. rw (plain_one c (b ∷ q) m, plain_one c (b ∷ []) m, one_join b q n))
plain_join (c ∷ d ∷ s) b q n =
    by_backslash c
    (λ e. rw e (plain_pair d (s ++ (b ∷ q)) ∙ rw (plain_join s b q n, plain_join (d ∷ s) b q n, plain_pair d (s ++ (b ∷ []))) (pair_join (escaped d) (plain_of (s ++ (b ∷ []))) (plain_of (d ∷ (s ++ (b ∷ [])))) (plain_of q))))
    (λ m. rw (plain_one c (d ∷ (s ++ (b ∷ q))) m, plain_one c (d ∷ (s ++ (b ∷ []))) m, plain_join (d ∷ s) b q n))

-- ---- UTF-8: the rest starts with no later byte

second_closed : (a b : ℕ) → later b ≡ false → second a b ≡ false
second_closed a b n = go (second a b) refl
  where
    go : (x : Bool) → second a b ≡ x → second a b ≡ false
    go true e = no_truth (sym n ∙ second_later a b e)
    go false e = e

module _ (y : List ℕ) (n : later (get_or y 0 0) ≡ false) where
  closed : (a : ℕ) → second a (get_or y 0 0) ≡ second a 0
  closed a = second_closed a (get_or y 0 0) n ∙ sym (second_ascii a 0 (omega arith))

  shut : later (get_or y 0 0) ≡ later 0
  shut = n ∙ sym (later_ascii 0 (omega arith))

  sized_join : (k a : ℕ) (s : List ℕ) → sized k a (s ++ y) ≡ sized k a s
  unfolding sized
  sized_join zero a s = refl
  sized_join (suc zero) a s = refl
  sized_join (suc (suc zero)) a [] = rw (closed a, second_ascii a 0 (omega arith))
  sized_join (suc (suc zero)) a (b ∷ s) = refl
  sized_join (suc (suc (suc zero))) a [] = rw (closed a, second_ascii a 0 (omega arith))
  sized_join (suc (suc (suc zero))) a (b ∷ []) = rw (n, later_ascii 0 (omega arith), and-false)
  sized_join (suc (suc (suc zero))) a (b ∷ d ∷ s) = refl
  sized_join (suc (suc (suc (suc k)))) a [] = rw (closed a, second_ascii a 0 (omega arith))
  sized_join (suc (suc (suc (suc k)))) a (b ∷ []) = rw (n, later_ascii 0 (omega arith), and-false)
  sized_join (suc (suc (suc (suc k)))) a (b ∷ d ∷ []) = rw (n, later_ascii 0 (omega arith), and-false)
  sized_join (suc (suc (suc (suc k)))) a (b ∷ d ∷ e ∷ s) = refl

  first_join : (a : ℕ) (s : List ℕ) → first_of a (s ++ y) ≡ first_of a s
  unfolding first_of
  first_join a s = sized_join (size_of a) a s

  join_from : (k : ℕ) (x : List ℕ) → k ≤ length x → chars_from k (x ++ y) ≡ chars_from k x ++ chars_from 0 y
  unfolding chars_from
  join_from zero [] l = refl
  join_from (suc k) [] l = absurd (omega arith)
  join_from (suc k) (a ∷ x) l = join_from k x (omega arith)
  join_from zero (a ∷ x) l = rw (first_join a x, join_from (followers a (first_of a x)) x (fits a x))

  chars_join : (x : List ℕ) → chars (x ++ y) ≡ chars x ++ chars y
  unfolding chars
  chars_join x = join_from 0 x (omega arith)

-- ---- the content

plain_open : {r : List ℕ} → First r → later (get_or r 0 0) ≡ false → later (get_or (plain_of r) 0 0) ≡ false
plain_open {r} (low h g) n = later_ascii (get_or (plain_of r) 0 0) g
plain_open (high h e) n = rw e n

-- the front ends with b
module _ (p : List ℕ) (b : ℕ) (r : List ℕ) (n : b ≡ 92 → ⊥) (o : later (get_or r 0 0) ≡ false) where
  pub content_join : content_in (p ++ (b ∷ r)) ≡ content_in (p ++ (b ∷ [])) ++ content_in r
  unfolding content_in
  content_join = ap chars (plain_join p b r n) ∙ chars_join (plain_of r) (plain_open (first r) o) (plain_of (p ++ (b ∷ [])))

-- ---- with single blanks: no blank at the front of the rest

retain_join : (q : ℕ) (xs ys : List ℕ) → retain 32 ys ≡ retain 0 ys → retain q (xs ++ ys) ≡ retain q xs ++ retain 0 ys
unfolding retain
retain_join q [] ys e = go (eqb q 32) refl
  where
    go : (x : Bool) → eqb q 32 ≡ x → retain q ys ≡ retain 0 ys
    go true z = rw (eqb-true q 32 z) e
    go false z = retain_front q ys (eqb-false q 32 z)
retain_join q (x ∷ xs) ys e = rw (retain_join x xs ys e) (go (eqb x 32 && eqb q 32))
  where
    go : (t : Bool) → pick t (retain x xs ++ retain 0 ys) (x ∷ (retain x xs ++ retain 0 ys)) ≡ pick t (retain x xs) (x ∷ retain x xs) ++ retain 0 ys
    go true = refl
    go false = refl

retain_opens : (r : List ℕ) → Opens r → retain 32 (content_in r) ≡ retain 0 (content_in r)
unfolding kept_in
retain_opens r o =
    let v : Skipping r 0 0 = record { least = omega arith; most = omega arith; is = refl } in
    by_order (length r) 0 (λ l. (skip_end v l).is) (λ l. (skip_other v (omega arith) o.solid).is)

module _ (p : List ℕ) (b : ℕ) (n : b ≡ 92 → ⊥) where
  pub kept_join : (r : List ℕ) → Opens r → kept_in (p ++ (b ∷ r)) ≡ kept_in (p ++ (b ∷ [])) ++ kept_in r
  unfolding kept_in
  kept_join r o = ap (retain 0) (content_join p b r n o.starts) ∙ retain_join 0 (content_in (p ++ (b ∷ []))) (content_in r) (retain_opens r o)

  fold_join : (r : List ℕ) → Opens r → fold_name (kept_in (p ++ (b ∷ r))) ≡ fold_name (kept_in (p ++ (b ∷ []))) ++ fold_name (kept_in r)
  fold_join r o = ap fold_name (kept_join r o) ∙ fold_name_append (kept_in (p ++ (b ∷ []))) (kept_in r)

-- ---- names with the same front

same_front : (w x y : List ℕ) → eq_list (w ++ x) (w ++ y) ≡ eq_list x y
unfolding eq_list
same_front [] x y = refl
same_front (c ∷ w) x y = rw (eq-eqb c c refl) (same_front w x y)

pub names_join : (p : List ℕ) (b : ℕ) (r s : List ℕ) → (b ≡ 92 → ⊥) → Opens r → Opens s → same_name (kept_in (p ++ (b ∷ r))) (kept_in (p ++ (b ∷ s))) ≡ same_name (kept_in r) (kept_in s)
unfolding same_name
names_join p b r s n o q = rw (fold_join p b n r o, fold_join p b n s q) (same_front (fold_name (kept_in (p ++ (b ∷ [])))) (fold_name (kept_in r)) (fold_name (kept_in s)))
