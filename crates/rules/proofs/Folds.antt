-- The tables ascend; folding twice is folding once; the shape of what a code point folds to.
use Prim.Native.Nat.{ℕ, zero, suc, ◌≤◌, ◌<◌}
use native.Mathlib.Nat.{le_of_suc-le-suc, not-suc-le-zero}
use mathlib.Core.Path.{◌≡◌, refl, ap, ◌∙◌}
use mathlib.Core.Logic.{◌⊎◌, inl, inr}
use mathlib.Core.Bool.{Bool, true, false, ◌&&◌, ◌||◌, not}
use mathlib.Core.List.{List, [], ◌∷◌, ◌++◌, append_assoc, append-nil}
use native.Mathlib.Omega.{arith}
use lib.Dec.{eqb, ltb}
use lib.ListN.{length, get_or}
use borrow.Author.Tests.{eqb-true}
use Rattle.rules.specs.Basic.{pick, within}
use Rattle.rules.specs.Ranges.{ascending, FoldLine, ◌folds_to◌, lookup, keys_ascend}
use Rattle.rules.specs.Alphabetic.{alphabetic}
use Rattle.rules.specs.Numeric.{numeric}
use Rattle.rules.specs.WhiteSpace.{white_space}
use Rattle.rules.specs.Folding.{folding}
use Rattle.rules.specs.Unicode.{fold, fold_name}
use Rattle.rules.proofs.Basics.{no_truth, and_left, and_right, and_both, within_yes, within_from, within_to}
use Rattle.rules.proofs.KeyTree.{has, key_tree}

-- ---- the tables ascend

pub white_ascends : ascending 0 white_space ≡ true
unfolding ascending white_space
white_ascends = refl

pub alphabetic_ascends : ascending 0 alphabetic ≡ true
unfolding ascending alphabetic
alphabetic_ascends = refl

pub numeric_ascends : ascending 0 numeric ≡ true
unfolding ascending numeric
numeric_ascends = refl

pub keys_ascend_lem : keys_ascend 0 folding ≡ true
unfolding keys_ascend folding
keys_ascend_lem = refl

-- ---- tests over the table

-- each key passes the test; each mapping does
module _ (test : ℕ → Bool) where
  abbrev pub all_keys : List FoldLine → Bool
  all_keys [] = true
  all_keys ((k folds_to m) ∷ ls) = test k && all_keys ls

module _ (test : List ℕ → Bool) where
  abbrev pub all_maps : List FoldLine → Bool
  all_maps [] = true
  all_maps ((k folds_to m) ∷ ls) = test m && all_maps ls

-- each of the code points passes
module _ (test : ℕ → Bool) where
  abbrev pub all_codes : List ℕ → Bool
  all_codes [] = true
  all_codes (x ∷ xs) = test x && all_codes xs

  pub all_codes_append : (xs ys : List ℕ) → all_codes xs ≡ true → all_codes ys ≡ true → all_codes (xs ++ ys) ≡ true
  all_codes_append [] ys p q = q
  all_codes_append (x ∷ xs) ys p q =
      and_both (test x) (all_codes (xs ++ ys)) (and_left (test x) (all_codes xs) p)
      (all_codes_append xs ys (and_right (test x) (all_codes xs) p) q)

  pub all_codes_at : (xs : List ℕ) (i : ℕ) → all_codes xs ≡ true → i < length xs → test (get_or xs i 0) ≡ true
  all_codes_at [] i p h = absurd (not-suc-le-zero h)
  all_codes_at (x ∷ xs) zero p h = and_left (test x) (all_codes xs) p
  all_codes_at (x ∷ xs) (suc i) p h = all_codes_at xs i (and_right (test x) (all_codes xs) p) (le_of_suc-le-suc h)

-- what is looked up is the code point itself, or a mapping and so passes
pub looked_up : (test : List ℕ → Bool) (c : ℕ) (ls : List FoldLine) → all_maps test ls ≡ true
    → (lookup c ls ≡ c ∷ []) ⊎ (test (lookup c ls) ≡ true)
unfolding lookup
looked_up test c [] t = inl refl
looked_up test c ((k folds_to m) ∷ ls) t =
    go (ltb c k) (eqb c k) (looked_up test c ls (and_right (test m) (all_maps test ls) t))
  where
    go : (a b : Bool) → (lookup c ls ≡ c ∷ []) ⊎ (test (lookup c ls) ≡ true)
        → (pick a (c ∷ []) (pick b m (lookup c ls)) ≡ c ∷ []) ⊎ (test (pick a (c ∷ []) (pick b m (lookup c ls))) ≡ true)
    go true b r = inl refl
    go false true r = inr (and_left (test m) (all_maps test ls) t)
    go false false r = r

-- ---- folding twice is folding once: each key is in the tree, and nothing that is mapped to is

abbrev is_key : ℕ → Bool
is_key x = has x key_tree

abbrev no_key : ℕ → Bool
no_key x = not (has x key_tree)

no_both : {P : Type 0} (b : Bool) → b ≡ true → not b ≡ true → P
no_both true p q = no_truth q
no_both false p q = no_truth p

apart : (k x : ℕ) → is_key k ≡ true → no_key x ≡ true → eqb x k ≡ false
apart k x p q = go (eqb x k) refl
  where
    go : (b : Bool) → eqb x k ≡ b → b ≡ false
    go true e = let h : x ≡ k = eqb-true x k e in no_both (has k key_tree) p (rw h at q)
    go false e = refl

itself : (x : ℕ) (ls : List FoldLine) → all_keys is_key ls ≡ true → no_key x ≡ true → lookup x ls ≡ x ∷ []
unfolding lookup
itself x [] t n = refl
itself x ((k folds_to m) ∷ ls) t n =
    rw (apart k x (and_left (is_key k) (all_keys is_key ls) t) n) (go (ltb x k) (itself x ls (and_right (is_key k) (all_keys is_key ls) t) n))
  where
    go : (a : Bool) → lookup x ls ≡ x ∷ [] → pick a (x ∷ []) (lookup x ls) ≡ x ∷ []
    go true r = refl
    go false r = r

keys_are_in : all_keys is_key folding ≡ true
unfolding folding
keys_are_in = refl

mapped_are_out : all_maps (all_codes no_key) folding ≡ true
unfolding folding
mapped_are_out = refl

stays : (xs : List ℕ) → all_codes no_key xs ≡ true → fold_name xs ≡ xs
unfolding fold_name fold
stays [] t = refl
stays (x ∷ xs) t = rw (itself x folding keys_are_in (and_left (no_key x) (all_codes no_key xs) t), stays xs (and_right (no_key x) (all_codes no_key xs) t))

alone : (c : ℕ) → fold_name (c ∷ []) ≡ fold c
unfolding fold_name
alone c = append-nil (fold c)

pub fold_twice : (c : ℕ) → fold_name (fold c) ≡ fold c
unfolding fold
fold_twice c = go (looked_up (all_codes no_key) c folding mapped_are_out)
  where
    go : (lookup c folding ≡ c ∷ []) ⊎ (all_codes no_key (lookup c folding) ≡ true) → fold_name (lookup c folding) ≡ lookup c folding
    go (inl e) = ap fold_name e ∙ alone c
    go (inr u) = stays (lookup c folding) u

pub fold_name_append : (a b : List ℕ) → fold_name (a ++ b) ≡ fold_name a ++ fold_name b
unfolding fold_name
fold_name_append [] b = refl
fold_name_append (x ∷ a) b = rw (fold_name_append a b, append_assoc)

pub fold_name_twice : (cs : List ℕ) → fold_name (fold_name cs) ≡ fold_name cs
unfolding fold_name
fold_name_twice [] = refl
fold_name_twice (c ∷ cs) = rw (fold_name_append (fold c) (fold_name cs), fold_twice c, fold_name_twice cs)

-- ---- the shape of a folding

-- a scalar value other than U+0000
abbrev pub named : ℕ → Bool
named x = within 1 0xd7ff x || within 0xe000 0x10ffff x

-- one to three of them
abbrev pub shaped : List ℕ → Bool
shaped m = within 1 3 (length m) && all_codes named m

pub mapped_are_shaped : all_maps shaped folding ≡ true
unfolding folding
mapped_are_shaped = refl

-- one to three code points
counted : (c : ℕ) → within 1 3 (length (fold c)) ≡ true
unfolding fold
counted c = go (looked_up shaped c folding mapped_are_shaped)
  where
    go : (lookup c folding ≡ c ∷ []) ⊎ (shaped (lookup c folding) ≡ true) → within 1 3 (length (lookup c folding)) ≡ true
    go (inl e) = rw e
    go (inr u) = and_left (within 1 3 (length (lookup c folding))) (all_codes named (lookup c folding)) u

pub fold_least : (c : ℕ) → 1 ≤ length (fold c)
fold_least c = within_from 1 3 (length (fold c)) (counted c)

pub fold_most : (c : ℕ) → length (fold c) ≤ 3
fold_most c = within_to 1 3 (length (fold c)) (counted c)

-- a test that scalar values other than U+0000 pass is kept by folding
module _ (test : ℕ → Bool) (wide : (x : ℕ) → named x ≡ true → test x ≡ true) where
  all_named : (xs : List ℕ) → all_codes named xs ≡ true → all_codes test xs ≡ true
  all_named [] p = refl
  all_named (x ∷ xs) p =
      and_both (test x) (all_codes test xs) (wide x (and_left (named x) (all_codes named xs) p))
      (all_named xs (and_right (named x) (all_codes named xs) p))

  pub fold_keeps : (c : ℕ) → test c ≡ true → all_codes test (fold c) ≡ true
  unfolding fold
  fold_keeps c h = go (looked_up shaped c folding mapped_are_shaped)
    where
      go : (lookup c folding ≡ c ∷ []) ⊎ (shaped (lookup c folding) ≡ true) → all_codes test (lookup c folding) ≡ true
      go (inl e) = rw e (and_both (test c) true h refl)
      go (inr u) = all_named (lookup c folding) (and_right (within 1 3 (length (lookup c folding))) (all_codes named (lookup c folding)) u)

  pub fold_name_keeps : (cs : List ℕ) → all_codes test cs ≡ true → all_codes test (fold_name cs) ≡ true
  unfolding fold_name
  fold_name_keeps [] h = refl
  fold_name_keeps (c ∷ cs) h =
      all_codes_append test (fold c) (fold_name cs) (fold_keeps c (and_left (test c) (all_codes test cs) h))
      (fold_name_keeps cs (and_right (test c) (all_codes test cs) h))

-- scalar values other than U+0000 fold to such
pub fold_named : (c : ℕ) → named c ≡ true → all_codes named (fold c) ≡ true
fold_named = fold_keeps named (λ x h. h)

pub fold_name_named : (cs : List ℕ) → all_codes named cs ≡ true → all_codes named (fold_name cs) ≡ true
fold_name_named = fold_name_keeps named (λ x h. h)

-- and any code points other than 0 to such, below 1114112
point : (x : ℕ) → named x ≡ true → within 1 0x10ffff x ≡ true
point x h = go (within 1 0xd7ff x) refl h
  where
    go : (b : Bool) → within 1 0xd7ff x ≡ b → (b || within 0xe000 0x10ffff x) ≡ true → within 1 0x10ffff x ≡ true
    go true e p =
        let low = within_from 1 0xd7ff x e in
        let high = within_to 1 0xd7ff x e in
        within_yes 1 0x10ffff x (omega arith) (omega arith)
    go false e p =
        let low = within_from 0xe000 0x10ffff x p in
        let high = within_to 0xe000 0x10ffff x p in
        within_yes 1 0x10ffff x (omega arith) (omega arith)

pub fold_points : (c : ℕ) → 0 < c → c < 1114112 → all_codes (within 1 0x10ffff) (fold c) ≡ true
fold_points c h g = fold_keeps (within 1 0x10ffff) point c (within_yes 1 0x10ffff c h (omega arith))
