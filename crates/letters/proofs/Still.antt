-- Code points whose answer needs no search: those in gaps of the tables, or in a large range; each by one computed test.
use Prim.Native.Nat.{ℕ, ◌≤◌, ◌<◌}
use mathlib.Core.Path.{◌≡◌, refl, sym, ◌∙◌}
use mathlib.Core.Bool.{Bool, true, false, ◌&&◌}
use mathlib.Core.List.{List, [], ◌∷◌}
use native.Mathlib.Omega.{arith}
use lib.Dec.{eqb, leb, ltb}
use borrow.Author.Tests.{ltb-true, leb-true, ne_eqb, lt-ltb, le-ltb, lt-leb, le-leb}
use Rattle.rules.specs.Basic.{pick, within}
use Rattle.rules.specs.Ranges.{Range, ◌to◌, member, FoldLine, ◌folds_to◌, lookup}
use Rattle.rules.specs.Alphabetic.{alphabetic}
use Rattle.rules.specs.Numeric.{numeric}
use Rattle.rules.specs.WhiteSpace.{white_space}
use Rattle.rules.specs.Folding.{folding}
use Rattle.rules.specs.Unicode.{is_white_space, is_alphabetic, is_numeric, fold}
use Rattle.rules.proofs.Basics.{no_truth, and_left, and_right, within_from, within_to}

-- ---- no key from lo to hi

module _ (lo hi : ℕ) where
  abbrev free : List FoldLine → Bool
  free [] = true
  free ((k folds_to m) ∷ ls) = pick (ltb k lo) true (ltb hi k) && free ls

  module _ (c : ℕ) (h : lo ≤ c) (g : c ≤ hi) where
    free_line : (k : ℕ) (m rest : List ℕ) → pick (ltb k lo) true (ltb hi k) ≡ true → c ∷ [] ≡ rest → c ∷ [] ≡ pick (ltb c k) (c ∷ []) (pick (eqb c k) m rest)
    free_line k m rest t e = go (ltb k lo) refl t
      where
        go : (x : Bool) → ltb k lo ≡ x → pick x true (ltb hi k) ≡ true → c ∷ [] ≡ pick (ltb c k) (c ∷ []) (pick (eqb c k) m rest)
        go true z t = let l = ltb-true k lo z in rw (le-ltb c k (omega arith), ne_eqb c k (λ q. omega arith)) e
        go false z t = let l = ltb-true hi k t in rw (lt-ltb c k (omega arith))

    no_key : (ls : List FoldLine) → free ls ≡ true → c ∷ [] ≡ lookup c ls
    unfolding lookup
    no_key [] t = refl
    no_key ((k folds_to m) ∷ ls) t = free_line k m (lookup c ls) (and_left (pick (ltb k lo) true (ltb hi k)) (free ls) t) (no_key ls (and_right (pick (ltb k lo) true (ltb hi k)) (free ls) t))

east_free : free 0x588 0x109f folding ≡ true
unfolding folding
east_free = refl

han_free : free 0x2cf3 0xa63f folding ≡ true
unfolding folding
han_free = refl

hangul_free : free 0xabc0 0xfaff folding ≡ true
unfolding folding
hangul_free = refl

module _ (c : ℕ) where
  pub still_east : 0x588 ≤ c → c < 0x10a0 → c ∷ [] ≡ fold c
  unfolding fold
  still_east h g = no_key 0x588 0x109f c h (omega arith) folding east_free

  pub still_han : 0x2cf3 ≤ c → c < 0xa640 → c ∷ [] ≡ fold c
  unfolding fold
  still_han h g = no_key 0x2cf3 0xa63f c h (omega arith) folding han_free

  pub still_hangul : {r : Bool} → r ≡ within 0xabc0 0xfaff c → r ≡ true → c ∷ [] ≡ fold c
  unfolding fold
  still_hangul e t = no_key 0xabc0 0xfaff c (within_from 0xabc0 0xfaff c (sym e ∙ t)) (within_to 0xabc0 0xfaff c (sym e ∙ t)) folding hangul_free

-- ---- no range from lo to hi

module _ (lo hi : ℕ) where
  abbrev apart : List Range → Bool
  apart [] = true
  apart ((a to b) ∷ rs) = pick (ltb b lo) true (ltb hi a) && apart rs

  module _ (c : ℕ) (h : lo ≤ c) (g : c ≤ hi) where
    apart_range : (a b : ℕ) (rest : Bool) → pick (ltb b lo) true (ltb hi a) ≡ true → false ≡ rest → false ≡ pick (ltb c a) false (pick (leb c b) true rest)
    apart_range a b rest t e = go (ltb b lo) refl t
      where
        within_or : (y : Bool) → false ≡ pick y false false
        within_or true = refl
        within_or false = refl

        go : (x : Bool) → ltb b lo ≡ x → pick x true (ltb hi a) ≡ true → false ≡ pick (ltb c a) false (pick (leb c b) true rest)
        go true z t = let l = ltb-true b lo z in rw (lt-leb c b (omega arith), ← e) (within_or (ltb c a))
        go false z t = let l = ltb-true hi a t in rw (lt-ltb c a (omega arith))

    no_range : (rs : List Range) → apart rs ≡ true → false ≡ member c rs
    unfolding member
    no_range [] t = refl
    no_range ((a to b) ∷ rs) t = apart_range a b (member c rs) (and_left (pick (ltb b lo) true (ltb hi a)) (apart rs) t) (no_range rs (and_right (pick (ltb b lo) true (ltb hi a)) (apart rs) t))

white_free : apart 0xa1 0x167f white_space ≡ true
unfolding white_space
white_free = refl

-- none after the last one
white_past : apart 0x3001 0xffffffff white_space ≡ true
unfolding white_space
white_past = refl

module _ (c : ℕ) where
  pub no_white : 0xa0 < c → c < 0x1680 → false ≡ is_white_space c
  unfolding is_white_space
  no_white h g = no_range 0xa1 0x167f c (omega arith) (omega arith) white_space white_free

  pub past_white : 0x3000 < c → c ≤ 0xffffffff → false ≡ is_white_space c
  unfolding is_white_space
  past_white h g = no_range 0x3001 0xffffffff c (omega arith) g white_space white_past

-- ---- marks

pub record Unlettered (c : ℕ) : Type 0 where
  pub alphabetic : false ≡ is_alphabetic c
  pub numeric : false ≡ is_numeric c

module _ (lo hi : ℕ) (a : apart lo hi alphabetic ≡ true) (n : apart lo hi numeric ≡ true) (c : ℕ) where
  unlettered : lo ≤ c → c ≤ hi → Unlettered c
  unfolding is_alphabetic is_numeric
  unlettered h g = record { alphabetic = no_range lo hi c h g alphabetic a; numeric = no_range lo hi c h g numeric n }

module _ (c : ℕ) where
  pub mark_general : {r : Bool} → r ≡ within 0x2000 0x206f c → r ≡ true → (false ≡ is_alphabetic c) × (false ≡ is_numeric c)
  unfolding alphabetic numeric
  mark_general e t = let k = unlettered 0x2000 0x206f refl refl c (within_from 0x2000 0x206f c (sym e ∙ t)) (within_to 0x2000 0x206f c (sym e ∙ t)) in (k.alphabetic, k.numeric)

  pub mark_first : 0x3000 ≤ c → c < 0x3005 → (false ≡ is_alphabetic c) × (false ≡ is_numeric c)
  unfolding alphabetic numeric
  mark_first h g = let k = unlettered 0x3000 0x3004 refl refl c h (omega arith) in (k.alphabetic, k.numeric)

  pub mark_second : 0x3007 < c → c < 0x3021 → (false ≡ is_alphabetic c) × (false ≡ is_numeric c)
  unfolding alphabetic numeric
  mark_second h g = let k = unlettered 0x3008 0x3020 refl refl c (omega arith) (omega arith) in (k.alphabetic, k.numeric)

  pub mark_wide : {r : Bool} → r ≡ within 0xff00 0xff0f c → r ≡ true → (false ≡ is_alphabetic c) × (false ≡ is_numeric c)
  unfolding alphabetic numeric
  mark_wide e t = let k = unlettered 0xff00 0xff0f refl refl c (within_from 0xff00 0xff0f c (sym e ∙ t)) (within_to 0xff00 0xff0f c (sym e ∙ t)) in (k.alphabetic, k.numeric)

-- ---- one range has all from lo to hi

module _ (lo hi : ℕ) where
  abbrev covers : List Range → Bool
  covers [] = false
  covers ((a to b) ∷ rs) = pick (ltb b lo) (leb a b && covers rs) (leb a lo && leb hi b)

  module _ (c : ℕ) (h : lo ≤ c) (g : c ≤ hi) where
    in_range : (rs : List Range) → covers rs ≡ true → true ≡ member c rs
    unfolding member
    in_range [] t = no_truth t
    in_range ((a to b) ∷ rs) t = go (ltb b lo) refl t (λ q. in_range rs q)
      where
        go : (x : Bool) → ltb b lo ≡ x → pick x (leb a b && covers rs) (leb a lo && leb hi b) ≡ true → (covers rs ≡ true → true ≡ member c rs) → true ≡ pick (ltb c a) false (pick (leb c b) true (member c rs))
        go true z t f =
            let l = ltb-true b lo z in
            let m = leb-true a b (and_left (leb a b) (covers rs) t) in
            rw (le-ltb c a (omega arith), lt-leb c b (omega arith)) (f (and_right (leb a b) (covers rs) t))
        go false z t f =
            let l = leb-true a lo (and_left (leb a lo) (leb hi b) t) in
            let m = leb-true hi b (and_right (leb a lo) (leb hi b) t) in
            rw (le-ltb c a (omega arith), le-leb c b (omega arith))

han_covers : covers 0x4e00 0xa48c alphabetic ≡ true
unfolding alphabetic
han_covers = refl

pub han : (c : ℕ) {r : Bool} → r ≡ within 0x4e00 0xa48c c → r ≡ true → true ≡ is_alphabetic c
unfolding is_alphabetic
han c e t = in_range 0x4e00 0xa48c c (within_from 0x4e00 0xa48c c (sym e ∙ t)) (within_to 0x4e00 0xa48c c (sym e ∙ t)) alphabetic han_covers
