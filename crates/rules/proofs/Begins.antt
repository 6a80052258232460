-- Table 3-7: what it means that bytes start with a character.
use Prim.Native.Nat.{ℕ, zero, suc, pred, ◌+◌, ◌*◌, ◌%◌, ◌≤◌, ◌<◌}
use mathlib.Core.Path.{◌≡◌, refl, sym, ◌∙◌}
use mathlib.Core.List.{List, [], ◌∷◌, ◌++◌}
use mathlib.Core.Bool.{Bool, true, false, ◌&&◌, and-false}
use Rattle.std.specs.Prelude.{Option, Some}
use native.Mathlib.Omega.{arith}
use lib.Dec.{eqb, leb}
use lib.ListN.{length, get_or}
use borrow.Author.Tests.{leb-true, eqb-true, le-leb, lt-leb}
use Rattle.rules.specs.Basic.{pick, within}
use Rattle.rules.specs.Utf8.{size_of, lowest, highest, second, later, sized, first_of}
use Rattle.rules.proofs.Basics.{pick_either, no_some, no_truth, some_inj, and_left, and_right, within_yes, within_low, within_high, within_from, within_to}

-- ---- sizes of first bytes

pub size_1 : (a : ℕ) → a ≤ 127 → size_of a ≡ 1
unfolding size_of
size_1 a h = rw (le-leb a 127 h)

pub size_2 : (a : ℕ) → 194 ≤ a → a ≤ 223 → size_of a ≡ 2
unfolding size_of
size_2 a h g = rw (lt-leb a 127 (omega arith), within_yes 194 223 a h g)

pub size_3 : (a : ℕ) → 224 ≤ a → a ≤ 239 → size_of a ≡ 3
unfolding size_of
size_3 a h g = rw (lt-leb a 127 (omega arith), within_high 194 223 a (omega arith), within_yes 224 239 a h g)

pub size_4 : (a : ℕ) → 240 ≤ a → a ≤ 244 → size_of a ≡ 4
unfolding size_of
size_4 a h g = rw (lt-leb a 127 (omega arith), within_high 194 223 a (omega arith), within_high 224 239 a (omega arith), within_yes 240 244 a h g)

pub size_low : (a : ℕ) → 128 ≤ a → a < 194 → size_of a ≡ 0
unfolding size_of
size_low a h g = rw (lt-leb a 127 (omega arith), within_low 194 223 a g, within_low 224 239 a (omega arith), within_low 240 244 a (omega arith))

pub size_high : (a : ℕ) → 244 < a → size_of a ≡ 0
unfolding size_of
size_high a h =
    rw (lt-leb a 127 (omega arith), within_high 194 223 a (omega arith), within_high 224 239 a (omega arith), within_high 240 244 a h)

-- ---- second and later bytes

pub second_yes : (a b : ℕ) → 128 ≤ b → b ≤ 191 → (a ≡ 224 → 160 ≤ b) → (a ≡ 240 → 144 ≤ b) → (a ≡ 237 → b ≤ 159) → (a ≡ 244 → b ≤ 143)
    → second a b ≡ true
unfolding second lowest highest
second_yes a b h g e1 e2 e3 e4 =
    within_yes _ _ b
    (pick_either (λ (x : ℕ). x ≤ b) (eqb a 224) _ _ (λ p. e1 (eqb-true a 224 p))
    (λ p. pick_either (λ (x : ℕ). x ≤ b) (eqb a 240) _ _ (λ r. e2 (eqb-true a 240 r)) (λ r. h)))
    (pick_either (λ (x : ℕ). b ≤ x) (eqb a 237) _ _ (λ p. e3 (eqb-true a 237 p))
    (λ p. pick_either (λ (x : ℕ). b ≤ x) (eqb a 244) _ _ (λ r. e4 (eqb-true a 244 r)) (λ r. g)))

pub low_at : (a b x : ℕ) → second a b ≡ true → (pick (eqb a 224) 160 (pick (eqb a 240) 144 128) ≡ x) → x ≤ b
unfolding second lowest highest
low_at a b x q e = rw (sym e) (within_from _ _ b q)

pub high_at : (a b x : ℕ) → second a b ≡ true → (pick (eqb a 237) 159 (pick (eqb a 244) 143 191) ≡ x) → b ≤ x
unfolding second lowest highest
high_at a b x q e = rw (sym e) (within_to _ _ b q)

pub second_from : (a b : ℕ) → second a b ≡ true → 128 ≤ b
second_from a b q =
    pick_either P (eqb a 224) 160 _ (λ _ l. omega arith) (λ _. pick_either P (eqb a 240) 144 128 (λ _ l. omega arith) (λ _ l. l)) (low_at a b _ q refl)
  where
    P : ℕ → Type 0
    P x = x ≤ b → 128 ≤ b

pub second_to : (a b : ℕ) → second a b ≡ true → b ≤ 191
second_to a b q =
    pick_either P (eqb a 237) 159 _ (λ _ l. omega arith) (λ _. pick_either P (eqb a 244) 143 191 (λ _ l. omega arith) (λ _ l. l)) (high_at a b _ q refl)
  where
    P : ℕ → Type 0
    P x = b ≤ x → b ≤ 191

pub later_yes : (b : ℕ) → 128 ≤ b → b ≤ 191 → later b ≡ true
unfolding later
later_yes b h g = within_yes 128 191 b h g

pub later_from : (b : ℕ) → later b ≡ true → 128 ≤ b
unfolding later
later_from b q = within_from 128 191 b q

pub later_to : (b : ℕ) → later b ≡ true → b ≤ 191
unfolding later
later_to b q = within_to 128 191 b q

pub second_later : (a b : ℕ) → second a b ≡ true → later b ≡ true
second_later a b q = later_yes b (second_from a b q) (second_to a b q)

-- no ASCII byte is one of them
pub later_ascii : (b : ℕ) → b < 128 → later b ≡ false
unfolding later
later_ascii b h = within_low 128 191 b h

pub second_ascii : (a b : ℕ) → b < 128 → second a b ≡ false
second_ascii a b h = go (second a b) refl
  where
    go : (x : Bool) → second a b ≡ x → second a b ≡ false
    go true e = let l = second_from a b e in absurd (omega arith)
    go false e = e

-- ---- the bytes a ∷ s start with the character c

pub data Begins : ℕ → List ℕ → ℕ → Type 0 where
  one : {a : ℕ} {s : List ℕ} → a ≤ 127 → Begins a s a
  two : {a b : ℕ} {s : List ℕ} → 194 ≤ a → a ≤ 223 → second a b ≡ true → Begins a (b ∷ s) (a % 32 * 64 + b % 64)
  three : {a b d : ℕ} {s : List ℕ} → 224 ≤ a → a ≤ 239 → second a b ≡ true → later d ≡ true
      → Begins a (b ∷ d ∷ s) (a % 16 * 4096 + b % 64 * 64 + d % 64)
  four : {a b d g : ℕ} {s : List ℕ} → 240 ≤ a → a ≤ 244 → second a b ≡ true → later d ≡ true → later g ≡ true
      → Begins a (b ∷ d ∷ g ∷ s) (a % 8 * 262144 + b % 64 * 4096 + d % 64 * 64 + g % 64)

-- it is what `first_of` finds
pub first_some : {a : ℕ} {s : List ℕ} {c : ℕ} → Begins a s c → first_of a s ≡ Some c
unfolding first_of sized
first_some (one {a} h) = rw (size_1 a h)
first_some (two {a} h g q) = rw (size_2 a h g, q)
first_some (three {a} h g q l) = rw (size_3 a h g, q, l)
first_some (four {a} h g q l m) = rw (size_4 a h g, q, l, m)

no_second : {P : Type 0} (a : ℕ) → second a 0 ≡ true → P
no_second a q = no_truth (sym (second_ascii a 0 (omega arith)) ∙ q)

no_later : {P : Type 0} → later 0 ≡ true → P
no_later q = no_truth (sym (later_ascii 0 (omega arith)) ∙ q)

begins_2 : (a : ℕ) (s : List ℕ) → 194 ≤ a → a ≤ 223 → second a (get_or s 0 0) ≡ true → Begins a s (a % 32 * 64 + get_or s 0 0 % 64)
begins_2 a [] h g q = no_second a q
begins_2 a (b ∷ s) h g q = two h g q

begins_3 : (a : ℕ) (s : List ℕ) → 224 ≤ a → a ≤ 239 → second a (get_or s 0 0) ≡ true → later (get_or s 1 0) ≡ true
    → Begins a s (a % 16 * 4096 + get_or s 0 0 % 64 * 64 + get_or s 1 0 % 64)
begins_3 a [] h g q l = no_second a q
begins_3 a (b ∷ []) h g q l = no_later l
begins_3 a (b ∷ d ∷ s) h g q l = three h g q l

begins_4 : (a : ℕ) (s : List ℕ) → 240 ≤ a → a ≤ 244 → second a (get_or s 0 0) ≡ true → later (get_or s 1 0) ≡ true → later (get_or s 2 0) ≡ true
    → Begins a s (a % 8 * 262144 + get_or s 0 0 % 64 * 4096 + get_or s 1 0 % 64 * 64 + get_or s 2 0 % 64)
begins_4 a [] h g q l m = no_second a q
begins_4 a (b ∷ []) h g q l m = no_later l
begins_4 a (b ∷ d ∷ []) h g q l m = no_later m
begins_4 a (b ∷ d ∷ e ∷ s) h g q l m = four h g q l m

begins_as : {a v c : ℕ} {s : List ℕ} → Some v ≡ Some c → Begins a s v → Begins a s c
begins_as {a} {v} {c} q h = let e : v ≡ c = some_inj q in rw (sym e) h

pub begins : (a : ℕ) (s : List ℕ) (c : ℕ) → first_of a s ≡ Some c → Begins a s c
unfolding first_of size_of sized
begins a s c =
    pick_either P (leb a 127) _ _ (λ b q. begins_as q (one (leb-true a 127 b)))
    (λ n1. pick_either P (within 194 223 a) _ _
    (λ b. pick_either Q (second a (get_or s 0 0)) _ _
    (λ e q. begins_as q (begins_2 a s (within_from 194 223 a b) (within_to 194 223 a b) e)) (λ e q. no_some q))
    (λ n2. pick_either P (within 224 239 a) _ _
    (λ b. pick_either Q (second a (get_or s 0 0) && later (get_or s 1 0)) _ _
    (λ e q. begins_as q (begins_3 a s (within_from 224 239 a b) (within_to 224 239 a b) (and_left _ _ e) (and_right (second a (get_or s 0 0)) _ e)))
    (λ e q. no_some q))
    (λ n3. pick_either P (within 240 244 a) _ _
    (λ b. pick_either Q (second a (get_or s 0 0) && later (get_or s 1 0) && later (get_or s 2 0)) _ _
    (λ e q. let f = and_left (second a (get_or s 0 0) && later (get_or s 1 0)) _ e in
    begins_as q
    (begins_4 a s (within_from 240 244 a b) (within_to 240 244 a b) (and_left _ _ f) (and_right (second a (get_or s 0 0)) _ f)
    (and_right (second a (get_or s 0 0) && later (get_or s 1 0)) _ e)))
    (λ e q. no_some q))
    (λ n4 q. no_some q))))
  where
    P : ℕ → Type 0
    P n = sized n a s ≡ Some c → Begins a s c

    Q : Option ℕ → Type 0
    Q o = o ≡ Some c → Begins a s c

-- what stands after a character does not matter
pub begins_more : {a : ℕ} {s : List ℕ} {c : ℕ} (t : List ℕ) → Begins a s c → Begins a (s ++ t) c
begins_more t (one h) = one h
begins_more t (two h g q) = two h g q
begins_more t (three h g q l) = three h g q l
begins_more t (four h g q l m) = four h g q l m

-- a character's bytes are all there
pub begins_fits : {a : ℕ} {s : List ℕ} {c : ℕ} → Begins a s c → pred (size_of a) ≤ length s
begins_fits (one {a} h) = rw (size_1 a h) (omega arith)
begins_fits (two {a} h g q) = rw (size_2 a h g) (omega arith)
begins_fits (three {a} h g q l) = rw (size_3 a h g) (omega arith)
begins_fits (four {a} h g q l m) = rw (size_4 a h g) (omega arith)

pub begins_size : {a : ℕ} {s : List ℕ} {c : ℕ} → Begins a s c → 1 ≤ size_of a
begins_size (one {a} h) = rw (size_1 a h) (omega arith)
begins_size (two {a} h g q) = rw (size_2 a h g) (omega arith)
begins_size (three {a} h g q l) = rw (size_3 a h g) (omega arith)
begins_size (four {a} h g q l m) = rw (size_4 a h g) (omega arith)

-- an ASCII byte after some bytes is as their end: no character goes over it
sized_ascii : (n a b : ℕ) (s t : List ℕ) → b < 128 → sized n a (s ++ (b ∷ t)) ≡ sized n a s
unfolding sized
sized_ascii zero a b s t h = refl
sized_ascii (suc zero) a b s t h = refl
sized_ascii (suc (suc zero)) a b [] t h = rw (second_ascii a b h, second_ascii a 0 (omega arith))
sized_ascii (suc (suc zero)) a b (x ∷ s) t h = refl
sized_ascii (suc (suc (suc zero))) a b [] t h = rw (second_ascii a b h, second_ascii a 0 (omega arith))
sized_ascii (suc (suc (suc zero))) a b (x ∷ []) t h = rw (later_ascii b h, later_ascii 0 (omega arith), and-false)
sized_ascii (suc (suc (suc zero))) a b (x ∷ y ∷ s) t h = refl
sized_ascii (suc (suc (suc (suc n)))) a b [] t h = rw (second_ascii a b h, second_ascii a 0 (omega arith))
sized_ascii (suc (suc (suc (suc n)))) a b (x ∷ []) t h = simp (later_ascii b h, later_ascii 0 (omega arith), and-false)
sized_ascii (suc (suc (suc (suc n)))) a b (x ∷ y ∷ []) t h = simp (later_ascii b h, later_ascii 0 (omega arith), and-false)
sized_ascii (suc (suc (suc (suc n)))) a b (x ∷ y ∷ z ∷ s) t h = refl

pub first_ascii : (a b : ℕ) (s t : List ℕ) → b < 128 → first_of a (s ++ (b ∷ t)) ≡ first_of a s
unfolding first_of
first_ascii a b s t h = sized_ascii (size_of a) a b s t h
