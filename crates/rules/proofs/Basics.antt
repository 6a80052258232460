-- Laws of the small words that proofs of all layers cite.
use Prim.Native.Nat.{ℕ, ◌≤◌, ◌<◌}
use mathlib.Core.Path.{◌≡◌, refl, sym}
use mathlib.Core.Bool.{Bool, true, false, ◌&&◌, ◌||◌}
use Rattle.std.specs.Prelude.{None, Some}
use native.Mathlib.Omega.{arith}
use lib.Dec.{leb}
use borrow.Author.Tests.{leb-true, leb-false, le-leb, lt-leb}
use Rattle.rules.specs.Basic.{pick, within}

-- a property of both branches is one of the choice
pub pick_either : {X : Type 0} (P : X → Type 0) (b : Bool) (x y : X) → (b ≡ true → P x) → (b ≡ false → P y) → P (pick b x y)
pick_either P true x y p q = p refl
pick_either P false x y p q = q refl

-- what cannot be
pub no_some : {A : Type 0} {P : Type 0} {a : A} → None ≡ Some a → P
no_some e = absurd (let z : ◌≡◌ {A = ℕ} 0 1 = cc in omega arith)

pub no_truth : {P : Type 0} → false ≡ true → P
no_truth e = absurd (let z : ◌≡◌ {A = ℕ} 0 1 = cc in omega arith)

pub some_inj : {A : Type 0} {a b : A} → Some a ≡ Some b → a ≡ b
some_inj e = cc

pub and_left : (a b : Bool) → (a && b) ≡ true → a ≡ true
and_left true b q = refl
and_left false b q = no_truth q

pub and_right : (a b : Bool) → (a && b) ≡ true → b ≡ true
and_right true b q = q
and_right false b q = no_truth q

pub and_true : (a : Bool) → (a && true) ≡ a
and_true true = refl
and_true false = refl

pub and_false : (a : Bool) → (a && false) ≡ false
and_false true = refl
and_false false = refl

pub and_assoc : (a b c : Bool) → ((a && b) && c) ≡ (a && (b && c))
and_assoc true b c = refl
and_assoc false b c = refl

pub or_left : (a b : Bool) → (a || b) ≡ false → a ≡ false
or_left true b e = e
or_left false b e = refl

pub or_right : (a b : Bool) → (a || b) ≡ false → b ≡ false
or_right true b e = no_truth (sym e)
or_right false b e = e

pub and_both : (a b : Bool) → a ≡ true → b ≡ true → (a && b) ≡ true
and_both true b p q = q
and_both false b p q = p

-- two numbers, one way or the other
pub by_order : {P : Type 0} (a b : ℕ) → (a ≤ b → P) → (b < a → P) → P
by_order {P} a b f g = by (leb a b) refl
  where
    by : (t : Bool) → leb a b ≡ t → P
    by true e = f (leb-true _ _ e)
    by false e = g (leb-false _ _ e)

-- the range test
pub within_yes : (a b c : ℕ) → a ≤ c → c ≤ b → within a b c ≡ true
within_yes a b c h g = rw (le-leb a c h, le-leb c b g)

pub within_low : (a b c : ℕ) → c < a → within a b c ≡ false
within_low a b c h = rw (lt-leb a c h)

pub within_high : (a b c : ℕ) → b < c → within a b c ≡ false
within_high a b c h = go (leb a c)
  where
    go : (x : Bool) → (x && leb c b) ≡ false
    go true = lt-leb c b h
    go false = refl

pub within_from : (a b c : ℕ) → within a b c ≡ true → a ≤ c
within_from a b c q = leb-true a c (and_left _ _ q)

pub within_to : (a b c : ℕ) → within a b c ≡ true → c ≤ b
within_to a b c q = leb-true c b (and_right (leb a c) (leb c b) q)
