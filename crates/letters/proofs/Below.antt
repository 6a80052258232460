-- A fact of the numbers below a bound, by one computed test.
use Prim.Native.Nat.{ℕ, zero, suc, ◌<◌}
use mathlib.Core.Path.{◌≡◌, refl}
use mathlib.Core.Bool.{Bool, true, false, ◌&&◌}
use native.Mathlib.Nat.{not-suc-le-zero}
use native.Mathlib.Omega.{arith}
use lib.Dec.{eqb}
use borrow.Author.Tests.{eqb-true, eqb-false}
use Rattle.rules.proofs.Basics.{and_left, and_right}

module _ (test : ℕ → Bool) where
  abbrev pub all_below : ℕ → Bool
  all_below zero = true
  all_below (suc n) = test n && all_below n

  pub below : (n : ℕ) → all_below n ≡ true → (c : ℕ) → c < n → test c ≡ true
  below zero t c h = absurd (not-suc-le-zero h)
  below (suc n) t c h = go (eqb c n) refl (λ l. below n (and_right (test n) (all_below n) t) c l)
    where
      go : (b : Bool) → eqb c n ≡ b → (c < n → test c ≡ true) → test c ≡ true
      go true e f = rw (eqb-true c n e) (and_left (test n) (all_below n) t)
      go false e f = let d = eqb-false c n e in f (omega arith)
