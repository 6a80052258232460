-- The file of the flags.
use Prim.Native.Nat.{ℕ, ◌-◌, ◌≤◌, ◌<◌}
use mathlib.Core.Path.{◌≡◌, refl}
use mathlib.Core.List.{List, [], ◌∷◌}
use native.Mathlib.Omega.{arith}
use lib.ListN.{length, get_or}
use Rattle.rules.specs.Answer.{flags_of}
use Rattle.rules.proofs.Basics.{within_yes, within_low, within_high}

pub flags_other : (f : List ℕ) → (length f ≡ 1 → ⊥) → 8 ≡ flags_of f
unfolding flags_of
flags_other [] h = refl
flags_other (c ∷ []) h = absurd (h refl)
flags_other (c ∷ d ∷ s) h = refl

module _ (c : ℕ) where
  pub flags_low : (f : List ℕ) → length f ≡ 1 → c ≡ get_or f 0 0 → c < 48 → 8 ≡ flags_of f
  unfolding flags_of
  flags_low [] n e h = absurd (omega arith)
  flags_low (b ∷ []) n e h = rw (within_low 48 57 b (omega arith))
  flags_low (b ∷ d ∷ s) n e h = refl

  pub flags_high : (f : List ℕ) → length f ≡ 1 → c ≡ get_or f 0 0 → 57 < c → 8 ≡ flags_of f
  unfolding flags_of
  flags_high [] n e h = absurd (omega arith)
  flags_high (b ∷ []) n e h = rw (within_high 48 57 b (omega arith))
  flags_high (b ∷ d ∷ s) n e h = refl

  pub flags_digit : (f : List ℕ) → length f ≡ 1 → c ≡ get_or f 0 0 → 48 ≤ c → c ≤ 57 → c - 48 ≡ flags_of f
  unfolding flags_of
  flags_digit [] n e h g = absurd (omega arith)
  flags_digit (b ∷ []) n e h g = rw (within_yes 48 57 b (omega arith) (omega arith)) (omega arith)
  flags_digit (b ∷ d ∷ s) n e h g = absurd (omega arith)
