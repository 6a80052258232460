-- The parts of a case, one after the other.
use Prim.Native.Nat.{ℕ, zero, suc, ◌+◌, ◌≤◌}
use mathlib.Core.Path.{◌≡◌, refl, sym}
use mathlib.Core.Bool.{Bool, true, false}
use mathlib.Core.List.{List, [], ◌∷◌}
use Rattle.std.specs.Prelude.{Option, None, Some}
use native.Mathlib.Omega.{arith}
use lib.ListN.{length}
use Rattle.rules.specs.Basic.{eq_list}
use Rattle.stored_cases.specs.declared.Place.{Place}
use Rattle.stored_cases.specs.declared.NamedPart.{NamedPart}
use Rattle.stored_cases.specs.declared.Case.{Case}
use Rattle.stored_cases.specs.Cases.{part_of, part_at, with_rest, parts_up_to, parts_from, first_named, part_named, bytes_or_none, bytes_named, past_parts, next_case}
use Rattle.stored_cases.proofs.Parts.{part_inside}

-- ---- as many as there are: a larger number makes no difference
module _ (s : List ℕ) where
  no_more : (m at : ℕ) → length s ≤ at → parts_up_to m s at ≡ []
  unfolding parts_up_to with_rest
  no_more zero at h = refl
  no_more (suc m) at h = go (part_at s at) refl
    where
      go : (o : Option NamedPart) → part_at s at ≡ o → with_rest o (λ p. parts_up_to m s (p.bytes.to + 1)) ≡ []
      go None e = refl
      go (Some p) e = let k = part_inside s at e in absurd (omega (arith, k.0, k.1))

  enough : (k m at : ℕ) → length s ≤ at + k → length s ≤ at + m → parts_up_to k s at ≡ parts_up_to m s at
  unfolding parts_up_to with_rest
  enough zero m at h l = sym (no_more m at (omega arith))
  enough (suc k) zero at h l = no_more (suc k) at (omega arith)
  enough (suc k) (suc m) at h l = go (λ b. enough k m b) (part_at s at) refl
    where
      go : ((b : ℕ) → length s ≤ b + k → length s ≤ b + m → parts_up_to k s b ≡ parts_up_to m s b) → (o : Option NamedPart) → part_at s at ≡ o → with_rest o (λ p. parts_up_to k s (p.bytes.to + 1)) ≡ with_rest o (λ p. parts_up_to m s (p.bytes.to + 1))
      go f None e = refl
      go f (Some p) e = let i = part_inside s at e in rw (f (p.bytes.to + 1) (omega (arith, i.0)) (omega (arith, i.0)))

  module _ (at : ℕ) where
    turn : parts_from s at ≡ with_rest (part_at s at) (λ p. parts_from s (p.bytes.to + 1))
    unfolding parts_from parts_up_to
    turn = enough (length s) (suc (length s)) at (omega arith) (omega arith)

    pub one_more : {p : NamedPart} → Some p ≡ part_at s at → parts_from s at ≡ p ∷ parts_from s (p.bytes.to + 1)
    unfolding with_rest
    one_more e = rw (← e) at turn

    pub none_left : None ≡ part_at s at → parts_from s at ≡ []
    unfolding with_rest
    none_left e = rw (← e) at turn

-- ---- the walk by name; r is the answer on the whole
pub walk_starts : (s name : List ℕ) (c : Case) → first_named s name (parts_from s c.parts) ≡ part_named s c name
unfolding part_named
walk_starts s name c = refl

module _ (s name : List ℕ) (at : ℕ) {r : Option Place} (w : first_named s name (parts_from s at) ≡ r) where
  pub none_named : None ≡ part_at s at → None ≡ r
  unfolding first_named
  none_named e = rw (none_left s at e) at w

  module _ {p : NamedPart} (e : Some p ≡ part_at s at) {n : List ℕ} (is : n ≡ part_of s p.name.from p.name.to) {t : Bool} (same : t ≡ eq_list n name) where
    pub part_found : t ≡ true → Some p.bytes ≡ r
    unfolding first_named
    part_found q = rw (one_more s at e, ← is, ← same, q) at w

    pub part_passed : t ≡ false → first_named s name (parts_from s (p.bytes.to + 1)) ≡ r
    unfolding first_named
    part_passed q = rw (one_more s at e, ← is, ← same, q) at w

-- ---- the bytes
module _ (s name : List ℕ) (c : Case) {o : Option Place} (is : o ≡ part_named s c name) where
  pub bytes_there : {p : Place} → o ≡ Some p → {r : List ℕ} → r ≡ part_of s p.from p.to → r ≡ bytes_named s c name
  unfolding bytes_named bytes_or_none
  bytes_there e q = rw (← is, e) q

  pub bytes_absent : o ≡ None → [] ≡ bytes_named s c name
  unfolding bytes_named bytes_or_none
  bytes_absent e = rw (← is, e)

-- ---- the walk to the next case
pub next_starts : (s : List ℕ) (c : Case) → past_parts c.parts (parts_from s c.parts) ≡ next_case s c
unfolding next_case
next_starts s c = refl

module _ (s : List ℕ) (at : ℕ) {r : ℕ} (w : past_parts at (parts_from s at) ≡ r) where
  pub next_here : None ≡ part_at s at → at ≡ r
  unfolding past_parts
  next_here e = rw (none_left s at e) at w

  pub next_on : {p : NamedPart} → Some p ≡ part_at s at → past_parts (p.bytes.to + 1) (parts_from s (p.bytes.to + 1)) ≡ r
  unfolding past_parts
  next_on e = rw (one_more s at e) at w
