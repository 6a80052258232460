-- What searches over pairs and over kinds of blocks find.
use Rattle.std.specs.Prelude.{ℕ, ◌-◌, ◌≤◌, ◌<◌, ◌≡◌, List, [], ◌∷◌, reverse, Bool, Option, None, Some}
use Rattle.rules.specs.Basic.{pick}
use Rattle.rules.specs.Checks.{nth}
use Rattle.model.specs.Rows.{referrers_from}

-- the target of an intermediate reference among candidates, newest first (`resolve_intermediate_ref`)
pub record TargetFound (relative : Bool) (value : ℕ) (candidates : List ℕ) (r : Option ℕ) : Type 0 where
  pub is : r ≡ nth value (pick relative candidates (reverse candidates))

-- the next of a definition's referrers, from a pair on: the referrer and the pair after it, or there is none
abbrev pub NextAs : List ℕ → ℕ → ℕ → ℕ → Option (ℕ × ℕ) → Type 0
NextAs pairs n d from (Some (r, next)) =
    (from < next) × (next ≤ n) × (referrers_from pairs d from (n - from) ≡ r ∷ referrers_from pairs d next (n - next))
NextAs pairs n d from None = referrers_from pairs d from (n - from) ≡ []

pub record NextReferrer (pairs : List ℕ) (n d from : ℕ) (r : Option (ℕ × ℕ)) : Type 0 where
  pub is : NextAs pairs n d from r
