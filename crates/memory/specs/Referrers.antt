-- What refers to a component, one after another: a place, and what is left from it on.
use Rattle.std.specs.Prelude.{ℕ, ◌<◌, ◌≡◌, List, [], ◌∷◌, reverse, Option, None, Some}
use Rattle.rules.specs.Model.{Kind}
use Rattle.model.specs.Memory.{count_of, referrers_of, referrers_left}
use Rattle.model.specs.declared.Held.{Held}

-- from the first place on all are left
pub record FirstReferrer (k : Kind) (w : List ℕ) (h : Held) (d place : ℕ) : Type 0 where
  pub is : referrers_left k w h d place ≡ reverse (referrers_of k w h d)

-- the next of them, and the place after it; or none is left
abbrev pub NextAs : Kind → List ℕ → Held → ℕ → ℕ → Option (ℕ × ℕ) → Type 0
NextAs k w h d place (Some (r, next)) = (r < count_of k h) × (referrers_left k w h d place ≡ r ∷ referrers_left k w h d next)
NextAs k w h d place None = referrers_left k w h d place ≡ []

pub record NextReferrer (k : Kind) (w : List ℕ) (h : Held) (d place : ℕ) (r : Option (ℕ × ℕ)) : Type 0 where
  pub is : NextAs k w h d place r
