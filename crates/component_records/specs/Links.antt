-- Pairs of a definition and of what refers to it, two numbers a pair.
use Rattle.std.specs.Prelude.{ℕ, suc, ◌+◌, ◌*◌, ◌<◌, ◌≤◌, ◌≡◌, List, [], ◌∷◌, ◌++◌, Bool, true, false, length, get_or, Some, Result, Ok, Err}
use Rattle.std.proofs.lemmas.List.Edits.{sets}
use Rattle.rules.specs.Basic.{pick}
use Rattle.rules.specs.Model.{Kind}
use Rattle.rules.specs.Reference.{Earlier}
use Rattle.rules.specs.Components.{refers_to_reference}
use Rattle.rules.specs.Answer.{number_if}
use Rattle.refusals.specs.Told.{number_told}
use Rattle.refusals.specs.declared.Reason.{Reason}
use Rattle.refusals.specs.declared.Reason.TheVariants.{ReferenceToReference}
use Rattle.model.specs.Rows.{relation_as}
use Rattle.model.specs.declared.Target.TheVariants.{Ingredient, Step, Section}
use Rattle.model.specs.declared.Relation.{Relation}
use Rattle.model.specs.declared.Relation.TheVariants.{Definition, Reference}
use Rattle.component_records.specs.declared.Component.{Component}
use Rattle.component_records.specs.Records.{no_component}

abbrev pub defines : Relation → Bool
defines Definition = true
defines (Reference t) = false

-- a reference to a component of its own kind
abbrev pub is_own : Relation → Bool
is_own Definition = false
is_own (Reference Ingredient) = true
is_own (Reference Step) = false
is_own (Reference Section) = false

-- ---- one pair

-- where the relation k is a definition's, the pair of d and r stands at n; a reference is not referred to: 18, as of any earlier entry
-- with that relation
pub record LinkedAs (k : Relation) (ps : List ℕ) (n d r : ℕ) (ps' : List ℕ) (a : Result (Unit {0}) Reason) : Type 0 where
  pub answer : a ≡ pick (defines k) (Ok tt) (Err ReferenceToReference)
  pub pairs : ps' ≡ pick (defines k) (sets ps (n * 2) (d ∷ r ∷ [])) ps
  pub number : (e : Earlier) (kind : Kind) (in_step : Bool) (index : ℕ) (by : List ℕ) → e.entry.relation ≡ relation_as kind k in_step index by
      → number_told a ≡ number_if 18 (refers_to_reference (Some e))

abbrev pub place_after : Result (Unit {0}) Reason → ℕ → ℕ
place_after (Ok u) n = n + 1
place_after (Err r) n = n

-- ---- the pairs of a list of records

-- what the component at i refers to, and i, where it refers to its own kind
unfoldable pub pair_at : ℕ → Component → List ℕ
pair_at i c = pick (is_own c.relation.relation) (c.relation.index ∷ i ∷ []) []

unfoldable pub pairs_from : ℕ → List Component → List ℕ
pairs_from i [] = []
pairs_from i (c ∷ cs) = pair_at i c ++ pairs_from (suc i) cs

-- in order
unfoldable pub pairs_of : List Component → List ℕ
pairs_of cs = pairs_from 0 cs

-- how many they are
unfoldable pub own_at : Component → ℕ
own_at c = pick (is_own c.relation.relation) 1 0

unfoldable pub own_count : List Component → ℕ
own_count [] = 0
own_count (c ∷ cs) = own_at c + own_count cs

-- ---- records that can be linked

-- what the component at i refers to in its own kind stands before it and is a definition
pub record RefersBack (all : List Component) (i : ℕ) : Type 0 where
  pub before : (get_or all i no_component).relation.index < i
  pub there : (get_or all (get_or all i no_component).relation.index no_component).relation.relation ≡ Definition

-- and its pair at n is within `room` words
pub record LinkableAt (all : List Component) (i n room : ℕ) : Type 0 where
  pub back : is_own (get_or all i no_component).relation.relation ≡ true → RefersBack all i
  pub fits : is_own (get_or all i no_component).relation.relation ≡ true → n * 2 + 2 ≤ room

pub record Linkable (all : List Component) (room : ℕ) : Type 0 where
  pub back : (i : ℕ) → i < length all → is_own (get_or all i no_component).relation.relation ≡ true → RefersBack all i
  pub fits : own_count all * 2 ≤ room
