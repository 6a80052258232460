-- The row of a component that is looked up by its name.
use Prim.Native.Nat.{ℕ}
use mathlib.Core.Path.{◌≡◌, refl, ◌∙◌}
use mathlib.Core.Bool.{Bool, true}
use mathlib.Core.List.{List, []}
use Rattle.std.specs.Prelude.{Option, None, Some}
use lib.Seq.{slice}
use Rattle.rules.specs.Basic.{on_some}
use Rattle.rules.specs.Event as rules
use Rattle.rules.specs.Model.{Kind, both, either, with_ref, inherits, entry_of, entry_with, set_relation, set_modifiers}
use Rattle.rules.specs.Reference.{Earlier, as_referring}
use Rattle.components.specs.Views.{modifiers_in, component_in}
use Rattle.components.specs.declared.ComponentView.{ComponentView}
use Rattle.components.specs.declared.Modifiers.{Modifiers}
use Rattle.model.specs.Rows.{relation_in, relation_as, entry_as}
use Rattle.model.specs.declared.Target.TheVariants.{Ingredient}
use Rattle.model.specs.declared.Relation.TheVariants.{Definition, Reference}
use Rattle.model.specs.declared.Row.{Row}
use Rattle.lookup.specs.declared.NamePart.{NamePart}
use Rattle.component_lines.specs.Steps.{ComponentHere, heir_of, relation_to, RelatedTo, RowNamed}

-- ---- modifiers

module _ (k : Kind) {to : Option ℕ} where
  pub heir_alone : (o : Option rules.Modifiers) (m : rules.Modifiers) → to ≡ None → m ≡ heir_of k to o m
  unfolding heir_of
  heir_alone o m e = rw e

  module _ (i : ℕ) (e : to ≡ Some i) {o : Option Modifiers} where
    pub heir_lost : (m : rules.Modifiers) → o ≡ None → m ≡ heir_of k to (on_some modifiers_in o) m
    unfolding heir_of on_some
    heir_lost m q = rw (e, q)

    pub heir_found : {r : rules.Modifiers} (m : rules.Modifiers) (d : Modifiers) → o ≡ Some d → r ≡ with_ref (either m (both (modifiers_in d) (inherits k))) → r ≡ heir_of k to (on_some modifiers_in o) m
    unfolding heir_of on_some
    heir_found m d q z = z ∙ rw (e, q)

-- ---- relations

module _ (k : Kind) (in_step : Bool) {to : Option ℕ} where
  pub related_alone : to ≡ None → RelatedTo k in_step to (record { relation = Definition; in_step = in_step; index = 0 })
  unfolding relation_in relation_as relation_to
  related_alone e = record { is = rw e }

  pub related_at : (i : ℕ) → to ≡ Some i → RelatedTo k in_step to (record { relation = Reference Ingredient; in_step = in_step; index = i })
  unfolding relation_in relation_as relation_to
  related_at i e = record { is = rw e }

-- ---- the entry, where f gives the entries of indices

module _ (k : Kind) (in_step : Bool) (c : rules.Component) (f : ℕ → Earlier) (ef : (i : ℕ) → (f i).index ≡ i) where
  entry_heir : (o : Option ℕ) (d : Option rules.Modifiers) → ((i : ℕ) → o ≡ Some i → d ≡ Some (f i).entry.modifiers)
      → set_relation (relation_to k in_step o) (set_modifiers (heir_of k o d c.modifiers) (entry_of k true c)) ≡ as_referring k (on_some f o) (entry_of k in_step c)
  unfolding relation_to heir_of on_some as_referring set_relation set_modifiers entry_of entry_with
  entry_heir None d e = refl
  entry_heir (Some i) d e = rw (e i refl, ef i)

module _ {k : Kind} {sheet : List ℕ} {at end : ℕ} {v : ComponentView} (x : ComponentHere k sheet at end v) (f : ℕ → Earlier) (ef : (i : ℕ) → (f i).index ≡ i) where
  pub entry_named : {p : NamePart} {in_step : Bool} {to : Option ℕ} {o : Option Modifiers} {r : Row} → RowNamed k at end p in_step v.modifiers to o r → ((i : ℕ) → to ≡ Some i → on_some modifiers_in o ≡ Some (f i).entry.modifiers)
      → entry_as k sheet r [] ≡ as_referring k (on_some f to) (entry_of k in_step (component_in (slice at end sheet) v))
  unfolding component_in
  entry_named {in_step = in_step} {to} {o} z e =
      z.made.is k sheet ∙ rw (z.is_modifiers, z.is_relation.is, x.is) (entry_heir k in_step (component_in (slice at end sheet) v) f ef to (on_some modifiers_in o) e)
