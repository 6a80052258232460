-- One pair: what `link` answers, and the next place.
use mathlib.Core.Path.{◌≡◌, refl, sym, ap, ◌∙◌}
use Prim.Native.Nat.{ℕ, ◌+◌, ◌*◌}
use native.Mathlib.Nat.{add-zero}
use mathlib.Core.Bool.{Bool, true, false}
use mathlib.Core.List.{List, [], ◌∷◌}
use lib.ListN.{get_or}
use lib.Seq.{sets}
use Rattle.std.specs.Prelude.{Result, Ok, Err}
use Rattle.rules.specs.Model.{Kind}
use Rattle.rules.specs.Reference.{is_definition}
use Rattle.rules.specs.Components.{refers_to_reference}
use Rattle.rules.specs.Answer.{number_if}
use Rattle.refusals.specs.declared.Reason.{Reason}
use Rattle.refusals.specs.declared.Reason.TheVariants.{ReferenceToReference}
use Rattle.model.specs.declared.Target.{Target}
use Rattle.model.specs.declared.Target.TheVariants.{Ingredient, Step, Section}
use Rattle.model.specs.Rows.{relation_as}
use Rattle.model.specs.declared.Relation.{Relation}
use Rattle.model.specs.declared.Relation.TheVariants.{Definition, Reference}
use Rattle.component_records.specs.declared.Component.{Component}
use Rattle.component_records.specs.Records.{no_component}
use Rattle.component_records.specs.Links.{is_own, LinkedAs, place_after, pair_at, own_at, RefersBack}

relation_refers : (k : Kind) (t : Target) (s : Bool) (i : ℕ) (by : List ℕ) → is_definition (relation_as k (Reference t) s i by) ≡ false
unfolding relation_as is_definition
relation_refers k Ingredient s i by = refl
relation_refers k Step s i by = refl
relation_refers k Section s i by = refl

module _ {ps : List ℕ} {n d r : ℕ} where
  pub linked : {k : Relation} {ps' : List ℕ} → k ≡ Definition → ps' ≡ sets ps (n * 2) (d ∷ r ∷ []) → LinkedAs k ps n d r ps' (Ok tt)
  unfolding number_if refers_to_reference is_definition relation_as
  linked e p = record { answer = simp e; pairs = simp e p; number = λ x k s i by q. rw (q, e) }

  pub refused : {k : Relation} {t : Target} → k ≡ Reference t → LinkedAs k ps n d r ps (Err ReferenceToReference)
  unfolding number_if refers_to_reference is_definition
  refused {t = t} e = record { answer = simp e; pairs = simp e; number = λ x k s i by q. rw (q, e, relation_refers k t s i by) }

-- ---- a turn of `link_records`
module _ (all : List Component) (ps : List ℕ) (i n : ℕ) where
  abbrev at : Component
  at = get_or all i no_component

  -- the component at i refers to its own kind
  pub own_pairs : {zs : List ℕ} {a : Result (Unit {0}) Reason} → is_own at.relation.relation ≡ true → RefersBack all i
      → LinkedAs (get_or all at.relation.index no_component).relation.relation ps n at.relation.index i zs a
      → zs ≡ sets ps (n * 2) (pair_at i at)
  unfolding pair_at
  own_pairs e back k = k.pairs ∙ simp (e, back.there)

  pub own_place : {zs : List ℕ} {a : Result (Unit {0}) Reason} {r : ℕ} → is_own at.relation.relation ≡ true → RefersBack all i
      → LinkedAs (get_or all at.relation.index no_component).relation.relation ps n at.relation.index i zs a
      → r ≡ place_after a n → r ≡ n + own_at at
  unfolding own_at
  own_place e back k er = er ∙ ap (λ (l : Result (Unit {0}) Reason). place_after l n) k.answer ∙ simp (e, back.there)

  -- it does not
  pub no_pairs : is_own at.relation.relation ≡ false → ps ≡ sets ps (n * 2) (pair_at i at)
  unfolding pair_at
  no_pairs e = simp e

  pub no_place : is_own at.relation.relation ≡ false → n ≡ n + own_at at
  unfolding own_at
  no_place e = sym (add-zero n) ∙ simp e
