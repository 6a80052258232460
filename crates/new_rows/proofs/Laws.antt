-- The row of a new component as an entry of the rules.
use Prim.Native.Nat.{ℕ}
use mathlib.Core.Path.{◌≡◌, refl, ◌∙◌}
use mathlib.Core.Bool.{Bool, true, ◌||◌}
use mathlib.Core.List.{List, []}
use Rattle.std.specs.Prelude.{Some}
use lib.Seq.{slice}
use Rattle.rules.specs.Event as rules
use Rattle.rules.specs.Model.{Kind, Relation, entry_of, entry_with, set_relation, set_modifiers, either, both, with_ref, inherits}
use Rattle.rules.specs.Reference.{Earlier, as_referring}
use Rattle.components.specs.Views.{modifiers_in}
use Rattle.components.specs.declared.Modifiers.{Modifiers}
use Rattle.model.specs.Rows as rows
use Rattle.model.specs.Rows.{component_of_line, relation_in, relation_as, entry_as}
use Rattle.model.specs.declared.Row.{Row}
use Rattle.model.specs.declared.Target.TheVariants.{Ingredient}
use Rattle.model.specs.declared.Relation.TheVariants.{Definition, Reference}
use Rattle.model.specs.declared.RelationRecord.{RelationRecord}
use Rattle.new_rows.specs.Rows.{RowMade}

pub referring_is : (m b : Modifiers) {i : rules.Modifiers} → modifiers_in b ≡ i → {p q r s : Bool} → p ≡ (m.recipe || b.recipe) → q ≡ (m.hidden || b.hidden) → r ≡ (m.opt || b.opt) → s ≡ (m.new || b.new)
    → modifiers_in (record { recipe = p; reference = true; hidden = q; opt = r; new = s }) ≡ with_ref (either (modifiers_in m) i)
unfolding modifiers_in with_ref either
referring_is m b e x y z t = rw (← e, x, y, z, t)

pub row_made : (a e n o : ℕ) (m : Modifiers) (relation : RelationRecord)
    → RowMade a e n o m relation
    (record {
      line_at = a;
      line_end = e;
      name_at = n;
      name_end = o;
      recipe = m.recipe;
      reference = m.reference;
      hidden = m.hidden;
      opt = m.opt;
      new = m.new;
      relation = relation;
    })
unfolding entry_as modifiers_in rows.modifiers_in
row_made a e n o m relation = record { is_line = refl; is_end = refl; is_name = refl; is_name_end = refl; is = λ k sheet. refl }

-- ---- as the rules have it, where the line's component is c

module _ (k : Kind) (sheet : List ℕ) {a e n o : ℕ} {m : Modifiers} {relation : RelationRecord} {r : Row} (x : RowMade a e n o m relation r) (c : rules.Component) (ec : component_of_line k (slice a e sheet) ≡ c) where
  -- a definition
  pub row_definition : (in_step : Bool) → c.modifiers ≡ modifiers_in m → relation.relation ≡ Definition → relation.in_step ≡ in_step → entry_as k sheet r [] ≡ entry_of k in_step c
  row_definition in_step em er ei = x.is k sheet ∙ same
    where
      same : set_relation (relation_in k relation []) (set_modifiers (modifiers_in m) (entry_of k true (component_of_line k (slice a e sheet)))) ≡ entry_of k in_step c
      same = unfold set_relation set_modifiers relation_in relation_as entry_of entry_with in rw (ec, ← em, er, ei)

  -- a reference by name to d
  pub row_referring : (in_step : Bool) (d : Earlier) → modifiers_in m ≡ with_ref (either c.modifiers (both d.entry.modifiers (inherits k))) → relation.relation ≡ Reference Ingredient → relation.index ≡ d.index
      → entry_as k sheet r [] ≡ as_referring k (Some d) (entry_of k in_step c)
  row_referring in_step d em er ei = x.is k sheet ∙ same
    where
      same : set_relation (relation_in k relation []) (set_modifiers (modifiers_in m) (entry_of k true (component_of_line k (slice a e sheet)))) ≡ as_referring k (Some d) (entry_of k in_step c)
      same = unfold set_relation set_modifiers relation_in relation_as entry_of entry_with as_referring in rw (ec, em, er, ei)

  -- any other relation
  pub row_related : (in_step : Bool) (t : Relation) → c.modifiers ≡ modifiers_in m → relation_in k relation [] ≡ t → entry_as k sheet r [] ≡ set_relation t (entry_of k in_step c)
  row_related in_step t em er = x.is k sheet ∙ same
    where
      same : set_relation (relation_in k relation []) (set_modifiers (modifiers_in m) (entry_of k true (component_of_line k (slice a e sheet)))) ≡ set_relation t (entry_of k in_step c)
      same = unfold set_relation set_modifiers entry_of entry_with in rw (ec, ← em, er)
