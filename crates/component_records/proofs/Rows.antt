-- One record: of a row's relation, and of a row past the last.
use mathlib.Core.Path.{◌≡◌, ap, ◌∙◌}
use Prim.Native.Nat.{ℕ, ◌+◌, ◌-◌, ◌*◌, ◌<◌, ◌≤◌}
use mathlib.Core.List.{List}
use mathlib.Core.Bool.{false}
use native.Mathlib.Omega.{arith}
use lib.Dec.{ltb}
use lib.ListN.{length, take, drop, length-drop}
use lib.Seq.{take_all}
use borrow.Author.Tests.{lt-ltb, le-ltb}
use Rattle.rules.specs.Basic.{pick}
use Rattle.model.specs.Rows.{row_on}
use Rattle.model.specs.declared.Target.{Target}
use Rattle.model.specs.declared.Relation.TheVariants.{Definition, Reference}
use Rattle.model.specs.declared.RelationRecord.{RelationRecord}
use Rattle.model.specs.declared.Row.{Row}
use Rattle.component_records.specs.declared.Component.{Component}
use Rattle.component_records.specs.Records.{no_component, lent_as, lent_relation, component_of, component_in}
use Rattle.model.specs.declared.layout.TheConstants.{ROW}

module _ (g : RelationRecord) where
  pub lent_definition : g.relation ≡ Definition → record { relation = g.relation; in_step = g.in_step; index = 0 } ≡ lent_relation g
  unfolding lent_relation lent_as
  lent_definition e = simp e

  pub lent_reference : {t : Target} → g.relation ≡ Reference t → record { relation = g.relation; in_step = false; index = g.index } ≡ lent_relation g
  unfolding lent_relation lent_as
  lent_reference e = simp e

module _ (words : List ℕ) (from count i : ℕ) where
  pub within_row : (0 < count → from + count * ROW ≤ length words) → i < count → from + (i * ROW + ROW) ≤ length words
  within_row h l =
      let k : 0 < count = omega arith in
      let e : from + count * ROW ≤ length words = h k in
      omega arith

  pub no_row : {c : Component} → count ≤ i → c ≡ no_component → c ≡ pick (ltb i count) (component_in words from i) no_component
  no_row h e = e ∙ simp (le-ltb i count h)

  pub a_row : {c : Component} → i < count → c ≡ component_in words from i → c ≡ pick (ltb i count) (component_in words from i) no_component
  a_row l e = e ∙ simp (lt-ltb i count l)

-- the rest of the words from `from` on, as the checker hands it out
pub in_rest : (words : List ℕ) (from i : ℕ) {r : Row} {c : Component} → r ≡ row_on (take (length words - from) (drop from words)) i
    → c ≡ component_of r → c ≡ component_in words from i
unfolding component_in
in_rest words from i er ec =
    let k : length (drop from words) ≤ length words - from = omega (arith, length-drop from words) in
    ec ∙ ap component_of (er ∙ ap (λ (w : List ℕ). row_on w i) (take_all (length words - from) (drop from words) k))

pub row_record : (r : Row) {g : RelationRecord} → g ≡ lent_relation r.relation
    → record {
      line_at = r.line_at;
      line_end = r.line_end;
      name_at = r.name_at;
      name_end = r.name_end;
      recipe = r.recipe;
      reference = r.reference;
      hidden = r.hidden;
      opt = r.opt;
      new = r.new;
      relation = g;
    } ≡ component_of r
unfolding component_of
row_record r e = simp e
