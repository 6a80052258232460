-- What the row of a new component stands for.
use Rattle.std.specs.Prelude.{ℕ, ◌≡◌, true, List, []}
use Rattle.std.proofs.Math.Seq.{slice}
use Rattle.rules.specs.Model.{Kind, entry_of, set_relation, set_modifiers}
use Rattle.components.specs.Views.{modifiers_in}
use Rattle.components.specs.declared.Modifiers.{Modifiers}
use Rattle.model.specs.Rows.{component_of_line, relation_in, entry_as}
use Rattle.model.specs.declared.Row.{Row}
use Rattle.model.specs.declared.RelationRecord.{RelationRecord}

-- r points at the line and the name, and stands for the line's component with the modifiers and the relation
pub record RowMade (line_at line_end name_at name_end : ℕ) (m : Modifiers) (relation : RelationRecord) (r : Row) : Type 0 where
  pub is_line : r.line_at ≡ line_at
  pub is_end : r.line_end ≡ line_end
  pub is_name : r.name_at ≡ name_at
  pub is_name_end : r.name_end ≡ name_end
  pub is : (k : Kind) (sheet : List ℕ)
      → entry_as k sheet r [] ≡ set_relation (relation_in k relation []) (set_modifiers (modifiers_in m) (entry_of k true (component_of_line k (slice line_at line_end sheet))))
