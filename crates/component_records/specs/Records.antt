-- What a lent record says: the fields of a component's row in work memory.
use Rattle.std.specs.Prelude.{ℕ, zero, suc, List, [], ◌∷◌, ◌++◌, Bool, false, drop}
use Rattle.model.specs.Rows.{row_on}
use Rattle.model.specs.declared.Relation.{Relation}
use Rattle.model.specs.declared.Relation.TheVariants.{Definition, Reference}
use Rattle.model.specs.declared.RelationRecord.{RelationRecord}
use Rattle.model.specs.declared.Row.{Row}
use Rattle.component_records.specs.declared.Component.{Component}

-- the record of no component
abbrev pub no_component : Component
no_component =
    record {
      line_at = 0;
      line_end = 0;
      name_at = 0;
      name_end = 0;
      recipe = false;
      reference = false;
      hidden = false;
      opt = false;
      new = false;
      relation = record { relation = Definition; in_step = false; index = 0 };
    }

-- a definition has no index, a reference does not say whether it stands in a step
unfoldable pub lent_as : Relation → Bool → ℕ → RelationRecord
lent_as Definition in_step index = record { relation = Definition; in_step = in_step; index = 0 }
lent_as (Reference t) in_step index = record { relation = Reference t; in_step = false; index = index }

unfoldable pub lent_relation : RelationRecord → RelationRecord
lent_relation g = lent_as g.relation g.in_step g.index

unfoldable pub component_of : Row → Component
component_of r =
    record {
      line_at = r.line_at;
      line_end = r.line_end;
      name_at = r.name_at;
      name_end = r.name_end;
      recipe = r.recipe;
      reference = r.reference;
      hidden = r.hidden;
      opt = r.opt;
      new = r.new;
      relation = lent_relation r.relation;
    }

-- the rows that begin at `from`
module _ (words : List ℕ) (from : ℕ) where
  -- the record of the i-th
  unfoldable pub component_in : ℕ → Component
  component_in i = component_of (row_on (drop from words) i)

  -- those of the first n, in order
  unfoldable pub records_in : ℕ → List Component
  records_in zero = []
  records_in (suc n) = records_in n ++ (component_in n ∷ [])
