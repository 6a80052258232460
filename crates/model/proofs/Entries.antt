-- The entry of a row: its parts, and the entry that the pass makes of a line.
use Prim.Native.Nat.{ℕ, ◌<◌}
use mathlib.Core.Path.{◌≡◌, refl}
use mathlib.Core.List.{List, [], ◌∷◌}
use mathlib.Core.Bool.{Bool, true}
use Rattle.std.specs.Prelude.{Option, Some}
use native.Mathlib.Omega.{arith}
use lib.ListN.{length}
use lib.Seq.{slice}
use borrow.Author.Tests.{ne_eqb}
use Rattle.rules.specs.Event.{Component, Intermediate, inside, component_event, ingredient_event, cookware_event}
use Rattle.rules.specs.Read.{parse_line}
use Rattle.rules.specs.Model.{Kind, ingredient, cookware, definition, Entry, entry_with, entry_of, set_relation, set_modifiers}
use Rattle.rules.specs.Reference.{set_referenced_from}
use Rattle.rules.specs.State.{State, table_of, set_table, set_tables}
use Rattle.model.specs.Rows.{component_as, component_inside, component_in, component_of_line, modifiers_in, relation_in, entry_as}
use Rattle.model.specs.Fits.{is_component_of, is_inside_of, is_of_kind}
use Rattle.model.specs.declared.Row.{Row}

-- ---- the parts of an entry

module _ (k : Kind) (sheet : List ℕ) (r : Row) (by : List ℕ) where
  pub entry_modifiers : (entry_as k sheet r by).modifiers ≡ modifiers_in r
  unfolding entry_as set_relation set_modifiers
  entry_modifiers = refl

  pub entry_relation : (entry_as k sheet r by).relation ≡ relation_in k r.relation by
  unfolding entry_as set_relation set_modifiers
  entry_relation = refl

  pub entry_name : (entry_as k sheet r by).name ≡ (entry_of k true (component_of_line k (slice r.line_at r.line_end sheet))).name
  unfolding entry_as set_relation set_modifiers
  entry_name = refl

  pub entry_quantity : (entry_as k sheet r by).quantity ≡ (entry_of k true (component_of_line k (slice r.line_at r.line_end sheet))).quantity
  unfolding entry_as set_relation set_modifiers
  entry_quantity = refl

  pub entry_source : (entry_as k sheet r by).source ≡ (entry_of k true (component_of_line k (slice r.line_at r.line_end sheet))).source
  unfolding entry_as set_relation set_modifiers
  entry_source = refl

  -- a name does not depend on referrers
  pub entry_name_same : (entry_as k sheet r by).name ≡ (entry_as k sheet r []).name
  unfolding entry_as set_relation set_modifiers
  entry_name_same = refl

-- ---- the component of a line

pub line_ingredient : (line : List ℕ) (c : Component) (i : Option Intermediate) → parse_line line ≡ Some (inside (component_event (ingredient_event c i))) → component_of_line ingredient line ≡ c
unfolding component_of_line component_in component_inside component_as
line_ingredient line c i e = rw e

pub line_cookware : (line : List ℕ) (c : Component) → parse_line line ≡ Some (inside (component_event (cookware_event c))) → component_of_line cookware line ≡ c
unfolding component_of_line component_in component_inside component_as
line_cookware line c e = rw e

pub kind_ingredient : (line : List ℕ) (c : Component) (i : Option Intermediate) → parse_line line ≡ Some (inside (component_event (ingredient_event c i))) → is_of_kind ingredient (parse_line line) ≡ true
unfolding is_of_kind is_inside_of is_component_of
kind_ingredient line c i e = rw e

pub kind_cookware : (line : List ℕ) (c : Component) → parse_line line ≡ Some (inside (component_event (cookware_event c))) → is_of_kind cookware (parse_line line) ≡ true
unfolding is_of_kind is_inside_of is_component_of
kind_cookware line c e = rw e

-- ---- what the pass makes of a line is what its row stands for

pub entry_made : (k : Kind) (sheet : List ℕ) (r : Row) (by : List ℕ) (c : Component) (in_step : Bool) → component_of_line k (slice r.line_at r.line_end sheet) ≡ c
    → entry_as k sheet r by ≡ set_relation (relation_in k r.relation by) (set_modifiers (modifiers_in r) (entry_of k in_step c))
unfolding entry_as set_relation set_modifiers entry_of entry_with
entry_made k sheet r by c in_step e = rw e

-- a new entry has its line's modifiers and no referrers
pub entry_new : (k : Kind) (in_step : Bool) (c : Component) → set_relation (definition in_step []) (set_modifiers c.modifiers (entry_of k in_step c)) ≡ entry_of k in_step c
unfolding set_relation set_modifiers entry_of entry_with
entry_new k in_step c = refl

-- ---- a referrer that is stored after its own row

pub referred_later : (d n : ℕ) (e : Entry) (table : List Entry) → d < length table → set_referenced_from d n (e ∷ table) ≡ e ∷ set_referenced_from d n table
unfolding set_referenced_from
referred_later d n e table h = rw (ne_eqb d (length table) (λ q. omega arith))

pub table_set : (k : Kind) (es : List Entry) (st : State) → table_of k (set_table k es st) ≡ es
unfolding table_of set_table set_tables
table_set ingredient es st = refl
table_set cookware es st = refl

pub set_table_twice : (k : Kind) (es fs : List Entry) (st : State) → set_table k fs (set_table k es st) ≡ set_table k fs st
unfolding set_table set_tables
set_table_twice ingredient es fs st = refl
set_table_twice cookware es fs st = refl
