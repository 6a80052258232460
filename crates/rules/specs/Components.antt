-- What a component of a step becomes (`ingredient`, `cookware`, `timer`, `quantity` in the Rust).
use Rattle.std.specs.Prelude.{ℕ, List, [], ◌∷◌, ◌++◌, Bool, false, ◌&&◌, not, length, Option, None, Some}
use Rattle.rules.specs.Basic.{pick, when, on_some}
use Rattle.rules.specs.Event.{Span, Text, Quantity, Component, Intermediate}
use Rattle.rules.specs.Units.{NamedUnit, PhysicalQuantity, find_unit, same_physical, time}
use Rattle.rules.specs.Input.{Context}
use Rattle.rules.specs.Finding.{Finding, found}
use Rattle.rules.specs.Model.{Kind, ingredient, cookware, is_ingredient, inherits, amount_of, is_textual, trimmed_text, Entry, Timer, entry_of, set_relation}
use Rattle.rules.specs.Modes.{Modes, is_components, has_advanced_units}
use Rattle.rules.specs.Reference.{Earlier, same_name_of, refers_to, reference_findings, as_referring, set_referenced_from, is_definition}
use Rattle.rules.specs.Checks.{unit_check, reference_checks, resolve_intermediate_ref, intermediate_modifiers, intermediate_findings, intermediate_relation}
use Rattle.rules.specs.State.{State, table_of}

-- 6, lock
unfoldable pub lock_findings : Option Quantity → List Finding
lock_findings None = []
lock_findings (Some q) = when q.lock (found 6 q.value_span)

-- what a component becomes: its entry, what is found in order, and the earlier entry that it refers to
pub record Made : Type 0 where
  pub entry : Entry
  pub findings : List Finding
  pub refers_to : Option Earlier

-- the entry of a component here: defined in a step unless in components mode
unfoldable pub new_entry : Kind → Component → State → Entry
new_entry k c st = entry_of k (not (is_components st.modes.define)) c

-- ---- with an intermediate reference

unfoldable pub made_intermediate : Component → Entry → Intermediate → Option ℕ → Made
made_intermediate c new i target =
    record {
      entry = set_relation (intermediate_relation i new.relation target) new;
      findings = lock_findings c.quantity ++ intermediate_modifiers c ++ intermediate_findings i target;
      refers_to = None;
    }

-- ---- by name

-- what the same-name search finds for a new entry: "without an explicit REF on the new one, OPT must agree too"
unfoldable pub found_same : Entry → List Entry → Option Earlier
found_same new table = same_name_of new.modifiers.ref new table

module _ (units : List NamedUnit) (flags : ℕ) where
  -- the checks after a reference to d; the unit check is for ingredients, with flag 4
  unfoldable pub checks_after : Kind → Entry → List Entry → Option Earlier → List Finding
  checks_after k new table None = []
  checks_after k new table (Some d) =
      pick (is_ingredient k && has_advanced_units flags) (unit_check units new table d) []
      ++ reference_checks (not new.modifiers.ref) new d.entry

  module _ (k : Kind) (modes : Modes) (table : List Entry) where
    unfoldable pub made_with : List Finding → Entry → Option Earlier → Made
    made_with lock new same =
        record {
          entry = as_referring k (refers_to modes new same) new;
          findings = lock ++ reference_findings modes new (inherits k) same ++ checks_after k new table (refers_to modes new same);
          refers_to = refers_to modes new same;
        }

  unfoldable pub made_by_name : Kind → Component → State → Made
  made_by_name k c st =
      made_with k st.modes (table_of k st) (lock_findings c.quantity) (new_entry k c st) (found_same (new_entry k c st) (table_of k st))

-- ---- `ingredient` and `cookware`

module _ (cx : Context) where
  unfoldable pub make_ingredient : Component → Option Intermediate → State → Made
  make_ingredient c None st = made_by_name cx.units cx.flags ingredient c st
  make_ingredient c (Some i) st =
      made_intermediate c (new_entry ingredient c st) i
      (resolve_intermediate_ref i st.place.section.content (length st.kept.sections))

module _ (units : List NamedUnit) (flags : ℕ) where
  unfoldable pub make_cookware : Component → State → Made
  make_cookware c st = made_by_name units flags cookware c st

-- ---- `timer`: 21 timer text, 22 not time, 23 unknown timer unit

module _ (units : List NamedUnit) (flags : ℕ) where
  unfoldable pub time_unit : Span → Option PhysicalQuantity → List Finding
  time_unit s None = found 23 s ∷ []
  time_unit s (Some p) = when (not (same_physical p time)) (found 22 s)

  unfoldable pub timer_unit : Option Text → List Finding
  timer_unit None = []
  timer_unit (Some t) = time_unit t.span (find_unit (trimmed_text t) units)

  unfoldable pub timer_checks : Option Quantity → List Finding
  timer_checks None = []
  timer_checks (Some q) = when (is_textual q.kind) (found 21 q.value_span) ++ timer_unit q.unit

  unfoldable pub timer_findings : Option Quantity → List Finding
  timer_findings q = lock_findings q ++ pick (has_advanced_units flags) (timer_checks q) []

unfoldable pub timer_of : Option Text → Option Quantity → Timer
timer_of name q = record { name = on_some trimmed_text name; quantity = on_some (amount_of false) q }

-- 15 intermediate without REF (steps); 16 negative one (steps)
unfoldable pub intermediate_fault : Component → Option Intermediate → Option ℕ
intermediate_fault c None = None
intermediate_fault c (Some i) = pick (not c.modifiers.ref) (Some 15) (pick i.value.negative (Some 16) None)

-- ---- the table with a new entry, and with it among its definition's referrers

unfoldable pub referred : Option Earlier → List Entry → List Entry
referred None table = table
referred (Some d) table = set_referenced_from d.index (length table) table

unfoldable pub pushed : Made → List Entry → List Entry
pushed m table = m.entry ∷ referred m.refers_to table

-- 18, reference to a reference
unfoldable pub refers_to_reference : Option Earlier → Bool
refers_to_reference None = false
refers_to_reference (Some d) = not (is_definition d.entry.relation)
