-- The checks after a reference (15 to 20), and intermediate references (`resolve_intermediate_ref`, 7 to 9).
use Rattle.std.specs.Prelude.{ℕ, zero, suc, ◌+◌, ◌-◌, List, [], ◌∷◌, ◌++◌, reverse, Bool, true, false, ◌||◌, not, eqb, length, Option, None, Some}
use Rattle.rules.specs.Basic.{pick, eq_list, when}
use Rattle.rules.specs.Words.{IntermediateTarget, target_step, target_section}
use Rattle.rules.specs.Event.{Span, Text, Quantity, Component, Intermediate}
use Rattle.rules.specs.Units.{NamedUnit, PhysicalQuantity, find_unit, same_physical}
use Rattle.rules.specs.Finding.{Finding, diag, found, found_two}
use Rattle.rules.specs.Model.{Amount, is_textual, Target, to_step, to_section, Relation, definition, reference, Source, Entry, Block, step_block, text_block}
use Rattle.rules.specs.Reference.{Earlier, entry_at, referrers}

-- ---- units: 15 unit missing, 16 quantities differ, 17 unknown units differ

-- a unit's place: its own span, or the quantity's
unfoldable pub unit_place : Span → Option Text → Span
unit_place s None = s
unit_place s (Some t) = t.span

unfoldable pub quantity_place : Option Quantity → List Span
quantity_place None = []
quantity_place (Some q) = unit_place q.span q.unit ∷ []

unfoldable pub unit_finding : ℕ → List Span → List Finding
unit_finding zero places = []
unit_finding (suc code) places = diag (suc code) places false ∷ []

module _ (units : List NamedUnit) where
  -- `compatible_unit` (src/quantity.rs): the code, or 0 where the two fit
  unfoldable pub known_units : List ℕ → List ℕ → Option PhysicalQuantity → Option PhysicalQuantity → ℕ
  known_units a b (Some p) (Some q) = pick (same_physical p q) 0 16
  known_units a b (Some p) None = pick (eq_list a b) 0 17
  known_units a b None (Some q) = pick (eq_list a b) 0 17
  known_units a b None None = pick (eq_list a b) 0 17

  unfoldable pub compatible_unit : Option (List ℕ) → Option (List ℕ) → ℕ
  compatible_unit None None = 0
  compatible_unit None (Some b) = 15
  compatible_unit (Some a) None = 15
  compatible_unit (Some a) (Some b) = known_units a b (find_unit a units) (find_unit b units)

  -- one pair: the new entry's place, then the old one's
  unfoldable pub unit_pair : Entry → Option Amount → Option Amount → Entry → List Finding
  unit_pair new None q old = []
  unit_pair new (Some a) None old = []
  unit_pair new (Some a) (Some b) old =
      unit_finding (compatible_unit b.unit a.unit) (quantity_place new.source.quantity ++ quantity_place old.source.quantity)

  unfoldable pub unit_against : Entry → Option Entry → List Finding
  unit_against new None = []
  unit_against new (Some old) = unit_pair new new.quantity old.quantity old

  -- "The unit check runs over the definition and then each of its references, one finding for each pair that does not fit."
  module _ (new : Entry) (table : List Entry) where
    unfoldable pub units_against : List ℕ → List Finding
    units_against [] = []
    units_against (i ∷ is) = unit_against new (entry_at i table) ++ units_against is

    unfoldable pub unit_check : Earlier → List Finding
    unit_check d = units_against (d.index ∷ referrers d.entry.relation)

-- ---- 18 note: `note_reference_error`

-- the note with one byte more on each side; the definition's note, or its end
unfoldable pub widened : Span → Span
widened s = record { start = s.start - 1; end = s.end + 1 }

unfoldable pub note_place : Span → Option Text → Span
note_place s None = record { start = s.end; end = s.end }
note_place s (Some t) = t.span

unfoldable pub note_check : Bool → Option Text → Source → List Finding
note_check implicit None d = []
note_check implicit (Some n) d = found_two 18 (widened n.span) (note_place d.span d.note) implicit ∷ []

-- ---- 19 conflicting quantity: `conflicting_reference_quantity_error`; 20 text value: `text_val_in_ref_warn`

unfoldable pub is_defined_in_step : Relation → Bool
is_defined_in_step (definition in_step by) = in_step
is_defined_in_step (reference t j) = true

unfoldable pub quantity_span : Source → Option Quantity → Span
quantity_span s None = s.span
quantity_span s (Some q) = q.span

-- where one of two values is text: the text's span first
unfoldable pub text_check : Bool → Bool → Bool → Span → Span → List Finding
text_check implicit true true s t = []
text_check implicit true false s t = found_two 20 s t implicit ∷ []
text_check implicit false true s t = found_two 20 t s implicit ∷ []
text_check implicit false false s t = []

unfoldable pub quantity_check : Bool → Source → Entry → Option Amount → Option Amount → List Finding
quantity_check implicit s d None q = []
quantity_check implicit s d (Some a) None = []
quantity_check implicit s d (Some a) (Some b) =
    when (not (is_defined_in_step d.relation)) (found_two 19 (quantity_span s s.quantity) d.source.span implicit)
    ++ text_check implicit (is_textual a.kind) (is_textual b.kind)
    (quantity_span s s.quantity) (quantity_span d.source d.source.quantity)

unfoldable pub reference_checks : Bool → Entry → Entry → List Finding
reference_checks implicit new d =
    note_check implicit new.source.note d.source ++ quantity_check implicit new.source d new.quantity d.quantity

-- ---- `resolve_intermediate_ref`

-- the indices of the steps among some blocks, newest first: "A step target is a block index in the current section, text blocks counted."
unfoldable pub step_indices : List Block → List ℕ
step_indices [] = []
step_indices (step_block n is ∷ bs) = length bs ∷ step_indices bs
step_indices (text_block t ∷ bs) = step_indices bs

-- the indices of n sections, newest first
unfoldable pub section_indices : ℕ → List ℕ
section_indices zero = []
section_indices (suc n) = n ∷ section_indices n

unfoldable pub candidates : IntermediateTarget → List Block → ℕ → List ℕ
candidates target_step blocks sections = step_indices blocks
candidates target_section blocks sections = section_indices sections

-- the k-th of a list from 1, where it has so many
unfoldable pub nth : ℕ → List ℕ → Option ℕ
nth k [] = None
nth zero (x ∷ xs) = None
nth (suc zero) (x ∷ xs) = Some x
nth (suc (suc k)) (x ∷ xs) = nth (suc k) xs

-- relative: counted back from the newest; else from the first
unfoldable pub resolve_intermediate_ref : Intermediate → List Block → ℕ → Option ℕ
resolve_intermediate_ref i blocks sections =
    nth i.value.size
    (pick i.relative (candidates i.target blocks sections) (reverse (candidates i.target blocks sections)))

-- 7, intermediate modifiers
unfoldable pub intermediate_modifiers : Component → List Finding
intermediate_modifiers c =
    when (c.modifiers.recipe || c.modifiers.hidden || c.modifiers.new) (found 7 c.modifiers_span)

-- 8 value 0, 9 bounds
unfoldable pub intermediate_findings : Intermediate → Option ℕ → List Finding
intermediate_findings i (Some j) = []
intermediate_findings i None = found (pick (eqb i.value.size 0) 8 9) i.span ∷ []

-- the relation, which stays a definition where nothing was chosen
unfoldable pub intermediate_target : IntermediateTarget → Target
intermediate_target target_step = to_step
intermediate_target target_section = to_section

unfoldable pub intermediate_relation : Intermediate → Relation → Option ℕ → Relation
intermediate_relation i r None = r
intermediate_relation i r (Some j) = reference (intermediate_target i.target) j
