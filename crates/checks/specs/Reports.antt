-- What the checks after a reference find, and what they leave in work memory.
use Rattle.std.specs.Prelude.{ℕ, ◌≡◌, Bool, List, None, Option, Some}
use Rattle.rules.specs.Basic.{on_some}
use Rattle.rules.specs.Units.{NamedUnit}
use Rattle.rules.specs.Model.{Source, Entry, amount_of}
use Rattle.rules.specs.Checks.{note_check, quantity_check, reference_checks, is_defined_in_step, unit_pair}
use Rattle.parts.specs.declared.Span.{Span}
use Rattle.parts.specs.declared.QuantityView.{QuantityView}
use Rattle.parts.specs.Views.{span_in, SpanWithin, opt_text_in, opt_quantity_in}
use Rattle.model.specs.Rows.{if_found}
use Rattle.model.specs.declared.Noted.{Noted}
use Rattle.model.specs.declared.Held.{Held}
use Rattle.memory.specs.Reports.{Reported}
use Rattle.parts.specs.declared.TextView.{TextView}

-- a note that was read has numbers that are small
unfoldable pub NoteWithin : Option TextView → Type 0
NoteWithin None = Unit
NoteWithin (Some v) = SpanWithin v.span

-- 18: whatever the lines and the definition are that the views stand for
pub record NoteChecked (implicit : Bool) (note : Option TextView) (s : Span) (old : Option TextView) (r : Option Noted) : Type 0 where
  pub is : (line other : List ℕ) (d : Source) → d.span ≡ span_in s → d.note ≡ opt_text_in other old → if_found r ≡ note_check implicit (opt_text_in line note) d

-- 19 and 20
pub record QuantityChecked (implicit in_step : Bool) (a : Option QuantityView) (s : Span) (b : Option QuantityView) (w₀ : List ℕ) (h₀ : Held) (w : List ℕ) (h : Held) : Type 0 where
  pub is : (line other : List ℕ) (i j : Bool) (new : Source) (d : Entry) → new.quantity ≡ opt_quantity_in line a → is_defined_in_step d.relation ≡ in_step
      → d.source.span ≡ span_in s → d.source.quantity ≡ opt_quantity_in other b
      → Reported (quantity_check implicit new d (on_some (amount_of i) (opt_quantity_in line a)) (on_some (amount_of j) (opt_quantity_in other b))) w₀ h₀ w h

abbrev pub PairChecked : Bool → Bool → QuantityView → Span → QuantityView → List ℕ → Held → List ℕ → Held → Type 0
PairChecked implicit in_step a s b w₀ h₀ w h = QuantityChecked implicit in_step (Some a) s (Some b) w₀ h₀ w h

-- the span of a quantity's unit, or else its own
unfoldable pub place_with : Span → Option TextView → Span
place_with s None = s
place_with s (Some v) = v.span

unfoldable pub place_of : QuantityView → Span
place_of q = place_with q.span q.unit

-- 15 to 17, of the new quantity and the old one
pub record UnitsChecked (us : List NamedUnit) (f : List ℕ) (a : Option QuantityView) (g : List ℕ) (b : Option QuantityView) (r : Option Noted) : Type 0 where
  pub is : (i j : Bool) (new old : Entry) → new.source.quantity ≡ opt_quantity_in f a → old.source.quantity ≡ opt_quantity_in g b
      → if_found r ≡ unit_pair us new (on_some (amount_of i) (opt_quantity_in f a)) (on_some (amount_of j) (opt_quantity_in g b)) old

-- 18 to 20, of the new entry and its definition
pub record ReferenceChecked (implicit in_step : Bool) (note : Option TextView) (a : Option QuantityView) (s : Span) (old : Option TextView) (b : Option QuantityView) (w₀ : List ℕ) (h₀ : Held) (w : List ℕ) (h : Held) : Type 0 where
  pub is : (line other : List ℕ) (i j : Bool) (new d : Entry) → new.source.note ≡ opt_text_in line note → new.source.quantity ≡ opt_quantity_in line a
      → new.quantity ≡ on_some (amount_of i) (opt_quantity_in line a) → is_defined_in_step d.relation ≡ in_step → d.source.span ≡ span_in s → d.source.note ≡ opt_text_in other old
      → d.source.quantity ≡ opt_quantity_in other b → d.quantity ≡ on_some (amount_of j) (opt_quantity_in other b) → Reported (reference_checks implicit new d) w₀ h₀ w h
