-- The checks of notes and quantities against a row, and all checks after a reference.
use Rattle.std.specs.Prelude.{None, Option, Some}
use Prim.Native.Nat.{ℕ, ◌+◌, ◌-◌, ◌/◌, ◌%◌, ◌≤◌, ◌<◌}
use mathlib.Core.Path.{◌≡◌, refl, ap, sym, ◌∙◌}
use mathlib.Core.Bool.{Bool, true, false, ◌&&◌, not}
use mathlib.Core.List.{List, [], ◌∷◌, ◌++◌}
use native.Mathlib.Omega.{arith}
use lib.ListN.{length, take, drop, length-append, length-reverse}
use borrow.Author.Tests.{eq-eqb, ne_eqb}
use Rattle.rules.specs.Basic.{pick, on_some}
use Rattle.rules.specs.Units.{NamedUnit}
use Rattle.rules.specs.Modes.{has_advanced_units}
use Rattle.rules.specs.Finding.{Finding}
use Rattle.rules.specs.Model.{Kind, ingredient, cookware, is_ingredient, amount_of, source_of, Source, Entry}
use Rattle.rules.specs.Reference.{Earlier, entry_at, referrers}
use Rattle.rules.specs.Checks.{is_defined_in_step, unit_against, units_against, unit_check, reference_checks}
use Rattle.rules.specs.Components.{checks_after}
use Rattle.rules.specs.State.{table_of}
use Rattle.parts.specs.Views.{opt_quantity_in}
use Rattle.components.specs.declared.ComponentView.{ComponentView}
use Rattle.components.specs.Views.{component_in, ComponentWithin}
use Rattle.model.specs.Rows.{entry_as, relation_in, relation_as}
use Rattle.model.specs.Memory.{state_in, Sound, count_of, row_in, referrers_of}
use Rattle.model.specs.Fits.{AllFit}
use Rattle.model.specs.declared.Relation.{Relation}
use Rattle.model.specs.declared.Relation.TheVariants.{Definition, Reference}
use Rattle.model.specs.declared.Kind as kinds
use Rattle.model.specs.declared.Kind.TheVariants as kind
use Rattle.model.specs.declared.Row.{Row}
use Rattle.model.specs.declared.Held.{Held}
use Rattle.model.proofs.Entries.{entry_relation}
use Rattle.checks.specs.Reports.{NoteWithin, ReferenceChecked}
use Rattle.memory.specs.Reports.{Reported}
use Rattle.memory.proofs.Reports.{reported_seq, reported_fit, reported_count}
use Rattle.memory.proofs.Reading.{referrers_few}
use Rattle.memory.proofs.Frames.{framed_count, reported_framed}
use Rattle.checks.proofs.Laws.{none_found, said, note_read}
use Rattle.lookup.specs.Names.{earlier_at}
use Rattle.recall.specs.Recalls.{Recalled}
use Rattle.unit_checks.specs.Checked.{InStep, UnitChecked, UnitsAfter, EntryChecked, ChecksDone}
use Rattle.unit_checks.proofs.Rows.{earlier_row, framed_earlier, row_fits, old_source, old_amount}
use Rattle.unit_checks.proofs.Units.{sample, sample_of, against_few, referrers_none}
use Rattle.parts.specs.declared.QuantityView.{QuantityView}
use Rattle.model.specs.Kinds.{kind_of}
use Rattle.model.specs.declared.layout.TheConstants.{MOST_FINDINGS}

-- ---- notes and quantities

module _ (k : Kind) (d : ℕ) {sheet w₀ : List ℕ} {h₀ : Held} {r : Row} {o : ComponentView} (f : AllFit sheet w₀ h₀) (l : d < count_of k h₀) (e : r ≡ row_in k w₀ d)
    (q : Recalled (take (r.line_end - r.line_at) (drop r.line_at sheet)) o) where
  abbrev by : List ℕ
  by = referrers_of k w₀ h₀ d

  old : (entry_as k sheet r by).source ≡ source_of (component_in (take (r.line_end - r.line_at) (drop r.line_at sheet)) o)
  old = old_source k (row_fits f k d l e) q by

  pub entry_checked : {line : List ℕ} {v : ComponentView} {w : List ℕ} {h : Held} {b : Bool} → InStep r.relation b
      → ReferenceChecked (not v.modifiers.reference) b v.note v.quantity o.span o.note o.quantity w₀ h₀ w h → EntryChecked k sheet line v d w₀ h₀ w h
  entry_checked {line} {v} s c =
      record {
        is =
            λ new n.
            said
            (ap (λ (x : Bool). reference_checks (not x) new (earlier_at k sheet w₀ h₀ d).entry) n.is_ref
            ∙ ap (reference_checks (not v.modifiers.reference) new) (earlier_row k sheet w₀ h₀ d e))
            (unfold source_of component_in in
            c.is line (take (r.line_end - r.line_at) (drop r.line_at sheet)) (is_ingredient k) (is_ingredient k) new (entry_as k sheet r by)
            (ap (λ (x : Source). x.note) n.is_source)
            (ap (λ (x : Source). x.quantity) n.is_source)
            n.is_amount
            (ap is_defined_in_step (entry_relation k sheet r by) ∙ s.is k by)
            (ap (λ (x : Source). x.span) old)
            (ap (λ (x : Source). x.note) old)
            (ap (λ (x : Source). x.quantity) old)
            (old_amount k (row_fits f k d l e) q by));
      }

pub note_within : {line : List ℕ} {v : ComponentView} → ComponentWithin line v → NoteWithin v.note
note_within {line} {v} w = note_read line v.note w.note

-- ---- the unit check, for ingredients and with flag 4

and_none : (x : Bool) (fs : List Finding) → pick (x && false) fs [] ≡ []
and_none true fs = refl
and_none false fs = refl

other_kind : (b : kinds.Kind) → (b ≡ kind.Ingredient → ⊥) → b ≡ kind.Cookware
other_kind kind.Ingredient u = absurd (u refl)
other_kind kind.Cookware u = refl

module _ (b : kinds.Kind) {us : List NamedUnit} {flags : ℕ} {sheet line : List ℕ} {a : Option QuantityView} {d : ℕ} {w₀ : List ℕ} {h₀ : Held} where
  pub after_other : (b ≡ kind.Ingredient → ⊥) → UnitsAfter us flags (kind_of b) sheet line a d w₀ h₀ w₀ h₀
  after_other u = rw (other_kind b u) (record { is = λ new n. none_found (unfold is_ingredient in refl) })

  pub after_off : (flags / 4 % 2 ≡ 1 → ⊥) → UnitsAfter us flags (kind_of b) sheet line a d w₀ h₀ w₀ h₀
  after_off u =
      let e : has_advanced_units flags ≡ false = (unfold has_advanced_units in ne_eqb (flags / 4 % 2) 1 u) in
      record { is = λ new n. none_found (rw e (and_none (is_ingredient (kind_of b)) _)) }

  pub after_on : {w : List ℕ} {h : Held} → b ≡ kind.Ingredient → flags / 4 % 2 ≡ 1 → UnitChecked us sheet line a d w₀ h₀ w h → UnitsAfter us flags (kind_of b) sheet line a d w₀ h₀ w h
  after_on t u c =
      let e : has_advanced_units flags ≡ true = (unfold has_advanced_units in eq-eqb (flags / 4 % 2) 1 u) in
      rw t (record { is = λ new n. said (rw e (unfold is_ingredient in refl)) (c.is new n.is_source (unfold is_ingredient in n.is_amount)) })

pub below_ingredient : (b : kinds.Kind) (d : ℕ) (h : Held) → b ≡ kind.Ingredient → d < count_of (kind_of b) h → d < h.counts.ingredients
below_ingredient b d h t l = rw t at l

-- ---- how many findings it makes

relation_few : (k : Kind) (x : Relation) (in_step : Bool) (index : ℕ) (by : List ℕ) → length (referrers (relation_as k x in_step index by)) ≤ length by
relation_few k Definition in_step index by = unfold relation_as referrers in omega (arith, length-reverse by)
relation_few k (Reference t) in_step index by = rw (referrers_none k t in_step index by) (omega arith)

against_all : (us : List NamedUnit) (new : Entry) (table : List Entry) (is : List ℕ) → length (units_against us new table is) ≤ length is
unfolding units_against
against_all us new table [] = omega arith
against_all us new table (i ∷ is) =
    omega (arith, length-append (unit_against us new (entry_at i table)) (units_against us new table is), against_few us new (entry_at i table), against_all us new table is)

module _ (sheet : List ℕ) {w : List ℕ} {h : Held} (z : Sound w h) (d : ℕ) where
  abbrev row : Row
  row = row_in ingredient w d

  abbrev its : List ℕ
  its = referrers_of ingredient w h d

  relation_is : (earlier_at ingredient sheet w h d).entry.relation ≡ relation_as ingredient row.relation.relation row.relation.in_step row.relation.index its
  relation_is = ap (λ (x : Entry). x.relation) (earlier_row ingredient sheet w h d refl) ∙ entry_relation ingredient sheet row its ∙ (unfold relation_in in refl)

  earlier_few : length (referrers (earlier_at ingredient sheet w h d).entry.relation) ≤ h.counts.ingredients
  earlier_few = rw relation_is (omega (arith, relation_few ingredient row.relation.relation row.relation.in_step row.relation.index its, referrers_few ingredient z d))

  check_few : (us : List NamedUnit) (new : Entry) (table : List Entry) → length (unit_check us new table (earlier_at ingredient sheet w h d)) ≤ h.counts.ingredients + 1
  unfolding unit_check
  check_few us new table = omega (arith, earlier_few, against_all us new table ((earlier_at ingredient sheet w h d).index ∷ referrers (earlier_at ingredient sheet w h d).entry.relation))

after_most : (us : List NamedUnit) (x : Bool) (k : Kind) (new : Entry) (table : List Entry) (sheet : List ℕ) {w : List ℕ} {h : Held} → Sound w h → (d : ℕ)
    → length (pick (is_ingredient k && x) (unit_check us new table (earlier_at k sheet w h d)) []) ≤ h.counts.ingredients + 1
unfolding is_ingredient
after_most us true ingredient new table sheet z d = check_few sheet z d us new table
after_most us false ingredient new table sheet z d = omega arith
after_most us x cookware new table sheet z d = omega arith

module _ {us : List NamedUnit} {flags : ℕ} {k : Kind} {sheet line : List ℕ} {a : Option QuantityView} {d : ℕ} {w₀ w : List ℕ} {h₀ h : Held} (c : UnitsAfter us flags k sheet line a d w₀ h₀ w h) where
  told : Reported (pick (is_ingredient k && has_advanced_units flags) (unit_check us (sample k line a) (table_of k (state_in sheet w₀ h₀)) (earlier_at k sheet w₀ h₀ d)) []) w₀ h₀ w h
  told = c.is (sample k line a) (sample_of k line a)

  pub after_fit : AllFit sheet w₀ h₀ → AllFit sheet w h
  after_fit f = reported_fit told sheet f

  pub after_below : d < count_of k h₀ → d < count_of k h
  after_below l = omega (arith, framed_count (reported_framed told) k)

  pub after_room : Sound w₀ h₀ → h₀.counts.findings + h₀.counts.ingredients + 3 < MOST_FINDINGS → h.counts.findings + 2 < MOST_FINDINGS
  after_room z l = omega (arith, reported_count told, after_most us (has_advanced_units flags) k (sample k line a) (table_of k (state_in sheet w₀ h₀)) sheet z d)

  -- ---- all checks

  pub done_at : {v : ComponentView} {to : Option ℕ} {w₁ : List ℕ} {h₁ : Held} → a ≡ v.quantity → to ≡ Some d → EntryChecked k sheet line v d w h w₁ h₁ → ChecksDone us flags k sheet line v to w₀ h₀ w₁ h₁
  done_at {v} {to} {w₁} {h₁} m e n =
      record {
        is =
            λ new p q r.
            said (all new)
            (reported_seq (c.is new (record { is_source = unfold source_of component_in in ap (λ (x : Source). x.quantity) p ∙ ap (opt_quantity_in line) (sym m); is_amount = q ∙ ap (λ (x : Option QuantityView). on_some (amount_of (is_ingredient k)) (opt_quantity_in line x)) (sym m) }))
            (said (ap (λ (x : Earlier). reference_checks (not new.modifiers.ref) new x.entry) (sym (framed_earlier (reported_framed told) k sheet d))) (n.is new (record { is_source = p; is_amount = q; is_ref = r }))));
      }
    where
      all : (new : Entry) → checks_after us flags k new (table_of k (state_in sheet w₀ h₀)) (on_some (earlier_at k sheet w₀ h₀) to)
          ≡ pick (is_ingredient k && has_advanced_units flags) (unit_check us new (table_of k (state_in sheet w₀ h₀)) (earlier_at k sheet w₀ h₀ d)) [] ++ reference_checks (not new.modifiers.ref) new (earlier_at k sheet w₀ h₀ d).entry
      all new = rw e (unfold on_some checks_after in refl)

pub done_none : {us : List NamedUnit} {flags : ℕ} {k : Kind} {sheet line : List ℕ} {v : ComponentView} {to : Option ℕ} {w : List ℕ} {h : Held} → to ≡ None → ChecksDone us flags k sheet line v to w h w h
done_none e = record { is = λ new p q r. none_found (rw e (unfold on_some checks_after in refl)) }
