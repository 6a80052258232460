-- The rows of earlier components: what they stand for, their lines read again, and that findings leave them.
use Prim.Native.Nat.{ℕ, ◌-◌, ◌<◌}
use mathlib.Core.Path.{◌≡◌, refl, ap, sym, ◌∙◌}
use mathlib.Core.Bool.{Bool, true}
use Rattle.std.specs.Prelude.{Option, None, Some}
use mathlib.Core.List.{List}
use lib.ListN.{take, drop}
use lib.Seq.{slice}
use Rattle.rules.specs.Basic.{is_some, on_some, lf}
use Rattle.rules.specs.Event.{Event, Component}
use Rattle.rules.specs.Read.{parse_line}
use Rattle.rules.specs.Model.{Kind, ingredient, is_ingredient, amount_of, Source, source_of, entry_with, entry_of}
use Rattle.rules.specs.Reference.{entry_at}
use Rattle.rules.specs.Checks.{is_defined_in_step}
use Rattle.rules.specs.State.{table_of}
use Rattle.rules.specs.Sheet.{Without}
use Rattle.rules.proofs.Basics.{no_truth}
use Rattle.parts.specs.Views.{opt_quantity_in}
use Rattle.components.specs.declared.ComponentView.{ComponentView}
use Rattle.components.specs.Views.{component_in}
use Rattle.model.specs.Rows.{component_of_line, relation_as, relation_in, entry_as, entry_in}
use Rattle.model.specs.Memory.{state_in, count_of, row_in, rows_in, referrers_of}
use Rattle.model.specs.Fits.{is_of_kind, Fits, AllFit}
use Rattle.model.specs.declared.Target.{Target}
use Rattle.model.specs.declared.Target.TheVariants.{Ingredient, Step, Section}
use Rattle.model.specs.declared.Relation.TheVariants.{Definition, Reference}
use Rattle.model.specs.declared.RelationRecord.{RelationRecord}
use Rattle.model.specs.declared.Row.{Row}
use Rattle.model.specs.declared.Held.{Held}
use Rattle.model.proofs.Tables.{entries_at}
use Rattle.model.proofs.Windows.{table_is}
use Rattle.model.proofs.Entries.{entry_quantity, entry_source}
use Rattle.memory.specs.Frames.{Framed}
use Rattle.lookup.specs.Names.{earlier_in, earlier_at}
use Rattle.lookup.proofs.Names.{part_slice}
use Rattle.recall.specs.Recalls.{Recalled, QuantityRecalled}
use Rattle.unit_checks.specs.Checked.{InStep}
use Rattle.parts.specs.declared.QuantityView.{QuantityView}

-- ---- the entry of an index

module _ (k : Kind) (sheet w : List ℕ) (h : Held) (i : ℕ) where
  pub entry_there : i < count_of k h → entry_at i (table_of k (state_in sheet w h)) ≡ Some (earlier_at k sheet w h i).entry
  unfolding earlier_in
  entry_there l = ap (entry_at i) (table_is k sheet w h) ∙ entries_at k sheet (rows_in k w) (referrers_of k w h) i (count_of k h) l

  pub earlier_row : {r : Row} → r ≡ row_in k w i → (earlier_at k sheet w h i).entry ≡ entry_as k sheet r (referrers_of k w h i)
  unfolding earlier_in entry_in
  earlier_row e = rw e

-- findings leave it
pub framed_earlier : {w w₁ : List ℕ} {h h₁ : Held} → Framed w h w₁ h₁ → (k : Kind) (sheet : List ℕ) (i : ℕ) → earlier_at k sheet w₁ h₁ i ≡ earlier_at k sheet w h i
framed_earlier f k sheet i = rw (f.rows k, f.referrers k)

-- ---- what a row points at

pub row_fits : {sheet w : List ℕ} {h : Held} {r : Row} → AllFit sheet w h → (k : Kind) (i : ℕ) → i < count_of k h → r ≡ row_in k w i → Fits k sheet r
row_fits a k i l e = rw e ((a.rows k).at i l)

some_kind : (k : Kind) (o : Option Event) → is_of_kind k o ≡ true → is_some o ≡ true
unfolding is_of_kind is_some
some_kind k None e = no_truth e
some_kind k (Some x) e = refl

module _ (k : Kind) {sheet : List ℕ} {r : Row} (f : Fits k sheet r) where
  -- its line, as it is lent
  lent : take (r.line_end - r.line_at) (drop r.line_at sheet) ≡ slice r.line_at r.line_end sheet
  lent = part_slice r.line_at r.line_end sheet f.line.order

  pub line_reads : is_some (parse_line (take (r.line_end - r.line_at) (drop r.line_at sheet))) ≡ true
  line_reads = rw lent (some_kind k (parse_line (slice r.line_at r.line_end sheet)) f.is_line)

  pub line_kind : is_of_kind k (parse_line (take (r.line_end - r.line_at) (drop r.line_at sheet))) ≡ true
  line_kind = rw lent f.is_line

  pub line_whole : Without lf (take (r.line_end - r.line_at) (drop r.line_at sheet))
  line_whole = rw lent f.line.no_lf

  module _ {v : ComponentView} (q : Recalled (take (r.line_end - r.line_at) (drop r.line_at sheet)) v) where
    old_is : component_of_line k (slice r.line_at r.line_end sheet) ≡ component_in (take (r.line_end - r.line_at) (drop r.line_at sheet)) v
    old_is = sym (q.is k line_kind ∙ ap (component_of_line k) lent)

    pub old_source : (by : List ℕ) → (entry_as k sheet r by).source ≡ source_of (component_in (take (r.line_end - r.line_at) (drop r.line_at sheet)) v)
    unfolding entry_of entry_with
    old_source by = entry_source k sheet r by ∙ ap source_of old_is

    pub old_amount : (by : List ℕ) → (entry_as k sheet r by).quantity ≡ on_some (amount_of (is_ingredient k)) (opt_quantity_in (take (r.line_end - r.line_at) (drop r.line_at sheet)) v.quantity)
    unfolding entry_of entry_with component_in
    old_amount by = entry_quantity k sheet r by ∙ ap (λ (c : Component). on_some (amount_of (is_ingredient k)) c.quantity) old_is

-- the quantity of its line
module _ {sheet : List ℕ} {r : Row} (f : Fits ingredient sheet r) where
  pub line_amount : (by : List ℕ) → (entry_as ingredient sheet r by).quantity ≡ on_some (amount_of true) (component_of_line ingredient (take (r.line_end - r.line_at) (drop r.line_at sheet))).quantity
  unfolding entry_of entry_with is_ingredient
  line_amount by = entry_quantity ingredient sheet r by ∙ ap (λ (l : List ℕ). on_some (amount_of true) (component_of_line ingredient l).quantity) (sym (lent ingredient f))

-- the quantity of its line alone
module _ {sheet : List ℕ} {r : Row} (f : Fits ingredient sheet r) {b : Option QuantityView} (q : QuantityRecalled (take (r.line_end - r.line_at) (drop r.line_at sheet)) b) where
  quantity_is : (component_of_line ingredient (slice r.line_at r.line_end sheet)).quantity ≡ opt_quantity_in (take (r.line_end - r.line_at) (drop r.line_at sheet)) b
  quantity_is = sym (q.is ∙ ap (λ (l : List ℕ). (component_of_line ingredient l).quantity) (lent ingredient f))

  pub quantity_source : (by : List ℕ) → (entry_as ingredient sheet r by).source.quantity ≡ opt_quantity_in (take (r.line_end - r.line_at) (drop r.line_at sheet)) b
  unfolding entry_of entry_with source_of
  quantity_source by = ap (λ (s : Source). s.quantity) (entry_source ingredient sheet r by) ∙ quantity_is

-- ---- whether an entry is defined in a step

pub step_definition : (r : RelationRecord) → r.relation ≡ Definition → InStep r r.in_step
unfolding is_defined_in_step relation_in relation_as
step_definition r e = record { is = λ k by. rw e }

referred_inside : (k : Kind) (x : Target) (in_step : Bool) (index : ℕ) (by : List ℕ) → is_defined_in_step (relation_as k (Reference x) in_step index by) ≡ true
unfolding is_defined_in_step relation_as
referred_inside k Ingredient in_step index by = refl
referred_inside k Step in_step index by = refl
referred_inside k Section in_step index by = refl

pub step_reference : (r : RelationRecord) (x : Target) → r.relation ≡ Reference x → InStep r true
unfolding relation_in
step_reference r x e = record { is = λ k by. rw e (referred_inside k x _ _ by) }
