-- A component's line, put together.
use Prim.Native.Nat.{ℕ, ◌+◌, ◌≤◌, ◌<◌}
use mathlib.Core.Path.{◌≡◌, refl, ap, sym, ◌∙◌}
use mathlib.Core.Bool.{Bool, true, not}
use mathlib.Core.List.{List, []}
use Rattle.std.specs.Prelude.{Option, None, Some}
use native.Mathlib.Omega.{arith}
use lib.ListN.{length}
use lib.Seq.{slice}
use Rattle.rules.specs.Basic.{on_some}
use Rattle.rules.specs.Event as rules
use Rattle.rules.specs.Input.{Context}
use Rattle.rules.specs.Finding.{Finding}
use Rattle.rules.specs.Model.{Kind, ingredient, cookware, Relation, definition, Entry, entry_of, entry_with, set_relation}
use Rattle.rules.specs.Modes.{is_components}
use Rattle.rules.specs.Reference.{Earlier}
use Rattle.rules.specs.Checks.{resolve_intermediate_ref, intermediate_findings, intermediate_relation}
use Rattle.rules.specs.State.{State}
use Rattle.rules.specs.Components.{Made, new_entry, lock_findings, made_intermediate, make_ingredient}
use Rattle.parts.specs.Views.{span_in}
use Rattle.components.specs.Views.{modifiers_in, component_in, intermediate_in}
use Rattle.components.specs.declared.ComponentView.{ComponentView}
use Rattle.components.specs.declared.Intermediate.{Intermediate}
use Rattle.model.specs.Rows.{entry_as, if_found}
use Rattle.model.specs.Memory.{state_of, state_in, count_of}
use Rattle.model.specs.Fits.{Fits, AllFit}
use Rattle.model.specs.declared.RelationRecord.{RelationRecord}
use Rattle.model.specs.declared.Row.{Row}
use Rattle.model.specs.declared.Noted.{Noted}
use Rattle.model.specs.declared.Held.{Held}
use Rattle.memory.specs.Pushes.{held_with, FoundBelow, ComponentAdded}
use Rattle.lookup.specs.declared.NamePart.{NamePart}
use Rattle.memory.specs.Reports.{Reported}
use Rattle.memory.proofs.Reports.{reported_as, reported_fit}
use Rattle.memory.proofs.Frames.{reported_framed}
use Rattle.memory.proofs.Writes.{reported_writes, component_writes}
use Rattle.timers.specs.Timed.{LockChecked}
use Rattle.intermediate.specs.Intermediates.{ModifiersReported, Resolved, Related}
use Rattle.intermediate.proofs.Laws.{intermediate_reported}
use Rattle.blocks.proofs.Fitting.{items_fit}
use Rattle.new_rows.specs.Rows.{RowMade}
use Rattle.new_rows.proofs.Laws.{row_related}
use Rattle.new_rows.proofs.Pushed.{component_pushed, component_sound}
use Rattle.component_lines.specs.Steps.{ComponentHere, NamePlaced, Roomy, ReferredBelow, RowPut, MadePushed, IntermediateReported, IntermediateDone}
use Rattle.component_lines.proofs.Places.{row_fits}
use Rattle.component_lines.proofs.Rooms.{roomy_kept}
use Rattle.sheet.specs.Words.{define_of}
use Rattle.model.specs.Kinds.{room_of}
use Rattle.model.proofs.Writes.{writes_on}

-- ---- the row and its item

kind_room : (k : Kind) {h : Held} → Roomy h → count_of k h < room_of k
kind_room ingredient r = omega (arith, r.ingredients)
kind_room cookware r = omega (arith, r.cookware)

pub add_ready : {k : Kind} {h : Held} {to : Option ℕ} → Roomy h → ReferredBelow k h to → (count_of k h < room_of k) × FoundBelow to (count_of k h)
add_ready {k} r f = (kind_room k r, f.is)

held_items : (k : Kind) (to : Option ℕ) (h : Held) → (held_with k to h).counts.items ≡ h.counts.items
held_items ingredient (Some d) h = refl
held_items ingredient None h = refl
held_items cookware (Some d) h = refl
held_items cookware None h = refl

pub items_ready : {k : Kind} {w₀ w : List ℕ} {h₀ h : Held} {row : Row} {to : Option ℕ} → Roomy h₀ → ComponentAdded k w₀ h₀ row to w h → h.counts.items + 1 ≤ 100000
items_ready {k} {h₀ = h₀} {to = to} r a = omega (arith, r.items, ap (λ (x : Held). x.counts.items) a.held, held_items k to h₀)

-- ---- findings, then the row with its referrer, then the item

pub pushed_done : (k : Kind) (sheet : List ℕ) (m : Made) {w₀ w₁ w : List ℕ} {h₀ h₁ h : Held} {row : Row} {to : Option ℕ} → Reported m.findings w₀ h₀ w₁ h₁ → AllFit sheet w₀ h₀ → RowPut k w₁ h₁ row to w h
    → Fits k sheet row → entry_as k sheet row [] ≡ m.entry → to ≡ on_some (λ (d : Earlier). d.index) m.refers_to → MadePushed k m sheet w₀ h₀ w h
pushed_done k sheet m {w = w} {to = to} r a q f ee ef =
    record {
      is = component_pushed k sheet m r q.added q.items ee ef;
      sound = component_sound q.added q.items;
      fit = items_fit q.items sheet w (q.added.fit sheet (reported_fit r sheet a) f);
      writes = writes_on (reported_writes r) (component_writes k to q.added);
    }

-- ---- intermediate references

define_in_lem : (sheet w : List ℕ) (h : Held) → (state_in sheet w h).modes.define ≡ define_of h.define
unfolding state_in state_of
define_in_lem sheet w h = refl

-- the entry of a component, defined in a step unless in components mode
pub new_entry_lem : (k : Kind) (c : rules.Component) (sheet w : List ℕ) (h : Held) {b : Bool} → b ≡ is_components (define_of h.define) → new_entry k c (state_in sheet w h) ≡ entry_of k (not b) c
unfolding new_entry
new_entry_lem k c sheet w h e = rw (define_in_lem sheet w h, ← e)

entry_relation : (k : Kind) (in_step : Bool) (c : rules.Component) → (entry_of k in_step c).relation ≡ definition in_step []
unfolding entry_of entry_with
entry_relation k in_step c = refl

made_intermediate_lem : (cx : Context) (c : rules.Component) (i : rules.Intermediate) (st : State) {new : Entry} {target : Option ℕ} → new_entry ingredient c st ≡ new
    → target ≡ resolve_intermediate_ref i st.place.section.content (length st.kept.sections) → make_ingredient cx c (Some i) st ≡ made_intermediate c new i target
unfolding make_ingredient
made_intermediate_lem cx c i st e q = rw (e, q)

component_modifiers : (line : List ℕ) (v : ComponentView) → (component_in line v).modifiers ≡ modifiers_in v.modifiers
unfolding component_in
component_modifiers line v = refl

component_place : (line : List ℕ) (v : ComponentView) → (component_in line v).modifiers_span ≡ span_in v.modifiers_span
unfolding component_in
component_place line v = refl

-- 6
pub locked : (line : List ℕ) (v : ComponentView) {x : Option Noted} {w w₁ : List ℕ} {h h₁ : Held} → LockChecked v.quantity x → Reported (if_found x) w h w₁ h₁ → Reported (lock_findings (component_in line v).quantity) w h w₁ h₁
unfolding component_in
locked line v l p = reported_as p (l.is line)

-- 6, then 7, then 8 or 9
pub intermediate_found : {v : ComponentView} {i : Intermediate} {target : Option ℕ} {x y : Option Noted} {w₀ w₁ w₂ w : List ℕ} {h₀ h₁ h₂ h : Held} → LockChecked v.quantity x → Reported (if_found x) w₀ h₀ w₁ h₁
    → ModifiersReported v.modifiers v.modifiers_span y → Reported (if_found y) w₁ h₁ w₂ h₂ → Reported (intermediate_findings (intermediate_in i) target) w₂ h₂ w h → IntermediateReported v i target w₀ h₀ w h
intermediate_found {v} {i} {target} l p m q r =
    record { is = λ line new. intermediate_reported (component_in line v) new i target (component_modifiers line v) (component_place line v) (locked line v l p) m q r }

-- the bounds for a row and its place
pub row_ready : {k : Kind} {sheet : List ℕ} {at end : ℕ} {v : ComponentView} {p : NamePart} → ComponentHere k sheet at end v → NamePlaced k sheet at v p → (end ≤ 65536) × (at ≤ end) × (p.at ≤ p.end) × (p.end ≤ 65536)
row_ready x n = (omega (arith, x.whole.most, x.short), x.whole.order, n.new.order, omega (arith, n.most, x.short))

pub reported_roomy : {fs : List Finding} {w w₁ : List ℕ} {h h₁ : Held} → Reported fs w h w₁ h₁ → Roomy h → Roomy h₁
reported_roomy f r = roomy_kept (reported_framed f) r

-- what the line is does not matter for that
pub intermediate_roomy : {v : ComponentView} {i : Intermediate} {target : Option ℕ} {w₀ w : List ℕ} {h₀ h : Held} → IntermediateReported v i target w₀ h₀ w h → Roomy h₀
    → Roomy h × ReferredBelow ingredient h None
intermediate_roomy {v} f r = (reported_roomy (f.is [] (entry_of ingredient true (component_in [] v))) r, record { is = tt })

pub intermediate_done : {sheet : List ℕ} {at end : ℕ} {v : ComponentView} {i : Intermediate} {p : NamePart} {target : Option ℕ} {b : Bool} {relation : RelationRecord} {row : Row} {w₀ w₁ w : List ℕ} {h₀ h₁ h : Held}
    → ComponentHere ingredient sheet at end v → AllFit sheet w₀ h₀ → NamePlaced ingredient sheet at v p → Resolved i w₀ h₀ target → b ≡ is_components (define_of h₀.define) → Related i (not b) target relation
    → RowMade at end p.at p.end v.modifiers relation row → IntermediateReported v i target w₀ h₀ w₁ h₁ → RowPut ingredient w₁ h₁ row None w h → IntermediateDone sheet (slice at end sheet) v i w₀ h₀ w h
intermediate_done {sheet} {at} {end} {v} {i} {target = target} {b = b} {row = row} {w₀ = w₀} {w = w} {h₀ = h₀} {h = h} x a q t e rel made f put =
    record { is = λ cx. rw (made_intermediate_lem cx (component_in (slice at end sheet) v) (intermediate_in i) (state_in sheet w₀ h₀) (new_entry_lem ingredient (component_in (slice at end sheet) v) sheet w₀ h₀ e) (t.is sheet)) done }
  where
    entry : entry_as ingredient sheet row [] ≡ (made_intermediate (component_in (slice at end sheet) v) (entry_of ingredient (not b) (component_in (slice at end sheet) v)) (intermediate_in i) target).entry
    entry =
        unfold made_intermediate in
        (row_related ingredient sheet made (component_in (slice at end sheet) v) x.is (not b) (intermediate_relation (intermediate_in i) (definition (not b) []) target) (component_modifiers (slice at end sheet) v) rel.is
        ∙ ap (λ (z : Relation). set_relation (intermediate_relation (intermediate_in i) z target) (entry_of ingredient (not b) (component_in (slice at end sheet) v))) (sym (entry_relation ingredient (not b) (component_in (slice at end sheet) v))))

    none_to : None ≡ on_some (λ (d : Earlier). d.index) (made_intermediate (component_in (slice at end sheet) v) (entry_of ingredient (not b) (component_in (slice at end sheet) v)) (intermediate_in i) target).refers_to
    none_to = unfold made_intermediate on_some in refl

    done : MadePushed ingredient (made_intermediate (component_in (slice at end sheet) v) (entry_of ingredient (not b) (component_in (slice at end sheet) v)) (intermediate_in i) target) sheet w₀ h₀ w h
    done =
        pushed_done ingredient sheet (made_intermediate (component_in (slice at end sheet) v) (entry_of ingredient (not b) (component_in (slice at end sheet) v)) (intermediate_in i) target)
        (f.is (slice at end sheet) (entry_of ingredient (not b) (component_in (slice at end sheet) v))) a put (row_fits x q made) entry none_to
