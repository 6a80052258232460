-- The fault of each kind of line.
use Rattle.std.specs.Prelude.{Option, Some, Result, Ok, Err}
use Prim.Native.Nat.{ℕ}
use mathlib.Core.Path.{◌≡◌, refl, sym, ap, ◌∙◌, subst}
use mathlib.Core.List.{List}
use mathlib.Core.Bool.{Bool, true, false}
use Rattle.refusals.specs.Told.{number_told}
use Rattle.refusals.specs.declared.Reason.{Reason}
use Rattle.rules.specs.Basic.{pick}
use Rattle.rules.specs.Modes.{is_components}
use Rattle.parts.specs.declared.Span.{Span}
use Rattle.parts.specs.declared.TextView.{TextView}
use Rattle.components.specs.Views as views
use Rattle.components.specs.declared.ComponentView.{ComponentView}
use Rattle.events.specs.Views.{component_event_in, inside_in, event_in}
use Rattle.sheet.specs.declared.BlockKind.{BlockKind}
use Rattle.events.specs.declared.Between.{Between}
use Rattle.events.specs.declared.Severity.{Severity}
use Rattle.events.specs.declared.ComponentEvent.{ComponentEvent}
use Rattle.events.specs.declared.ComponentEvent.TheVariants as component
use Rattle.events.specs.declared.Inside.{Inside}
use Rattle.events.specs.declared.Inside.TheVariants as inside
use Rattle.events.specs.declared.EventView.{EventView}
use Rattle.events.specs.declared.EventView.TheVariants as event
use Rattle.model.specs.Kinds.{kind_of}
use Rattle.model.specs.Memory.{rows_in}
use Rattle.model.specs.declared.Kind.{Kind}
use Rattle.model.specs.declared.Kind.TheVariants.{Ingredient, Cookware}
use Rattle.model.specs.declared.Open.{Open}
use Rattle.model.specs.declared.Open.TheVariants as block
use Rattle.following.specs.Checked.{define_answer}
use Rattle.following.specs.declared.Follow.{Follow}
use Rattle.plain_walk.specs.Rows.{implicit_row, implicit_in, kind_fault, mark_fault_in, component_fault_in, fault_in}
use Rattle.plain_walk.specs.Faults.{ComponentReady, BlockReady, InsideReady, EventReady, RowFault, StepFault, LineFault}
use Rattle.components.specs.declared.Intermediate.{Intermediate}
use Rattle.parts.specs.declared.QuantityView.{QuantityView}
use Rattle.sheet.specs.Words.{define_of}

-- ---- 23 of a component in a step

-- a component of a kind, an ingredient with i; and its row
abbrev pub kind_event : Kind → ComponentView → Option Intermediate → ComponentEvent
kind_event Ingredient v i = component.Ingredient v i
kind_event Cookware v i = component.Cookware v

abbrev pub row_next : Kind → Follow → ℕ
row_next Ingredient f = f.ingredients
row_next Cookware f = f.cookware

module _ (sheet w : List ℕ) (f : Follow) {c : ComponentEvent} where
  -- a component that is y
  step_as : (y : ComponentEvent) {r : Result (Unit {0}) Reason} → c ≡ y → ((line : List ℕ) → number_told r ≡ mark_fault_in w sheet (component_event_in line y) f) → StepFault sheet w c f r
  step_as y q g = record { at = λ line. g line ∙ ap (λ (x : ComponentEvent). mark_fault_in w sheet (component_event_in line x) f) (sym q) }

  pub fault_row : (k : Kind) (v : ComponentView) (i : Option Intermediate) {r : Result (Unit {0}) Reason} → c ≡ kind_event k v i
      → RowFault sheet (rows_in (kind_of k) w) (row_next k f) (implicit_row (rows_in (kind_of k) w) v.modifiers.reference (row_next k f)) r → StepFault sheet w c f r
  unfolding component_event_in mark_fault_in kind_fault implicit_in views.component_in views.modifiers_in
  fault_row Ingredient v i q g = step_as (component.Ingredient v i) q (λ line. g.is)
  fault_row Cookware v i q g = step_as (component.Cookware v) q (λ line. g.is)

  pub fault_timer : (s : Span) (n : Option TextView) (a : Option QuantityView) → c ≡ component.Timer s n a → StepFault sheet w c f (Ok tt)
  unfolding component_event_in mark_fault_in
  fault_timer s n a q = step_as (component.Timer s n a) q (λ line. refl)

-- ---- a line in a block

-- 22, or 23 where there is one
listed_22 : (b : Bool) {m : Reason} (x : Option ℕ) → define_answer b ≡ Err m → number_told {A = Unit {0}} (Err m) ≡ pick b (Some 22) x
listed_22 true x e = ap number_told (sym e)
listed_22 false x e = cc

not_listed : (b : Bool) {u : Unit {0}} → define_answer b ≡ Ok u → b ≡ false
not_listed true e = cc
not_listed false e = refl

module _ (sheet w : List ℕ) (f : Follow) {i : Inside} where
  pub ready_step : (c : ComponentEvent) → i ≡ inside.Component c → f.block ≡ block.Step → InsideReady sheet w i f → ComponentReady sheet w c f
  unfolding InsideReady BlockReady
  ready_step c q b z =
      subst (λ (x : Open). BlockReady sheet w c x f) b (subst (λ (x : Inside). InsideReady sheet w x f) q z)

  -- a line that is y
  inside_as : (y : Inside) {r : Result (Unit {0}) Reason} → i ≡ y → ((line : List ℕ) → number_told r ≡ fault_in w sheet (event_in line (event.Inside y)) f) → LineFault sheet w (event.Inside i) f r
  inside_as y q g = record { at = λ line. g line ∙ ap (λ (x : Inside). fault_in w sheet (event_in line (event.Inside x)) f) (sym q) }

  pub inside_end : (k : BlockKind) → i ≡ inside.End k → LineFault sheet w (event.Inside i) f (Ok tt)
  unfolding event_in inside_in fault_in
  inside_end k q = inside_as (inside.End k) q (λ line. refl)

  pub inside_text : (t : TextView) → i ≡ inside.Text t → LineFault sheet w (event.Inside i) f (Ok tt)
  unfolding event_in inside_in fault_in
  inside_text t q = inside_as (inside.Text t) q (λ line. refl)

  module _ (c : ComponentEvent) (q : i ≡ inside.Component c) where
    -- in a block of the kind b
    block_as_lem : (b : Open) {r : Result (Unit {0}) Reason} → f.block ≡ b → ((line : List ℕ) → number_told r ≡ component_fault_in w sheet (component_event_in line c) b f) → LineFault sheet w (event.Inside i) f r
    unfolding event_in inside_in fault_in
    block_as_lem b e g = inside_as (inside.Component c) q (λ line. g line ∙ ap (λ (x : Open). component_fault_in w sheet (component_event_in line c) x f) (sym e))

    pub component_none : f.block ≡ block.Nothing → LineFault sheet w (event.Inside i) f (Ok tt)
    unfolding component_fault_in
    component_none e = block_as_lem block.Nothing e (λ line. refl)

    pub component_text : f.block ≡ block.Text → LineFault sheet w (event.Inside i) f (Ok tt)
    unfolding component_fault_in
    component_text e = block_as_lem block.Text e (λ line. refl)

    pub component_mode : f.block ≡ block.TextMode → LineFault sheet w (event.Inside i) f (Ok tt)
    unfolding component_fault_in
    component_mode e = block_as_lem block.TextMode e (λ line. refl)

    module _ (e : f.block ≡ block.Step) {a : Result (Unit {0}) Reason} (d : a ≡ define_answer (is_components (define_of f.define))) where
      pub component_listed : {m : Reason} → a ≡ Err m → LineFault sheet w (event.Inside i) f (Err m)
      unfolding component_fault_in
      component_listed t = block_as_lem block.Step e (λ line. listed_22 (is_components (define_of f.define)) _ (sym d ∙ t))

      pub component_step : {u : Unit {0}} → a ≡ Ok u → {r : Result (Unit {0}) Reason} → StepFault sheet w c f r → LineFault sheet w (event.Inside i) f r
      unfolding component_fault_in
      component_step t g = block_as_lem block.Step e (λ line. rw (not_listed (is_components (define_of f.define)) (sym d ∙ t)) (g.at line))

-- ---- every line

module _ (sheet w : List ℕ) (f : Follow) {e : EventView} where
  pub ready_inside : (i : Inside) → e ≡ event.Inside i → EventReady sheet w e f → InsideReady sheet w i f
  unfolding EventReady
  ready_inside i q z = subst (λ (x : EventView). EventReady sheet w x f) q z

  event_as_lem : (y : EventView) {r : Result (Unit {0}) Reason} → e ≡ y → LineFault sheet w y f r → LineFault sheet w e f r
  event_as_lem y {r} q g = subst (λ (x : EventView). LineFault sheet w x f r) (sym q) g

  pub event_between : (b : Between) → e ≡ event.Between b → LineFault sheet w e f (Ok tt)
  unfolding event_in fault_in
  event_between b q = event_as_lem (event.Between b) q (record { at = λ line. refl })

  pub event_inside : (i : Inside) {r : Result (Unit {0}) Reason} → e ≡ event.Inside i → LineFault sheet w (event.Inside i) f r → LineFault sheet w e f r
  event_inside i q g = event_as_lem (event.Inside i) q g

  pub event_finding : (s : Severity) (n : ℕ) → e ≡ event.Finding s n → LineFault sheet w e f (Ok tt)
  unfolding event_in fault_in
  event_finding s n q = event_as_lem (event.Finding s n) q (record { at = λ line. refl })
