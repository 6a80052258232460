-- The two lines as the rules have them.
use Prim.Native.Nat.{ℕ, ◌≤◌}
use mathlib.Core.Path.{◌≡◌, refl, ap, sym, ◌∙◌}
use mathlib.Core.Bool.{false}
use mathlib.Core.List.{List, []}
use Rattle.std.specs.Prelude.{Option, None, Some, Result, Ok, Err}
use Rattle.rules.specs.Event as rules
use Rattle.rules.specs.Units.{read_units, units_or}
use Rattle.rules.specs.Input.{input_of, Context, context_of, Agrees}
use Rattle.rules.specs.Model.{Kind, ingredient, cookware}
use Rattle.rules.specs.State.{State, Step, next}
use Rattle.rules.specs.Components.{Made, made_by_name, made_intermediate, make_ingredient, make_cookware, intermediate_fault, refers_to_reference}
use Rattle.rules.specs.Pass.{unless_fault, on_made, on_component}
use Rattle.rules.proofs.Agreed.{agreed}
use Rattle.rules.proofs.Chained.{by_name_sound}
use Rattle.components.specs.Views.{modifiers_in, component_in, opt_intermediate_in, intermediate_in}
use Rattle.components.specs.declared.ComponentView.{ComponentView}
use Rattle.components.specs.declared.Intermediate.{Intermediate}
use Rattle.events.specs.Views.{component_event_in}
use Rattle.events.specs.declared.ComponentEvent.TheVariants as event
use Rattle.model.specs.Blank.{blank_step}
use Rattle.model.specs.Memory.{state_in}
use Rattle.model.specs.declared.Held.{Held}
use Rattle.model.proofs.Writes.{writes_none}
use Rattle.blocks.specs.Lined.{step_in, SoundStep, FitStep}
use Rattle.refusals.specs.declared.Reason.{Reason}
use Rattle.refusals.specs.Told.{number_told}
use Rattle.intermediate.specs.Intermediates.{Faulted}
use Rattle.new_rows.proofs.Pushed.{made_next}
use Rattle.component_lines.specs.Lines.{Kept, ComponentDone}
use Rattle.component_lines.specs.Steps.{MadePushed, IntermediateDone, NamedDone, Roomy}
use Rattle.component_lines.proofs.Rooms.{limits_roomy}

pub kept_roomy : {sheet w : List ℕ} {h : Held} → Kept sheet w h → Roomy h × (h.counts.findings ≤ 1024)
kept_roomy {sheet} {w} {h} k = limits_roomy sheet w h k.limits

-- ---- nothing refers to a reference

by_name_to : (cx : Context) (k : Kind) (c : rules.Component) {sheet w : List ℕ} {h : Held} → Kept sheet w h → refers_to_reference (made_by_name cx.units cx.flags k c (state_in sheet w h)).refers_to ≡ false
by_name_to cx k c {sheet} {w} {h} z = (by_name_sound cx k c (state_in sheet w h) (z.definitions k)).to_is

intermediate_to : (cx : Context) (c : rules.Component) (i : rules.Intermediate) (st : State) → refers_to_reference (make_ingredient cx c (Some i) st).refers_to ≡ false
unfolding make_ingredient made_intermediate refers_to_reference
intermediate_to cx c i st = refl

-- so what is made is the rules' step
made_step : (k : Kind) (m : Made) {sheet w₀ w : List ℕ} {h₀ h : Held} → refers_to_reference m.refers_to ≡ false → MadePushed k m sheet w₀ h₀ w h
    → step_in sheet w (Ok h) ≡ blank_step (on_made k m [] (state_in sheet w₀ h₀))
unfolding step_in blank_step
made_step k m {sheet} {w₀} {h₀ = h₀} c q = rw (made_next k m [] (state_in sheet w₀ h₀) c) (ap next q.is)

-- what is made by name, in a context that agrees
named_pushed : {units : List ℕ} {flags : ℕ} {k : Kind} {sheet line : List ℕ} {v : ComponentView} {w₀ w : List ℕ} {h₀ h : Held} {cx : Context} → Agrees units flags cx
    → NamedDone (units_or (read_units units)) flags k sheet line v w₀ h₀ w h → MadePushed k (made_by_name cx.units cx.flags k (component_in line v) (state_in sheet w₀ h₀)) sheet w₀ h₀ w h
named_pushed {k = k} {sheet} {line} {v} {w₀} {w} {h₀} {h} a q =
    agreed (λ us flags. MadePushed k (made_by_name us flags k (component_in line v) (state_in sheet w₀ h₀)) sheet w₀ h₀ w h) a q.is

pub cookware_done : {units : List ℕ} {flags : ℕ} {sheet line : List ℕ} {v : ComponentView} {w₀ w : List ℕ} {h₀ h : Held} → Kept sheet w₀ h₀
    → NamedDone (units_or (read_units units)) flags cookware sheet line v w₀ h₀ w h → ComponentDone units flags sheet line (event.Cookware v) w₀ h₀ w (Ok h)
unfolding on_component make_cookware component_event_in SoundStep FitStep
cookware_done {line = line} {v} z q =
    record { at = λ cx a. made_step cookware _ (by_name_to cx cookware (component_in line v) z) (named_pushed a q); sound = q.is.sound; fit = q.is.fit; writes = q.is.writes }

-- ---- 15 and 16

fault_of_lem : (line : List ℕ) (v : ComponentView) {i : Option Intermediate} {r : Result (Unit {0}) Reason} → Faulted v.modifiers.reference i r → intermediate_fault (component_in line v) (opt_intermediate_in i) ≡ number_told r
unfolding component_in modifiers_in
fault_of_lem line v f = f.is (component_in line v) refl

module _ (units : List ℕ) (flags : ℕ) (sheet line : List ℕ) (v : ComponentView) (i : Option Intermediate) (w₀ : List ℕ) (h₀ : Held) where
  pub ingredient_refused : {r : Reason} → Faulted v.modifiers.reference i (Err r) → ComponentDone units flags sheet line (event.Ingredient v i) w₀ h₀ w₀ (Err r)
  unfolding on_component component_event_in unless_fault step_in blank_step SoundStep FitStep
  ingredient_refused f = record { at = λ cx a. rw (fault_of_lem line v f); sound = tt; fit = tt; writes = writes_none }

  module _ {u : Unit {0}} (f : Faulted v.modifiers.reference i (Ok u)) where
    goes_on : (s : Step) → unless_fault (intermediate_fault (component_in line v) (opt_intermediate_in i)) s ≡ s
    unfolding unless_fault
    goes_on s = rw (fault_of_lem line v f)

    module _ {w : List ℕ} {h : Held} where
      ingredient_made : (cx : Context) → refers_to_reference (make_ingredient cx (component_in line v) (opt_intermediate_in i) (state_in sheet w₀ h₀)).refers_to ≡ false
          → MadePushed ingredient (make_ingredient cx (component_in line v) (opt_intermediate_in i) (state_in sheet w₀ h₀)) sheet w₀ h₀ w h
          → step_in sheet w (Ok h) ≡ blank_step (on_component cx (component_event_in line (event.Ingredient v i)) [] (state_in sheet w₀ h₀))
      unfolding on_component component_event_in
      ingredient_made cx c q = made_step ingredient _ c q ∙ ap blank_step (sym (goes_on _))

      pub ingredient_named : i ≡ None → Kept sheet w₀ h₀ → NamedDone (units_or (read_units units)) flags ingredient sheet line v w₀ h₀ w h → ComponentDone units flags sheet line (event.Ingredient v i) w₀ h₀ w (Ok h)
      unfolding make_ingredient opt_intermediate_in SoundStep FitStep
      ingredient_named t z q =
          record {
            at = λ cx a. ingredient_made cx (rw t (by_name_to cx ingredient (component_in line v) z)) (rw t (named_pushed a q));
            sound = q.is.sound;
            fit = q.is.fit;
            writes = q.is.writes;
          }

      pub ingredient_intermediate : (x : Intermediate) → i ≡ Some x → IntermediateDone sheet line v x w₀ h₀ w h → ComponentDone units flags sheet line (event.Ingredient v i) w₀ h₀ w (Ok h)
      unfolding opt_intermediate_in SoundStep FitStep
      ingredient_intermediate x t q =
          let p = q.is (context_of (input_of [] [] units flags)) in
          record {
            at = λ cx a. ingredient_made cx (rw t (intermediate_to cx (component_in line v) (intermediate_in x) (state_in sheet w₀ h₀))) (rw t (q.is cx));
            sound = p.sound;
            fit = p.fit;
            writes = p.writes;
          }
