-- One line of the walk: the limits after it, and what holds before the next.
use Prim.Native.Nat.{ℕ, suc, ◌+◌}
use mathlib.Core.Path.{◌≡◌, refl, sym, ap, ◌∙◌, subst}
use mathlib.Core.List.{List, []}
use mathlib.Core.Bool.{Bool, true, false}
use Rattle.std.specs.Prelude.{None, Some, Result, Ok, Err, is_err}
use native.Mathlib.Omega.{arith}
use Rattle.rules.specs.Basic.{pick}
use Rattle.rules.specs.Input.{input_of, Context, context_of, Agrees}
use Rattle.rules.specs.State.{State, over_limits, Step, next, stop, going, refused}
use Rattle.rules.specs.Pass.{settle, on_event, step}
use Rattle.rules.proofs.Agreed.{own_context}
use Rattle.rules.proofs.Chained as chained
use Rattle.rules.proofs.Basics.{no_truth}
use Rattle.refusals.specs.Told.{number_of}
use Rattle.refusals.specs.declared.Reason.{Reason}
use Rattle.events.specs.Views.{event_in}
use Rattle.events.specs.declared.EventView.{EventView}
use Rattle.model.specs.Blank.{blank, blank_tables, blank_step, blank_walk}
use Rattle.model.specs.Memory.{state_in, Sound}
use Rattle.model.specs.Fits.{AllFit}
use Rattle.model.specs.declared.Held.{Held}
use Rattle.model.specs.Writes.{Writes}
use Rattle.model.proofs.Blanks.{over_blank}
use Rattle.model.proofs.Writes.{writes_none}
use Rattle.memory.specs.Pushes.{LimitsChecked}
use Rattle.memory.proofs.Endings.{limits_kept, limits_over}
use Rattle.blocks.specs.Lined.{step_in, SoundStep, FitStep}
use Rattle.pass.specs.Walks.{EventHere, Counted, Running, EventDone, ErrorView, WalkedAs, StepDone}
use Rattle.pass.proofs.Counts.{CountedStep, event_counted, counted_blank, counted_more}

no_step : {P : Type 0} {st : State} {n : ℕ} → next st ≡ stop n → P
no_step e = absurd (let z : ◌≡◌ {A = ℕ} 0 1 = cc in omega arith)

next_inj : {a b : State} → next a ≡ next b → a ≡ b
next_inj e = cc

stop_inj : {a b : ℕ} → stop a ≡ stop b → a ≡ b
stop_inj e = cc

-- a step that is refused
settle_stop : (line : ℕ) (s : Step) (n : ℕ) → stop n ≡ blank_step s → blank_walk (settle line s) ≡ refused n line
unfolding blank_step settle blank_walk
settle_stop line (stop m) n e = ap (λ (x : ℕ). refused x line) (sym (stop_inj e))
settle_stop line (next st) n e = no_step (sym e)

-- a step that is not
settle_next : (line : ℕ) (s : Step) (x : State) → next x ≡ blank_step s → (b : Bool) → b ≡ over_limits x → blank_walk (settle line s) ≡ pick b (refused 17 line) (going x)
unfolding blank_step settle blank_walk
settle_next line (stop m) x e b o = no_step e
settle_next line (next st) x e b o =
    let q : x ≡ blank st = next_inj e in
    let p : over_limits st ≡ b = sym (over_blank st) ∙ ap over_limits (sym q) ∙ sym o in
    rw p (go b q)
  where
    go : (t : Bool) → x ≡ blank st → blank_walk (pick t (refused 17 line) (going st)) ≡ pick t (refused 17 line) (going x)
    go true q = refl
    go false q = ap going (sym q)

-- what holds of the state after a step
pub sound_blank : (st : State) → chained.SoundState st → chained.SoundState (blank st)
unfolding blank blank_tables
sound_blank st s = s

after_sound : (s : Step) (x : State) → next x ≡ blank_step s → chained.SoundStep s → chained.SoundState x
unfolding blank_step
after_sound (stop m) x e p = no_step e
after_sound (next st) x e p = subst chained.SoundState (sym (next_inj e)) (sound_blank st p)

after_counted : (n : ℕ) (s : Step) (x : State) → next x ≡ blank_step s → CountedStep n s → Counted n x
unfolding blank_step
after_counted n (stop m) x e p = no_step e
after_counted n (next st) x e p = subst (Counted n) (sym (next_inj e)) (counted_blank st p)

pub step_failed : {units : List ℕ} {flags : ℕ} {sheet line w : List ℕ} {v : EventView} {h : Held} {end : ℕ} {o : Bool} → ErrorView v o → o ≡ true → StepDone units flags sheet line end v w h w (Ok None)
unfolding WalkedAs
step_failed {line = line} p t = record { is = sym (p.is line) ∙ t; writes = writes_none }

module _ {units : List ℕ} {flags : ℕ} {sheet line w₀ w : List ℕ} {v : EventView} {h₀ : Held} where
  module _ {o : Bool} (p : ErrorView v o) (f : o ≡ false) {r : Result Held Reason} (d : EventDone units flags sheet line v w₀ h₀ w r) where
    -- in any context
    written : Writes w₀ w (is_err r)
    written = (d.at (context_of (input_of [] [] units flags)) (own_context (input_of [] [] units flags)).rest).writes

    settled : (cx : Context) (number : ℕ) → blank_walk (step cx number (event_in line v) (going (state_in sheet w₀ h₀))) ≡ blank_walk (settle number (on_event cx (event_in line v) (state_in sheet w₀ h₀)))
    unfolding step
    settled cx number = rw (sym (p.is line) ∙ f)

    pub step_stopped : {end : ℕ} (m : Reason) → r ≡ Err m → StepDone units flags sheet line end v w₀ h₀ w (Err m)
    unfolding WalkedAs step_in
    step_stopped m e =
        record {
          is = λ cx x number. settled cx number ∙ settle_stop number _ (number_of m) (rw e at (d.at cx x).is);
          writes = record { past = written.past; stopped = λ q. written.stopped (ap is_err e) };
        }

    module _ (k : Held) (e : r ≡ Ok k) {a : Result (Unit {0}) Reason} (l : LimitsChecked k a) where
      after : (cx : Context) → Agrees units flags cx → next (state_in sheet w k) ≡ blank_step (on_event cx (event_in line v) (state_in sheet w₀ h₀))
      unfolding step_in
      after cx x = rw e at (d.at cx x).is

      settled_as : (b : Bool) → over_limits (state_in sheet w k) ≡ b → (cx : Context) → Agrees units flags cx → (number : ℕ) → blank_walk (step cx number (event_in line v) (going (state_in sheet w₀ h₀))) ≡ pick b (refused 17 number) (going (state_in sheet w k))
      settled_as b o cx x number = settled cx number ∙ settle_next number _ (state_in sheet w k) (after cx x) b (sym o)

      -- 17
      pub step_over : {end : ℕ} (m : Reason) → a ≡ Err m → StepDone units flags sheet line end v w₀ h₀ w (Err m)
      unfolding WalkedAs
      step_over m t =
          let o = limits_over l t sheet w in
          record {
            is = λ cx x number. settled_as true o.0 cx x number ∙ ap (λ (y : Reason). refused (number_of y) number) (sym o.1);
            writes = rw o.1 (record { past = written.past; stopped = λ q. no_truth q });
          }

      sound_after : SoundStep w r → Sound w k
      unfolding SoundStep
      sound_after s = rw e at s

      fit_after : FitStep sheet w r → AllFit sheet w k
      unfolding FitStep
      fit_after s = rw e at s

      running_after : {at end : ℕ} → over_limits (state_in sheet w k) ≡ false → EventHere sheet line at end v → Running sheet w₀ h₀ at → Running sheet w k (end + 1)
      running_after {at} t z g =
          let cx = context_of (input_of [] [] units flags) in
          let x = (own_context (input_of [] [] units flags)).rest in
          let s = after_sound _ (state_in sheet w k) (after cx x) (chained.event_sound cx (event_in line v) (state_in sheet w₀ h₀) (chained.state_sound _ g.kept.definitions)) in
          let c = after_counted (suc at) _ (state_in sheet w k) (after cx x) (event_counted cx (event_in line v) (state_in sheet w₀ h₀) g.counted) in
          record {
            kept = record { sound = sound_after (d.at cx x).sound; fit = fit_after (d.at cx x).fit; definitions = λ j. chained.table_sound j (state_in sheet w k) s; limits = t };
            counted = counted_more (state_in sheet w k) (omega (arith, z.here.whole.order)) c;
          }

      pub step_going : {at end : ℕ} {u : Unit {0}} → a ≡ Ok u → EventHere sheet line at end v → Running sheet w₀ h₀ at → StepDone units flags sheet line end v w₀ h₀ w (Ok (Some k))
      unfolding WalkedAs
      step_going t z g =
          let o = limits_kept l t sheet w in
          record { is = record { is = settled_as false o; running = running_after o z g }; writes = rw e at written }
