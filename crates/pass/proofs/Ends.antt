-- The end of the pass.
use Prim.Native.Nat.{ℕ}
use mathlib.Core.Path.{◌≡◌, refl, sym, ap, ◌∙◌}
use mathlib.Core.List.{List}
use mathlib.Core.Bool.{Bool, true, false}
use Rattle.std.specs.Prelude.{None, Some, Result, Ok, Err}
use Rattle.rules.specs.Basic.{pick, on_some}
use Rattle.rules.specs.State.{State, over_limits, going, Outcome, recipe, no_recipe, refusal}
use Rattle.rules.specs.Pass.{is_open, ended, unless_over, finish}
use Rattle.rules.proofs.Basics.{no_some, some_inj}
use Rattle.refusals.specs.Told.{number_told}
use Rattle.refusals.specs.declared.Reason.{Reason}
use Rattle.model.specs.Blank.{blank, blank_walk, refusal_of}
use Rattle.model.specs.Memory.{state_in}
use Rattle.model.specs.declared.Held.{Held}
use Rattle.model.proofs.Ends.{refusal_blank}
use Rattle.memory.specs.Pushes.{EndChecked}
use Rattle.pass.specs.Walks.{EndedAs, Finished}

outcome_refused : (o : Outcome) {n l : ℕ} → refusal_of o ≡ Some (n, l) → o ≡ refusal n l
unfolding refusal_of
outcome_refused (recipe st) e = no_some e
outcome_refused (no_recipe fs) e = no_some e
outcome_refused (refusal m k) e =
    let p = some_inj e in
    let a = ap (λ (x : ℕ × ℕ). x.0) p in
    let b = ap (λ (x : ℕ × ℕ). x.1) p in
    rw (a, b)

outcome_recipe : (st : State) → refusal_of (finish (going st)) ≡ None → finish (going st) ≡ recipe (ended st)
unfolding finish unless_over refusal_of
outcome_recipe st = go (is_open st.place.block) (over_limits (ended st))
  where
    go : (a b : Bool) → refusal_of (pick a (refusal 19 0) (pick b (refusal 17 0) (recipe (ended st)))) ≡ None → pick a (refusal 19 0) (pick b (refusal 17 0) (recipe (ended st))) ≡ recipe (ended st)
    go true b e = no_some (sym e)
    go false true e = no_some (sym e)
    go false false e = refl

module _ {h : Held} {r : Result (Unit {0}) Reason} (p : EndChecked h r) where
  at_end_lem : (sheet w : List ℕ) (st : State) → state_in sheet w h ≡ blank st → refusal_of (finish (going st)) ≡ on_some (λ (n : ℕ). (n, 0)) (number_told r)
  unfolding blank_walk
  at_end_lem sheet w st e = refusal_blank (going st) ∙ ap (λ (x : State). refusal_of (finish (going x))) (sym e) ∙ p.is sheet w

  pub end_recipe : r ≡ Ok tt → Finished h (Ok (Some h))
  unfolding EndedAs on_some
  end_recipe q = record { is = (refl, λ sheet w st e. outcome_recipe st (at_end_lem sheet w st e ∙ rw q)) }

  pub end_refused : (k : Reason) → r ≡ Err k → Finished h (Err (record { reason = k; line = 0 }))
  unfolding EndedAs on_some
  end_refused k q = record { is = λ sheet w st e. outcome_refused _ (at_end_lem sheet w st e ∙ rw q) }
