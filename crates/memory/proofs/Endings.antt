-- The end of the pass, by the small state alone.
use Prim.Native.Nat.{ℕ, zero, suc, ◌+◌}
use mathlib.Core.Path.{◌≡◌, refl, sym, ap, ◌∙◌}
use mathlib.Core.List.{List, [], ◌∷◌}
use mathlib.Core.Bool.{Bool, true, false}
use Rattle.std.specs.Prelude.{Option, None, Some, Result, Ok, Err}
use native.Mathlib.Omega.{arith}
use lib.ListN.{length, replicate}
use Rattle.rules.specs.Basic.{pick, is_some, on_some}
use Rattle.rules.specs.Finding.{Finding}
use Rattle.rules.specs.State.{State, set_place, set_kept, report, over_limits, going, recipe, refusal}
use Rattle.rules.specs.Metadata.{old_metadata}
use Rattle.rules.specs.Event.{Span}
use Rattle.rules.specs.Pass.{is_open, is_empty_section, close_section, on_section, ended, unless_over, finish}
use Rattle.refusals.specs.Told.{number_told}
use Rattle.refusals.specs.declared.Reason.{Reason}
use Rattle.refusals.specs.declared.Reason.TheVariants.{OpenAtEnd, OverLimits as over}
use Rattle.model.specs.Blank.{blank_span, blank, refusal_of}
use Rattle.model.specs.Memory.{windows_of, open_of, state_of, state_in}
use Rattle.model.specs.Small.{with_findings}
use Rattle.model.specs.declared.Open.{Open}
use Rattle.model.specs.declared.Open.TheVariants.{Nothing, Step, Text as TextBlock, TextMode}
use Rattle.model.specs.declared.Held.{Held}
use Rattle.model.proofs.Tables.{findings_length}
use Rattle.model.proofs.Ends.{over_report_blank}
use Rattle.memory.specs.Pushes.{SectionBegun, OverLimits, limits_answer, LimitsChecked, EndChecked, is_open_block}
use Rattle.memory.proofs.Smalls.{state_blank}

pub open_as : (b : Open) → is_open (open_of b) ≡ is_open_block b
unfolding is_open open_of
open_as Nothing = refl
open_as Step = refl
open_as TextBlock = refl
open_as TextMode = refl

block_is : (sheet w : List ℕ) (h : Held) → (state_in sheet w h).place.block ≡ open_of h.block
unfolding state_in state_of
block_is sheet w h = refl

old_is : (sheet w : List ℕ) (h : Held) → (state_in sheet w h).metadata.old ≡ replicate h.counts.old blank_span
unfolding state_in state_of
old_is sheet w h = refl

-- 19
pub end_open : (h : Held) (b : Bool) → b ≡ is_open_block h.block → b ≡ true → EndChecked h (Err OpenAtEnd)
unfolding finish refusal_of on_some
end_open h b e t = record { is = λ sheet w. rw (block_is sheet w h, open_as h.block, sym e ∙ t) }

refusal_some : (n l : ℕ) → refusal_of (refusal n l) ≡ Some (n, l)
unfolding refusal_of
refusal_some n l = refl

refusal_none : (st : State) → refusal_of (recipe st) ≡ None
unfolding refusal_of
refusal_none st = refl

finish_closed : (st : State) → is_open st.place.block ≡ false → refusal_of (finish (going st)) ≡ refusal_of (unless_over (ended st))
unfolding finish
finish_closed st e = rw e

unless_by : (st : State) (t : Bool) → over_limits st ≡ t → refusal_of (unless_over st) ≡ pick t (Some (17, 0)) None
unfolding unless_over
unless_by st t e = rw e (go t)
  where
    go : (b : Bool) → refusal_of (pick b (refusal 17 0) (recipe st)) ≡ pick b (Some (17, 0)) None
    go true = refusal_some 17 0
    go false = refusal_none st

-- 17 or nothing
end_by : (sheet w : List ℕ) (h : Held) → is_open_block h.block ≡ false → (t : Bool) → over_limits (ended (state_in sheet w h)) ≡ t
    → refusal_of (finish (going (state_in sheet w h))) ≡ pick t (Some (17, 0)) None
end_by sheet w h c t e =
    finish_closed (state_in sheet w h) (ap is_open (block_is sheet w h) ∙ open_as h.block ∙ c) ∙ unless_by (ended (state_in sheet w h)) t e

-- where the current section lies does not count
over_place : (fs : List Finding) (st : State) → over_limits (report fs (on_section None st)) ≡ over_limits (report fs (close_section st))
unfolding on_section set_place over_limits report
over_place fs st = refl

over_none : (st : State) → over_limits (report [] st) ≡ over_limits st
unfolding over_limits report
over_none st = refl

findings_are : (sheet w : List ℕ) (h : Held) → length (state_in sheet w h).findings ≡ h.counts.findings
unfolding state_in state_of
findings_are sheet w h = findings_length (windows_of w).findings h.counts.findings

findings_kept : (st : State) → (blank (on_section None st)).findings ≡ st.findings
unfolding blank on_section set_place close_section set_kept
findings_kept st = go (is_empty_section st.place.section)
  where
    go : (b : Bool) → (pick b st (set_kept (record { sections = st.place.section ∷ st.kept.sections; blocks = st.kept.blocks; items = st.kept.items }) st)).findings ≡ st.findings
    go true = refl
    go false = refl

-- one finding more, by the count
over_one : (sheet w : List ℕ) (x : Finding) (g : Held) → over_limits (report (x ∷ []) (state_in sheet w g)) ≡ over_limits (state_in sheet w (with_findings (suc g.counts.findings) g))
unfolding over_limits report state_in state_of
over_one sheet w x g = simp (findings_length)

module _ {h g : Held} (s : SectionBegun h false g) where
  ended_over : (sheet w : List ℕ) → over_limits (ended (state_in sheet w h)) ≡ over_limits (report (old_metadata (replicate h.counts.old blank_span)) (state_in sheet w g))
  unfolding ended is_some
  ended_over sheet w =
      ap (λ (l : List Span). over_limits (report (old_metadata l) (close_section (state_in sheet w h)))) (old_is sheet w h)
      ∙ sym (over_place (old_metadata (replicate h.counts.old blank_span)) (state_in sheet w h))
      ∙ over_report_blank (old_metadata (replicate h.counts.old blank_span)) (on_section None (state_in sheet w h)) (state_in sheet w g) (sym (s.is sheet w None refl) ∙ sym (state_blank sheet w g))

  same_findings : g.counts.findings ≡ h.counts.findings
  unfolding is_some
  same_findings =
      sym (findings_are [] [] g) ∙ ap (λ (st : State). length st.findings) (s.is [] [] None refl) ∙ ap length (findings_kept (state_in [] [] h)) ∙ findings_are [] [] h

  over_old_none : h.counts.old ≡ 0 → (sheet w : List ℕ) → over_limits (ended (state_in sheet w h)) ≡ over_limits (state_in sheet w g)
  unfolding old_metadata
  over_old_none q sheet w = ended_over sheet w ∙ rw q (over_none (state_in sheet w g))

  over_old_some : (h.counts.old ≡ 0 → ⊥) → (sheet w : List ℕ) → over_limits (ended (state_in sheet w h)) ≡ over_limits (state_in sheet w (with_findings (h.counts.findings + 1) g))
  unfolding old_metadata
  over_old_some q sheet w = ended_over sheet w ∙ go h.counts.old q
    where
      go : (n : ℕ) → (n ≡ 0 → ⊥) → over_limits (report (old_metadata (replicate n blank_span)) (state_in sheet w g)) ≡ over_limits (state_in sheet w (with_findings (h.counts.findings + 1) g))
      go zero q₁ = absurd (q₁ refl)
      go (suc n) q₁ =
          let e : h.counts.findings + 1 ≡ suc g.counts.findings = omega (arith, same_findings) in
          rw e (over_one sheet w _ g)

-- 17 after a line
pub limits_by : (h : Held) (r t : Bool) → OverLimits h r → r ≡ t → LimitsChecked h (limits_answer t)
limits_by h r t o e = record { is = λ sheet w. rw (sym (o.is sheet w) ∙ e) refl }

module _ {h : Held} {r : Result (Unit {0}) Reason} (o : LimitsChecked h r) where
  limits_pick : (b : Bool) {u : Unit {0}} → limits_answer b ≡ Ok u → b ≡ false
  limits_pick true e = cc
  limits_pick false e = refl

  pub limits_kept : {u : Unit {0}} → r ≡ Ok u → (sheet w : List ℕ) → over_limits (state_in sheet w h) ≡ false
  limits_kept e sheet w = limits_pick (over_limits (state_in sheet w h)) (sym (o.is sheet w) ∙ e)

  over_pick : (b : Bool) {x : Reason} → limits_answer b ≡ Err x → (b ≡ true) × (x ≡ over)
  over_pick true e = (refl, cc)
  over_pick false e = cc

  pub limits_over : {x : Reason} → r ≡ Err x → (sheet w : List ℕ) → (over_limits (state_in sheet w h) ≡ true) × (x ≡ over)
  limits_over e sheet w = over_pick (over_limits (state_in sheet w h)) (sym (o.is sheet w) ∙ e)

module _ {h g : Held} (b : Bool) (c : b ≡ is_open_block h.block) (d : b ≡ false) (s : SectionBegun h false g) where
  end_with : (r : Result (Unit {0}) Reason) → ((sheet w : List ℕ) → r ≡ limits_answer (over_limits (ended (state_in sheet w h)))) → EndChecked h r
  unfolding on_some
  end_with r e = record { is = λ sheet w. end_by sheet w h (sym c ∙ d) (over_limits (ended (state_in sheet w h))) refl ∙ rw (e sheet w) (go (over_limits (ended (state_in sheet w h)))) }
    where
      go : (t : Bool) → pick {X = Option (ℕ × ℕ)} t (Some (17, 0)) None ≡ on_some (λ (n : ℕ). (n, 0)) (number_told (limits_answer t))
      go true = refl
      go false = refl

  pub end_none : (r : Result (Unit {0}) Reason) → h.counts.old ≡ 0 → LimitsChecked g r → EndChecked h r
  end_none r q o = end_with r (λ sheet w. rw (over_old_none s q sheet w) (o.is sheet w))

  pub end_some : (r : Result (Unit {0}) Reason) → (h.counts.old ≡ 0 → ⊥) → LimitsChecked (with_findings (h.counts.findings + 1) g) r → EndChecked h r
  end_some r q o = end_with r (λ sheet w. rw (over_old_some s q sheet w) (o.is sheet w))
