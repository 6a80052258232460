-- One law for each way through.
use Rattle.std.specs.Prelude.{None, Option, Some, Ok, Err, eqb}
use Rattle.std.specs.Option as option
use Rattle.std.proofs.Common.{true≢false}
use Prim.Native.Nat.{ℕ}
use mathlib.Core.Path.{◌≡◌, refl, sym, ◌∙◌}
use mathlib.Core.Bool.{Bool, true, false, not, ◌||◌}
use mathlib.Core.List.{List}
use borrow.Author.Tests.{eq-eqb, ne_eqb}
use Rattle.rules.specs.Basic.{pick, when}
use Rattle.rules.specs.Event as rules
use Rattle.rules.specs.Finding.{found}
use Rattle.rules.specs.Model.{Entry}
use Rattle.rules.specs.Checks.{section_indices, candidates, resolve_intermediate_ref, intermediate_modifiers, intermediate_findings, intermediate_target, intermediate_relation}
use Rattle.rules.specs.Components.{intermediate_fault, lock_findings, made_intermediate}
use Rattle.refusals.specs.declared.Reason.TheVariants.{NotMarked, Negative}
use Rattle.parts.specs.Views.{span_in}
use Rattle.parts.specs.declared.Span.{Span}
use Rattle.components.specs.Views.{modifiers_in, signed_in, target_in, intermediate_in, opt_intermediate_in}
use Rattle.components.specs.declared.Modifiers.{Modifiers}
use Rattle.components.specs.declared.Target.TheVariants as target
use Rattle.components.specs.declared.Intermediate.{Intermediate}
use Rattle.model.specs.Searches.{TargetFound}
use Rattle.model.specs.Rows.{relation_in, relation_as, finding_of, if_found}
use Rattle.model.specs.declared.Target.TheVariants as model
use Rattle.model.specs.declared.Relation.TheVariants.{Definition, Reference}
use Rattle.model.specs.declared.Noted.{Noted}
use Rattle.model.specs.declared.Held.{Held}
use Rattle.model.proofs.Windows.{sections_count}
use Rattle.memory.specs.Reading.{StepTarget}
use Rattle.memory.specs.Reports.{Reported}
use Rattle.memory.proofs.Reports.{reported_seq, reported_as}
use Rattle.checks.proofs.Laws.{nothing_found, one_found}
use Rattle.intermediate.specs.Intermediates.{Faulted, ModifiersReported, Resolved, Related}

-- ---- 15 and 16

module _ {ref : Bool} {i : Option Intermediate} where
  pub fault_absent : i ≡ None → Faulted ref i (Ok tt)
  unfolding intermediate_fault opt_intermediate_in
  fault_absent e = record { is = λ c er. rw e }

  module _ (v : Intermediate) (e : i ≡ Some v) where
    pub fault_ref : not ref ≡ true → Faulted ref i (Err NotMarked)
    unfolding intermediate_fault opt_intermediate_in
    fault_ref t = record { is = λ c er. rw (e, er, t) }

    pub fault_negative : not ref ≡ false → v.value.negative ≡ true → Faulted ref i (Err Negative)
    unfolding intermediate_fault opt_intermediate_in intermediate_in signed_in
    fault_negative t n = record { is = λ c er. rw (e, er, t, n) }

    pub fault_none : not ref ≡ false → v.value.negative ≡ false → Faulted ref i (Ok tt)
    unfolding intermediate_fault opt_intermediate_in intermediate_in signed_in
    fault_none t n = record { is = λ c er. rw (e, er, t, n) }

-- ---- 7

module _ {m : Modifiers} {at : Span} where
  pub modifiers_found : {x : Noted} → (m.recipe || m.hidden || m.new) ≡ true → finding_of x ≡ found 7 (span_in at) → ModifiersReported m at (Some x)
  unfolding intermediate_modifiers modifiers_in when
  modifiers_found t k = record { is = λ c em ea. one_found _ k (rw (em, t, ea)) }

  pub modifiers_none : (m.recipe || m.hidden || m.new) ≡ false → ModifiersReported m at None
  unfolding intermediate_modifiers modifiers_in when
  modifiers_none t = record { is = λ c em ea. nothing_found (rw (em, t)) }

-- ---- the target

module _ (i : Intermediate) {w : List ℕ} {h : Held} {r : Option ℕ} where
  pub to_step : i.target ≡ target.Step → StepTarget i.relative i.value.size w h r → Resolved i w h r
  unfolding resolve_intermediate_ref candidates intermediate_in signed_in target_in
  to_step e t = record { is = λ sheet. (t.is sheet).is ∙ rw e }

  pub to_section : i.target ≡ target.Section → TargetFound i.relative i.value.size (section_indices h.counts.sections) r → Resolved i w h r
  unfolding resolve_intermediate_ref candidates intermediate_in signed_in target_in
  to_section e t = record { is = λ sheet. t.is ∙ rw (e, sections_count sheet w h) }

-- ---- 8 and 9

module _ (i : Intermediate) where
  pub findings_none : (f : Option ℕ) {b : Bool} → b ≡ option.is_some f → b ≡ true → if_found None ≡ intermediate_findings (intermediate_in i) f
  unfolding intermediate_findings
  findings_none None e t = absurd (true≢false (sym t ∙ e))
  findings_none (Some j) e t = nothing_found refl

  pub findings_one : (f : Option ℕ) (x : Noted) {b : Bool} {n : ℕ} → b ≡ option.is_some f → b ≡ false → n ≡ pick (eqb i.value.size 0) 8 9 → finding_of x ≡ found n (span_in i.span) → if_found (Some x) ≡ intermediate_findings (intermediate_in i) f
  unfolding intermediate_findings intermediate_in signed_in
  findings_one None x e t c k = one_found _ k (rw c)
  findings_one (Some j) x e t c k = absurd (true≢false (sym e ∙ t))

module _ {n z : ℕ} where
  pub code_zero : z ≡ 0 → n ≡ 8 → n ≡ pick (eqb z 0) 8 9
  code_zero l e = rw (eq-eqb _ _ l, e)

  pub code_bounds : (z ≡ 0 → ⊥) → n ≡ 9 → n ≡ pick (eqb z 0) 8 9
  code_bounds l e = rw (ne_eqb _ _ l, e)

-- ---- the relation

module _ (i : Intermediate) (in_step : Bool) {f : Option ℕ} where
  pub related_none : f ≡ None → Related i in_step f (record { relation = Definition; in_step = in_step; index = 0 })
  unfolding relation_in relation_as intermediate_relation
  related_none e = record { is = rw e }

  pub related_step : {j : ℕ} → f ≡ Some j → i.target ≡ target.Step → Related i in_step f (record { relation = Reference model.Step; in_step = in_step; index = j })
  unfolding relation_in relation_as intermediate_relation intermediate_target intermediate_in target_in
  related_step e t = record { is = rw (e, t) }

  pub related_section : {j : ℕ} → f ≡ Some j → i.target ≡ target.Section → Related i in_step f (record { relation = Reference model.Section; in_step = in_step; index = j })
  unfolding relation_in relation_as intermediate_relation intermediate_target intermediate_in target_in
  related_section e t = record { is = rw (e, t) }

-- ---- 6, then 7, then 8 or 9: all that is found

pub intermediate_reported : (c : rules.Component) (new : Entry) (i : Intermediate) (f : Option ℕ) {m : Modifiers} {at : Span} {x : Option Noted} {w₀ w₁ w₂ w : List ℕ} {h₀ h₁ h₂ h : Held}
    → c.modifiers ≡ modifiers_in m → c.modifiers_span ≡ span_in at → Reported (lock_findings c.quantity) w₀ h₀ w₁ h₁ → ModifiersReported m at x → Reported (if_found x) w₁ h₁ w₂ h₂
    → Reported (intermediate_findings (intermediate_in i) f) w₂ h₂ w h → Reported (made_intermediate c new (intermediate_in i) f).findings w₀ h₀ w h
unfolding made_intermediate
intermediate_reported c new i f em ea l k p r = reported_seq (reported_seq l (reported_as p (k.is c em ea))) r
