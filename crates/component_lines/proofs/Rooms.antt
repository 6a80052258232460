-- What one line can draw, and that there is room for it.
use Prim.Native.Nat.{ℕ, ◌+◌, ◌≤◌}
use mathlib.Core.Path.{◌≡◌, refl}
use mathlib.Core.Bool.{Bool, true, false, ◌||◌}
use mathlib.Core.List.{List, [], ◌∷◌, ◌++◌}
use Rattle.std.specs.Prelude.{Option, None, Some}
use native.Mathlib.Omega.{arith}
use borrow.Author.Tests.{ltb-false}
use lib.Dec.{ltb}
use lib.ListN.{length, length-append}
use Rattle.rules.specs.Basic.{when}
use Rattle.rules.specs.Event as rules
use Rattle.rules.specs.Finding.{Finding}
use Rattle.rules.specs.Model.{Entry}
use Rattle.rules.specs.Modes.{Modes}
use Rattle.rules.specs.Reference.{Earlier, is_explicit, treat_as_reference, redundant_new, redundant_ref, conflict_or_missing, reference_findings}
use Rattle.rules.specs.State.{over_limits}
use Rattle.rules.proofs.Basics.{pick_either, or_left, or_right}
use Rattle.model.specs.Memory.{state_in, state_of}
use Rattle.model.specs.declared.Held.{Held}
use Rattle.model.proofs.Tables.{findings_length}
use Rattle.memory.specs.Reports.{Reported}
use Rattle.memory.proofs.Reports.{reported_count}
use Rattle.memory.specs.Frames.{Framed}
use Rattle.blocks.proofs.Fitting.{ingredients_count, cookware_count}
use Rattle.component_lines.specs.Steps.{Roomy}

-- ---- the counts before a line

or_eight : (a b c d e f g h : Bool) → (a || b || c || d || e || f || g || h) ≡ false → (a ≡ false) × (b ≡ false) × (f ≡ false) × (h ≡ false)
or_eight a b c d e f g h q =
    let q7 = or_left (a || b || c || d || e || f || g) h q in
    let q6 = or_left (a || b || c || d || e || f) g q7 in
    let q5 = or_left (a || b || c || d || e) f q6 in
    let q2 = or_left (a || b) c (or_left (a || b || c) d (or_left (a || b || c || d) e q5)) in
    (or_left a b q2, or_right a b q2, or_right (a || b || c || d || e) f q6, or_right (a || b || c || d || e || f || g) h q)

over_counts : (a b c d e f g h : ℕ) → (ltb 512 a || ltb 256 b || ltb 256 c || ltb 128 d || ltb 1024 e || ltb 4096 f || ltb 512 g || ltb 1024 h) ≡ false
    → (a ≤ 512) × (b ≤ 256) × (f ≤ 4096) × (h ≤ 1024)
over_counts a b c d e f g h q =
    let z = or_eight (ltb 512 a) (ltb 256 b) (ltb 256 c) (ltb 128 d) (ltb 1024 e) (ltb 4096 f) (ltb 512 g) (ltb 1024 h) q in
    (ltb-false 512 a z.0, ltb-false 256 b z.1, ltb-false 4096 f z.2, ltb-false 1024 h z.3)

findings_count : (sheet w : List ℕ) (h : Held) → length (state_in sheet w h).findings ≡ h.counts.findings
unfolding state_in state_of
findings_count sheet w h = findings_length _ h.counts.findings

items_count : (sheet w : List ℕ) (h : Held) → (state_in sheet w h).kept.items ≡ h.counts.items
unfolding state_in state_of
items_count sheet w h = refl

pub limits_roomy : (sheet w : List ℕ) (h : Held) → over_limits (state_in sheet w h) ≡ false → Roomy h × (h.counts.findings ≤ 1024)
unfolding over_limits
limits_roomy sheet w h e =
    let st = state_in sheet w h in
    let z = over_counts (length st.tables.ingredients) (length st.tables.cookware) (length st.tables.timers) (length st.kept.sections) st.kept.blocks st.kept.items (length st.tables.inline) (length st.findings) e in (
      record {
        ingredients = rw (ingredients_count sheet w h) at z.0;
        cookware = rw (cookware_count sheet w h) at z.1;
        items = rw (items_count sheet w h) at z.2;
      },
      rw (findings_count sheet w h) at z.3,
    )

-- findings leave them
pub roomy_kept : {w w₁ : List ℕ} {h h₁ : Held} → Framed w h w₁ h₁ → Roomy h → Roomy h₁
roomy_kept a r = rw a.held (record { ingredients = r.ingredients; cookware = r.cookware; items = r.items })

-- ---- what is found

pub record Short (n : ℕ) (fs : List Finding) : Type 0 where
  pub is : length fs ≤ n

pub short_count : {n : ℕ} {fs : List Finding} {w w₁ : List ℕ} {h h₁ : Held} → Short n fs → Reported fs w h w₁ h₁ → h₁.counts.findings ≤ h.counts.findings + n
short_count s r = omega (arith, s.is, reported_count r)

when_short : (b : Bool) (f : Finding) → Short 1 (when b f)
unfolding when
when_short true f = record { is = omega arith }
when_short false f = record { is = omega arith }

short_none : (n : ℕ) → Short n []
short_none n = record { is = omega arith }

short_one : (f : Finding) → Short 1 (f ∷ [])
short_one f = record { is = omega arith }

short_more : {fs : List Finding} → Short 1 fs → Short 2 fs
short_more s = record { is = omega (arith, s.is) }

short_both : {fs gs : List Finding} → Short 1 fs → Short 1 gs → Short 2 (fs ++ gs)
short_both s t = record { is = rw length-append (omega (arith, s.is, t.is)) }

module _ (modes : Modes) (new : Entry) (inherit : rules.Modifiers) where
  conflict_short : (same : Option Earlier) → Short 1 (conflict_or_missing modes new inherit same)
  unfolding conflict_or_missing
  conflict_short None = short_one _
  conflict_short (Some d) = when_short _ _

  redundant_short : (same : Option Earlier) → Short 1 (redundant_new modes new same)
  unfolding redundant_new
  redundant_short same = when_short _ _

  ref_short : Short 1 (redundant_ref modes new)
  unfolding redundant_ref
  ref_short = when_short _ _

  pub reference_short : (same : Option Earlier) → Short 2 (reference_findings modes new inherit same)
  unfolding reference_findings is_explicit
  reference_short same =
      pick_either (Short 2) new.modifiers.new _ _
      (λ b. pick_either (Short 2) new.modifiers.ref _ _ (λ c. short_more (short_one _)) (λ c. short_more (redundant_short same)))
      (λ b. short_both ref_short (pick_either (Short 1) (treat_as_reference modes new same) _ _ (λ c. conflict_short same) (λ c. short_none 1)))
