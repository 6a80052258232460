-- Findings that were pushed one after another.
use Prim.Native.Nat.{ℕ, ◌+◌, ◌≤◌}
use mathlib.Core.Path.{◌≡◌, refl, ap, subst, ◌∙◌}
use mathlib.Core.List.{List, [], ◌∷◌, ◌++◌}
use native.Mathlib.Omega.{arith}
use lib.ListN.{length}
use Rattle.std.specs.Prelude.{Option, None, Some}
use Rattle.rules.specs.Finding.{Finding}
use Rattle.rules.specs.State.{report}
use Rattle.model.specs.Memory.{state_in, Sound}
use Rattle.model.specs.Fits.{AllFit}
use Rattle.model.specs.Rows.{finding_of, if_found}
use Rattle.model.specs.declared.Noted.{Noted}
use Rattle.model.specs.declared.Held.{Held}
use Rattle.memory.specs.Pushes.{FindingPushed}
use Rattle.memory.specs.Reports.{Reported, nothing, more}

pub reported_one : {f : Finding} {w w₁ : List ℕ} {h h₁ : Held} (x : Noted) → finding_of x ≡ f → FindingPushed w h x w₁ h₁ → Reported (f ∷ []) w h w₁ h₁
reported_one x e p = more x e p nothing

pub reported_seq : {fs gs : List Finding} {w w₁ w₂ : List ℕ} {h h₁ h₂ : Held} → Reported fs w h w₁ h₁ → Reported gs w₁ h₁ w₂ h₂ → Reported (fs ++ gs) w h w₂ h₂
reported_seq nothing r = r
reported_seq (more x e p q) r = more x e p (reported_seq q r)

-- they are the rules' report
pub reported_is : {fs : List Finding} {w w₁ : List ℕ} {h h₁ : Held} → Reported fs w h w₁ h₁ → (sheet : List ℕ) → state_in sheet w₁ h₁ ≡ report fs (state_in sheet w h)
unfolding report
reported_is nothing sheet = refl
reported_is (more {f} {fs} x e p q) sheet = reported_is q sheet ∙ ap (report fs) (p.is sheet) ∙ rw e

pub reported_fit : {fs : List Finding} {w w₁ : List ℕ} {h h₁ : Held} → Reported fs w h w₁ h₁ → (sheet : List ℕ) → AllFit sheet w h → AllFit sheet w₁ h₁
reported_fit nothing sheet a = a
reported_fit (more x e p q) sheet a = reported_fit q sheet (p.fit sheet a)

pub reported_sound : {fs : List Finding} {w w₁ : List ℕ} {h h₁ : Held} → Reported fs w h w₁ h₁ → Sound w h → Sound w₁ h₁
reported_sound nothing s = s
reported_sound (more x e p q) s = reported_sound q p.sound

pub reported_count : {fs : List Finding} {w w₁ : List ℕ} {h h₁ : Held} → Reported fs w h w₁ h₁ → h₁.counts.findings ≡ h.counts.findings + length fs
reported_count nothing = omega arith
reported_count (more x e p q) = let i = reported_count q in let k = ap (λ (z : Held). z.counts.findings) p.held in omega arith

-- the findings by another name
pub reported_as : {fs gs : List Finding} {w w₁ : List ℕ} {h h₁ : Held} → Reported fs w h w₁ h₁ → fs ≡ gs → Reported gs w h w₁ h₁
reported_as {w} {w₁} {h} {h₁} r e = subst (λ (x : List Finding). Reported x w h w₁ h₁) e r

-- what a check found is one finding at most
found_short : (x : Option Noted) → length (if_found x) ≤ 1
unfolding if_found
found_short None = omega arith
found_short (Some n) = omega arith

pub found_count : (x : Option Noted) {w w₁ : List ℕ} {h h₁ : Held} → Reported (if_found x) w h w₁ h₁ → h₁.counts.findings ≤ h.counts.findings + 1
found_count x r = let c = reported_count r in let l = found_short x in omega arith
