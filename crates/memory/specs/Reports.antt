-- Findings in work memory, one after another.
use Rattle.std.specs.Prelude.{ℕ, ◌≡◌, List, [], ◌∷◌}
use Rattle.rules.specs.Finding.{Finding}
use Rattle.model.specs.Rows.{finding_of}
use Rattle.model.specs.declared.Noted.{Noted}
use Rattle.model.specs.declared.Held.{Held}
use Rattle.memory.specs.Pushes.{FindingPushed}

-- the findings were pushed one after another: w and h before, w' and h' after
pub data Reported : List Finding → List ℕ → Held → List ℕ → Held → Type 0 where
  nothing : {w : List ℕ} {h : Held} → Reported [] w h w h
  more : {f : Finding} {fs : List Finding} {w w₁ w₂ : List ℕ} {h h₁ h₂ : Held} (x : Noted) → finding_of x ≡ f → FindingPushed w h x w₁ h₁ → Reported fs w₁ h₁ w₂ h₂ → Reported (f ∷ fs) w h w₂ h₂
