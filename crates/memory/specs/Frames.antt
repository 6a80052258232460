-- What findings leave as it is: rows, referrers, the current section and its blocks, the length of work memory, and every count but theirs.
use Rattle.std.specs.Prelude.{ℕ, ◌≡◌, List, length}
use Rattle.rules.specs.Model.{Kind}
use Rattle.model.specs.Memory.{rows_in, referrers_of, referrers_left, state_in}
use Rattle.model.specs.Small.{with_findings}
use Rattle.model.specs.declared.Held.{Held}

-- w and h before, w₁ and h₁ after
pub record Framed (w : List ℕ) (h : Held) (w₁ : List ℕ) (h₁ : Held) : Type 0 where
  pub rows : (k : Kind) → rows_in k w₁ ≡ rows_in k w
  pub referrers : (k : Kind) → referrers_of k w₁ h₁ ≡ referrers_of k w h
  pub left : (k : Kind) (d place : ℕ) → referrers_left k w₁ h₁ d place ≡ referrers_left k w h d place
  pub place : (sheet : List ℕ) → (state_in sheet w₁ h₁).place ≡ (state_in sheet w h).place
  pub long : length w₁ ≡ length w
  pub held : h₁ ≡ with_findings h₁.counts.findings h
