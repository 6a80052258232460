-- What a text in a step leaves in work memory. Of its items and inline quantities only how many they are is kept.
use Rattle.std.specs.Prelude.{ℕ, ◌≡◌, List, [], length}
use Rattle.rules.specs.Units.{NamedUnit}
use Rattle.rules.specs.Inline.{Piece}
use Rattle.rules.specs.Pass.{quantities_of, push_pieces, text_in_step}
use Rattle.parts.specs.Views.{text_in}
use Rattle.parts.specs.declared.TextView.{TextView}
use Rattle.model.specs.Fits.{AllFit}
use Rattle.model.specs.declared.Held.{Held}
use Rattle.blocks.specs.Lined.{Told, Went}

-- n pieces of text, m of them quantities
pub record PiecesPushed (n m : ℕ) (h₀ h : Held) : Type 0 where
  pub told : (ps : List Piece) → length ps ≡ n → length (quantities_of ps) ≡ m → Told (push_pieces ps []) h₀ h
  pub fit : (sheet w : List ℕ) → AllFit sheet w h₀ → AllFit sheet w h

-- a `text` line in a step
pub record TextDone (us : List NamedUnit) (flags : ℕ) (line : List ℕ) (v : TextView) (w₀ : List ℕ) (h₀ : Held) (w : List ℕ) (h : Held) : Type 0 where
  pub went : Went (text_in_step us flags (text_in line v) []) w₀ h₀ w h
  pub fit : (sheet : List ℕ) → AllFit sheet w₀ h₀ → AllFit sheet w h
