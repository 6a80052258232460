-- What `meta` lines leave in work memory. Only the modes, the findings and the number of ordinary lines are kept.
use Rattle.std.specs.Prelude.{ℕ, List}
use Rattle.rules.specs.Event as rules
use Rattle.rules.specs.Modes.{ordinary}
use Rattle.rules.specs.Metadata.{on_key, on_metadata}
use Rattle.parts.specs.Views.{text_in}
use Rattle.parts.specs.declared.TextView.{TextView}
use Rattle.model.specs.Fits.{AllFit}
use Rattle.model.specs.declared.Held.{Held}
use Rattle.blocks.specs.Lined.{Told, Went}

-- any other line
pub record OrdinaryCounted (h₀ h : Held) : Type 0 where
  pub by : (k v : rules.Text) → Told (on_key ordinary k v) h₀ h
  pub fit : (sheet w : List ℕ) → AllFit sheet w h₀ → AllFit sheet w h

-- a `meta` line
pub record MetaDone (flags : ℕ) (line : List ℕ) (key value : TextView) (w₀ : List ℕ) (h₀ : Held) (w : List ℕ) (h : Held) : Type 0 where
  pub went : Went (on_metadata flags (text_in line key) (text_in line value)) w₀ h₀ w h
