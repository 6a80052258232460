-- The modes of the pass (src/analysis/mod.rs), the flags, and the keys of `meta` lines that set modes.
use Rattle.std.specs.Prelude.{ℕ, ◌/◌, ◌%◌, List, [], ◌∷◌, Bool, true, false, ◌&&◌, eqb, Option, None, Some}
use Rattle.rules.specs.Basic.{pick, word_in}
use Rattle.rules.specs.Text.{text_trimmed, text_outer_trimmed}
use Rattle.rules.specs.Words.{DefineMode, mode_all, mode_components, mode_steps, mode_text, DuplicateMode, duplicate_new, duplicate_reference, ConfigKey, config_keys}
use Rattle.rules.specs.Event.{Text}

pub record Modes : Type 0 where
  pub define : DefineMode
  pub duplicate : DuplicateMode

-- the modes that the Rust starts in
unfoldable pub first_modes : Modes
first_modes = record { define = mode_all; duplicate = duplicate_new }

unfoldable pub is_components : DefineMode → Bool
is_components mode_all = false
is_components mode_components = true
is_components mode_steps = false
is_components mode_text = false

unfoldable pub is_steps : DefineMode → Bool
is_steps mode_all = false
is_steps mode_components = false
is_steps mode_steps = true
is_steps mode_text = false

unfoldable pub is_text : DefineMode → Bool
is_text mode_all = false
is_text mode_components = false
is_text mode_steps = false
is_text mode_text = true

unfoldable pub is_reference : DuplicateMode → Bool
is_reference duplicate_new = false
is_reference duplicate_reference = true

-- "Flags: 1 MODES, 2 INLINE_QUANTITIES, 4 ADVANCED_UNITS, added."
unfoldable pub has_modes : ℕ → Bool
has_modes flags = eqb (flags % 2) 1

unfoldable pub has_inline : ℕ → Bool
has_inline flags = eqb (flags / 2 % 2) 1

unfoldable pub has_advanced_units : ℕ → Bool
has_advanced_units flags = eqb (flags / 4 % 2) 1

-- ---- `metadata`: the key of a `meta` line as the pass trims it, and its value

unfoldable pub key_text : Text → List ℕ
key_text t = text_trimmed t.content

unfoldable pub value_text : Text → List ℕ
value_text t = text_outer_trimmed t.content

-- what a key is where flag 1 is set: `[mode]`, `[define]`, `[duplicate]`; another in brackets; any other
pub data Key : Type 0 where
  config : ConfigKey → Key
  unknown_config ordinary : Key

unfoldable pub ends_with_bracket : List ℕ → Bool
ends_with_bracket [] = false
ends_with_bracket (c ∷ []) = eqb c 93
ends_with_bracket (c ∷ d ∷ s) = ends_with_bracket (d ∷ s)

-- `key_t.starts_with('[') && key_t.ends_with(']')`; a `[` alone does not end with `]`
unfoldable pub is_bracketed : List ℕ → Bool
is_bracketed [] = false
is_bracketed (c ∷ s) = eqb c 91 && ends_with_bracket s

unfoldable pub key_as : Option ConfigKey → Bool → Key
key_as (Some k) bracketed = config k
key_as None bracketed = pick bracketed unknown_config ordinary

unfoldable pub key_of : List ℕ → Key
key_of key = key_as (word_in key config_keys) (is_bracketed key)
