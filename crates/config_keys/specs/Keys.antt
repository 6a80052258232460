-- What the kinds of keys stand for, and which keys set a mode.
use Rattle.std.specs.Prelude.{ℕ, ◌≡◌, Bool, ◌&&◌, List}
use Rattle.rules.specs.Text.{text_trimmed}
use Rattle.rules.specs.Plain.{is_mode_key}
use Rattle.rules.specs.Words.{define_key, duplicate_key}
use Rattle.rules.specs.Modes as rules
use Rattle.rules.specs.Modes.{key_of, has_modes}
use Rattle.content.specs.Contents.{content_in}
use Rattle.config_keys.specs.declared.Key.{Key}
use Rattle.config_keys.specs.declared.Key.TheVariants.{Define, Duplicate, Unknown, Ordinary}

unfoldable pub key_in : Key → rules.Key
key_in Define = rules.config define_key
key_in Duplicate = rules.config duplicate_key
key_in Unknown = rules.unknown_config
key_in Ordinary = rules.ordinary

-- the key of a mode line that the flags heed ("*Mode line*: a `meta` line whose key, as the pass trims it, is one of the three
-- above; the flags heed it if 1 is set")
pub record HeededKey (flags : ℕ) (f : List ℕ) (r : Bool) : Type 0 where
  pub is : r ≡ (has_modes flags && is_mode_key (key_of (text_trimmed (content_in f))))
