-- The words that a sheet's lines, config keys and config values are compared with.
use Rattle.std.specs.Prelude.{ℕ, List, [], ◌∷◌, Bool, true, false}
use Rattle.rules.specs.Basic.{codes}

-- the first field of a line: its kind of event
pub data EventWord : Type 0 where
  meta_word section_word start_word end_word text_word ingredient_word cookware_word timer_word error_word warning_word : EventWord

abbrev pub event_words : List (List ℕ × EventWord)
event_words =
    (codes "meta", meta_word) ∷ (codes "section", section_word) ∷ (codes "start", start_word) ∷ (codes "end", end_word)
    ∷ (codes "text", text_word) ∷ (codes "ingredient", ingredient_word) ∷ (codes "cookware", cookware_word)
    ∷ (codes "timer", timer_word) ∷ (codes "error", error_word) ∷ (codes "warning", warning_word) ∷ []

-- "`start` or `end`, then `step` or `text`"
pub data BlockKind : Type 0 where
  step_kind text_kind : BlockKind

abbrev pub block_kinds : List (List ℕ × BlockKind)
block_kinds = (codes "step", step_kind) ∷ (codes "text", text_kind) ∷ []

-- "`n`, `r` or `t` (number, range, text)"
pub data ValueKind : Type 0 where
  number range textual : ValueKind

abbrev pub value_kinds : List (List ℕ × ValueKind)
value_kinds = (codes "n", number) ∷ (codes "r", range) ∷ (codes "t", textual) ∷ []

-- "lock `l` or `-`"
abbrev pub locks : List (List ℕ × Bool)
locks = (codes "l", true) ∷ (codes "-", false) ∷ []

-- an intermediate reference: "`n` or `r`" (number or relative), "`step` or `section`"
abbrev pub references : List (List ℕ × Bool)
references = (codes "n", false) ∷ (codes "r", true) ∷ []

pub data IntermediateTarget : Type 0 where
  target_step target_section : IntermediateTarget

abbrev pub targets : List (List ℕ × IntermediateTarget)
targets = (codes "step", target_step) ∷ (codes "section", target_section) ∷ []

-- `error` and `warning`
pub data Severity : Type 0 where
  severe mild : Severity

-- the config keys of `metadata` in the Rust: `[mode]`, `[define]`, `[duplicate]`
pub data ConfigKey : Type 0 where
  define_key duplicate_key : ConfigKey

abbrev pub config_keys : List (List ℕ × ConfigKey)
config_keys = (codes "[mode]", define_key) ∷ (codes "[define]", define_key) ∷ (codes "[duplicate]", duplicate_key) ∷ []

-- `DefineMode`, `DuplicateMode` (src/analysis/mod.rs), and the values that choose them
pub data DefineMode : Type 0 where
  mode_all mode_components mode_steps mode_text : DefineMode

abbrev pub define_words : List (List ℕ × DefineMode)
define_words =
    (codes "all", mode_all) ∷ (codes "default", mode_all) ∷ (codes "components", mode_components)
    ∷ (codes "ingredients", mode_components) ∷ (codes "steps", mode_steps) ∷ (codes "text", mode_text) ∷ []

pub data DuplicateMode : Type 0 where
  duplicate_new duplicate_reference : DuplicateMode

abbrev pub duplicate_words : List (List ℕ × DuplicateMode)
duplicate_words =
    (codes "new", duplicate_new) ∷ (codes "default", duplicate_new) ∷ (codes "reference", duplicate_reference)
    ∷ (codes "ref", duplicate_reference) ∷ []
