-- `meta` lines (`metadata` in the Rust): the modes that they set, the map, findings 1 to 3.
use Rattle.std.specs.Prelude.{ℕ, List, [], ◌∷◌, reverse, Bool, false, Option, None, Some}
use Rattle.rules.specs.Basic.{pick, eq_list, any, each, word_in}
use Rattle.rules.specs.Words.{DefineMode, DuplicateMode, define_words, duplicate_words, define_key, duplicate_key}
use Rattle.rules.specs.Event.{Span, Text}
use Rattle.rules.specs.Finding.{Finding, diag, found, found_two}
use Rattle.rules.specs.Model.{MetaEntry}
use Rattle.rules.specs.Modes.{has_modes, Key, config, unknown_config, ordinary, key_of, key_text, value_text}
use Rattle.rules.specs.State.{State, set_modes, set_metadata, report}

-- ---- the map: "as in the Rust's map: one per key, at its first arrival's place, with its last value"

unfoldable pub has_key : List ℕ → MetaEntry → Bool
has_key k e = eq_list k e.key

unfoldable pub with_value : List ℕ → List ℕ → MetaEntry → MetaEntry
with_value k v e = record { key = e.key; value = pick (eq_list k e.key) v e.value }

unfoldable pub insert_meta : List ℕ → List ℕ → List MetaEntry → List MetaEntry
insert_meta k v es = pick (any (has_key k) es) (each (with_value k v) es) (record { key = k; value = v } ∷ es)

unfoldable pub store_meta : List ℕ → List ℕ → List Span → State → State
store_meta k v old st = set_metadata (record { map = insert_meta k v st.metadata.map; old = old }) st

-- ---- config keys: the mode that the value sets, or 1, config value

unfoldable pub bad_value : Text → Text → Finding
bad_value key value = found_two 1 value.span key.span false

unfoldable pub on_define : Text → Text → Option DefineMode → State → State
on_define key value None st = report (bad_value key value ∷ []) st
on_define key value (Some m) st = set_modes (record { define = m; duplicate = st.modes.duplicate }) st

unfoldable pub on_duplicate : Text → Text → Option DuplicateMode → State → State
on_duplicate key value None st = report (bad_value key value ∷ []) st
on_duplicate key value (Some m) st = set_modes (record { define = st.modes.define; duplicate = m }) st

-- 2, config key: an unknown one is kept in the map; any other `meta` line counts for 3
unfoldable pub on_key : Key → Text → Text → State → State
on_key (config define_key) k v st = on_define k v (word_in (value_text v) define_words) st
on_key (config duplicate_key) k v st = on_duplicate k v (word_in (value_text v) duplicate_words) st
on_key unknown_config k v st = report (found 2 k.span ∷ []) (store_meta (key_text k) (value_text v) st.metadata.old st)
on_key ordinary k v st =
    store_meta (key_text k) (value_text v) (record { start = k.span.start; end = v.span.end } ∷ st.metadata.old) st

module _ (flags : ℕ) where
  unfoldable pub on_metadata : Text → Text → State → State
  on_metadata k v st = on_key (pick (has_modes flags) (key_of (key_text k)) ordinary) k v st

-- 3, old metadata, at the end
unfoldable pub old_metadata : List Span → List Finding
old_metadata [] = []
old_metadata (s ∷ ss) = diag 3 (reverse (s ∷ ss)) false ∷ []
