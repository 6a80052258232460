-- Findings of the pass, by the codes of document 01, and findings of the parser (src/error.rs).
use Rattle.std.specs.Prelude.{ℕ, List, [], ◌∷◌, Bool, false, ◌||◌, eqb}
use Rattle.rules.specs.Words.{Severity}
use Rattle.rules.specs.Event.{Span}

pub data Finding : Type 0 where
  -- code, spans, implicit
  diag : ℕ → List Span → Bool → Finding
  -- of the parser
  parsed : Severity → ℕ → Finding

-- `error!` in the Rust, else `warning!`: 1 config value, 7 intermediate modifiers, 8 value 0, 9 bounds, 10 NEW with REF,
-- 13 modifier conflict, 14 not found, 18 note, 19 conflicting quantity, 21 timer text, 22 not time, 23 unknown timer unit
unfoldable pub is_error : ℕ → Bool
is_error code =
    eqb code 1 || eqb code 7 || eqb code 8 || eqb code 9 || eqb code 10 || eqb code 13 || eqb code 14 || eqb code 18
    || eqb code 19 || eqb code 21 || eqb code 22 || eqb code 23

-- a finding that is not implicit, with one span
abbrev pub found : ℕ → Span → Finding
found code s = diag code (s ∷ []) false

-- one with two spans
abbrev pub found_two : ℕ → Span → Span → Bool → Finding
found_two code s t implicit = diag code (s ∷ t ∷ []) implicit

-- the parser's findings among these
unfoldable pub only_parsed : List Finding → List Finding
only_parsed [] = []
only_parsed (diag c s i ∷ fs) = only_parsed fs
only_parsed (parsed s n ∷ fs) = parsed s n ∷ only_parsed fs
