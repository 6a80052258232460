-- What the pass does to words of work memory, whatever it answers and whatever they stand for.
use Rattle.std.specs.Prelude.{◌≡◌, List, ℕ, Bool, true, drop}
use Rattle.model.specs.declared.layout.TheConstants.{STATE_WORDS}

-- Words past those of the state are as they were: the pass writes in its own windows alone. Where it refuses a line, all words are
-- as they were.
pub record Writes (w₀ w : List ℕ) (refused : Bool) : Type 0 where
  pub past : drop STATE_WORDS w ≡ drop STATE_WORDS w₀
  pub stopped : refused ≡ true → w ≡ w₀
