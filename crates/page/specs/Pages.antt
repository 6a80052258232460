-- What the writers of whole pages are given, and what they leave in the output.
use Rattle.std.specs.Prelude.{ℕ, ◌≤◌, ◌≡◌, List, [], ◌∷◌, ◌++◌, true, length, take, drop}
use Rattle.rules.specs.Basic.{codes}
use Rattle.rules.specs.Sheet.{line_of}
use Rattle.rules.specs.Utf8.{is_utf8}
use Rattle.rules.specs.Input.{Context, TextAgrees}
use Rattle.rules.specs.Finding.{Finding}
use Rattle.rules.specs.State.{no_recipe}
use Rattle.rules.specs.Pass.{ended, parse_events}
use Rattle.rules.specs.Page.{recipe_page, failed_page}
use Rattle.rules.specs.Answer.{words_needed, read_sheet, events_or}
use Rattle.output.specs.Put.{Put}
use Rattle.model.specs.declared.Held.{Held}
use Rattle.model.specs.declared.layout.TheConstants.{STATE_WORDS, WORDS}
use Rattle.finding_lines.specs.Lines.{parsed_lines}
use Rattle.pass.specs.Walks.{RanRecipe}

-- work memory as the pass leaves it where there is a recipe, in some context that agrees with what is lent
pub record PageGiven (sheet text units : List ℕ) (flags : ℕ) (w : List ℕ) (h : Held) : Type 0 where
  pub text_utf8 : is_utf8 text ≡ true
  pub sheet_short : length sheet ≤ 65536
  pub words_enough : words_needed ≤ length w
  pub context : Context
  pub agrees : TextAgrees text units flags context
  pub ran : RanRecipe context sheet (events_or (read_sheet text sheet)) w h

-- the recipe's page at the front of the output, in every context that agrees and whose pass has left w₀ and h in work memory; of its words
-- those of the pass and those from WORDS on stay as they are, and between them stands the index of the metadata, in the program's choice of words
pub record RecipePut (sheet text units : List ℕ) (flags : ℕ) (w₀ w : List ℕ) (h : Held) (o₀ o : List ℕ) (r : ℕ) : Type 0 where
  pub is : (cx : Context) → TextAgrees text units flags cx → (ran : RanRecipe cx sheet (events_or (read_sheet text sheet)) w₀ h) → Put (recipe_page (ended ran.state)) o₀ 0 o r
  pub front : take STATE_WORDS w ≡ take STATE_WORDS w₀
  pub rest : drop WORDS w ≡ drop WORDS w₀

-- of every sheet that was read: `recipe`, `no`, and the lines of the parser's findings; where the pass makes no recipe, in whatever
-- context, that is the page
pub record FailedPut (sheet text o₀ o : List ℕ) (r : ℕ) : Type 0 where
  pub always : Put (line_of (codes "recipe" ∷ codes "no" ∷ []) ++ parsed_lines (events_or (read_sheet text sheet))) o₀ 0 o r
  pub is : (cx : Context) (fs : List Finding) → parse_events cx (events_or (read_sheet text sheet)) ≡ no_recipe fs → Put (failed_page fs) o₀ 0 o r
