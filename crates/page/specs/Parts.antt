-- The page of a recipe part by part, and what the writers of the parts leave in the output.
use Rattle.std.specs.Prelude.{ℕ, ◌≡◌, Bool, List, [], ◌∷◌, ◌++◌, length}
use Rattle.rules.specs.Basic.{pick, codes, is_empty}
use Rattle.rules.specs.Sheet.{line_of}
use Rattle.rules.specs.Input.{Context, TextAgrees}
use Rattle.rules.specs.State.{State, first_state, going}
use Rattle.rules.specs.Pass.{walk, ended}
use Rattle.rules.specs.Page.{table_lines, meta_line, section_lines, ingredient_line, cookware_line, timer_line, inline_line, finding_line}
use Rattle.rules.specs.Answer.{read_sheet, events_or}
use Rattle.output.specs.Put.{Put}
use Rattle.following.specs.Drawn.{drawn, old_line}
use Rattle.following.specs.declared.Part.{Part}
use Rattle.following.specs.declared.Part.TheVariants.{Old}
use Rattle.model.specs.declared.Held.{Held}
use Rattle.pass.specs.Walks.{RanRecipe}

-- a page's first line
unfoldable pub head_line : Bool → List ℕ
head_line made = line_of (codes "recipe" ∷ pick made (codes "yes") (codes "no") ∷ [])

unfoldable pub metas_of : State → List ℕ
metas_of st = table_lines meta_line st.metadata.map

unfoldable pub sections_of : State → List ℕ
sections_of st = table_lines section_lines st.kept.sections

-- ingredients, cookware, timers, inline quantities
unfoldable pub tables_of : State → List ℕ
tables_of st =
    table_lines ingredient_line st.tables.ingredients
    ++ (table_lines cookware_line st.tables.cookware ++ (table_lines timer_line st.tables.timers ++ table_lines inline_line st.tables.inline))

unfoldable pub findings_of : State → List ℕ
findings_of st = table_lines finding_line st.findings

-- a part of the page, at a position, in every context that agrees and whose pass has left w and h in work memory
pub record PartPut (part : State → List ℕ) (sheet text units : List ℕ) (flags : ℕ) (w : List ℕ) (h : Held) (o₀ : List ℕ) (at : ℕ) (o : List ℕ) (r : ℕ) : Type 0 where
  pub is : (cx : Context) → TextAgrees text units flags cx → (ran : RanRecipe cx sheet (events_or (read_sheet text sheet)) w h) → Put (part (ended ran.state)) o₀ at o r

-- ---- what a second walk draws, in every context that agrees; `st` is the state before the end

-- a part that is empty where n is 0
pub record DrawnPut (p : Part) (n : ℕ) (sheet text units : List ℕ) (flags : ℕ) (o₀ : List ℕ) (at : ℕ) (o : List ℕ) (r : ℕ) : Type 0 where
  pub is : (cx : Context) → TextAgrees text units flags cx → (st : State) → walk cx 1 (going first_state) (events_or (read_sheet text sheet)) ≡ going st → (n ≡ 0 → drawn p st ≡ []) → Put (drawn p st) o₀ at o r

-- the line of finding 3, where n lines count for it
unfoldable pub old_of : State → List ℕ
old_of st = pick (is_empty st.metadata.old) [] (old_line (drawn Old st))

pub record OldPut (n : ℕ) (sheet text units : List ℕ) (flags : ℕ) (o₀ : List ℕ) (at : ℕ) (o : List ℕ) (r : ℕ) : Type 0 where
  pub is : (cx : Context) → TextAgrees text units flags cx → (st : State) → walk cx 1 (going first_state) (events_or (read_sheet text sheet)) ≡ going st → length st.metadata.old ≡ n → Put (old_of st) o₀ at o r
