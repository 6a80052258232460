-- What `collect_components` answers and lends, read off the rules: how many ingredients and pieces of cookware the recipe has,
-- a record for each, and the pairs of a definition and its referrer.
use Rattle.std.specs.Prelude.{ℕ, ◌-◌, ◌*◌, ◌≤◌, ◌≡◌, List, [], ◌∷◌, ◌++◌, Bool, true, false, ◌&&◌, leb, ltb, length, get_or, replicate, Option, None, Some, Result, Ok, Err}
use Rattle.std.proofs.Math.Seq.{slice}
use Rattle.rules.specs.Basic.{pick, on_some}
use Rattle.rules.specs.Text.{retain}
use Rattle.rules.specs.Event.{Modifiers}
use Rattle.rules.specs.Read.{content_of, parse_line}
use Rattle.rules.specs.Model.{Kind, ingredient, cookware, to_ingredient, to_cookware, to_step, to_section, Relation, definition, reference, Entry, entry_of, set_relation, set_modifiers, is_own}
use Rattle.rules.specs.Reference.{entry_at, own_references}
use Rattle.rules.specs.State.{State, table_of, Outcome, recipe, no_recipe, refusal}
use Rattle.rules.specs.Input.{Input}
use Rattle.rules.specs.Answer.{words_needed, collection, work_after}
use Rattle.refusals.specs.Told.{told_of}
use Rattle.refusals.specs.declared.Refusal.{Refusal}
use Rattle.model.specs.Rows.{component_of_line}
use Rattle.model.specs.Fits.{is_of_kind, WholeLine}
use Rattle.model.specs.declared.Target.TheVariants.{Ingredient, Step, Section}
use Rattle.model.specs.declared.Relation.TheVariants.{Definition, Reference}
use Rattle.model.specs.declared.RelationRecord.{RelationRecord}
use Rattle.component_records.specs.Records.{no_component}
use Rattle.component_records.specs.Tables.{TableRoom}
use Rattle.component_records.specs.declared.Component.{Component}
use Rattle.recipe_components.specs.declared.ComponentCounts.{ComponentCounts}

-- ---- records

-- a relation as a record has it: whether a definition stands in a step; which of its own kind, which step or which section a
-- reference means
unfoldable pub relation_record_of : Relation → RelationRecord
relation_record_of (definition in_step by) = record { relation = Definition; in_step = in_step; index = 0 }
relation_record_of (reference to_ingredient j) = record { relation = Reference Ingredient; in_step = false; index = j }
relation_record_of (reference to_cookware j) = record { relation = Reference Ingredient; in_step = false; index = j }
relation_record_of (reference to_step j) = record { relation = Reference Step; in_step = false; index = j }
relation_record_of (reference to_section j) = record { relation = Reference Section; in_step = false; index = j }

unfoldable pub modifiers_of : Component → Modifiers
modifiers_of c = record { recipe = c.recipe; ref = c.reference; hidden = c.hidden; opt = c.opt; new = c.new }

abbrev pub line_of : List ℕ → Component → List ℕ
line_of sheet c = slice c.line_at c.line_end sheet

abbrev pub name_in : List ℕ → Component → List ℕ
name_in sheet c = slice c.name_at c.name_end sheet

-- c is the record of the entry e: its modifiers, its relation, a whole line of the sheet that is a component of the kind and
-- whose entry is e, and the entry's name in that line, after a path and still escaped. Of two lines with the same entry the
-- record may have either: their spans are equal, so both are the same mention in the recipe's text
pub record RecordOf (k : Kind) (sheet : List ℕ) (e : Entry) (c : Component) : Type 0 where
  pub relation : c.relation ≡ relation_record_of e.relation
  pub modifiers : modifiers_of c ≡ e.modifiers
  pub line : WholeLine sheet c.line_at c.line_end
  pub is_line : is_of_kind k (parse_line (line_of sheet c)) ≡ true
  pub is_entry : set_relation e.relation (set_modifiers e.modifiers (entry_of k true (component_of_line k (line_of sheet c)))) ≡ e
  pub name_at : c.line_at ≤ c.name_at
  pub name : c.name_at ≤ c.name_end
  pub name_end : c.name_end ≤ c.line_end
  pub is_name : on_some (retain 0) (content_of (name_in sheet c)) ≡ Some e.name

-- the records of a table, oldest first
pub record RecordsOf (k : Kind) (sheet : List ℕ) (es : List Entry) (cs : List Component) : Type 0 where
  pub long : length cs ≡ length es
  pub at : (i : ℕ) (e : Entry) → entry_at i es ≡ Some e → RecordOf k sheet e (get_or cs i no_component)

-- ---- pairs: a definition's index and that of an entry of the same table that refers to it, in the order of the referrers.
-- `own_references` counts them, `is_own` tells a reference to the same table

-- of the entry at i
unfoldable pub pair_of : Kind → Relation → ℕ → List ℕ
pair_of k (definition in_step by) i = []
pair_of k (reference t d) i = pick (is_own k t) (d ∷ i ∷ []) []

-- the newest entry's comes last
unfoldable pub table_pairs : Kind → List Entry → List ℕ
table_pairs k [] = []
table_pairs k (e ∷ es) = table_pairs k es ++ pair_of k e.relation (length es)

-- ---- what is lent: records, and words for pairs, of each kind (`TableRoom`); words of work memory

pub record Room : Type 0 where
  pub words : ℕ
  pub ingredients : TableRoom
  pub cookware : TableRoom

unfoldable pub table_fits : Kind → TableRoom → List Entry → Bool
table_fits k m es = leb (length es) m.records && leb (own_references k es * 2) m.pairs

unfoldable pub both_fit : Room → State → Bool
both_fit m st = table_fits ingredient m.ingredients (table_of ingredient st) && table_fits cookware m.cookware (table_of cookware st)

-- ---- the answer

unfoldable pub counts_of : State → ComponentCounts
counts_of st =
    record {
      ingredients = length (table_of ingredient st);
      cookware = length (table_of cookware st);
      ingredient_pairs = own_references ingredient (table_of ingredient st);
      cookware_pairs = own_references cookware (table_of cookware st);
    }

-- the counts of a recipe, none of no recipe, or a refusal's number and line; "20 answer longer than the space lent"
unfoldable pub answer_of : Room → Outcome → Result (Option ComponentCounts) (ℕ × ℕ)
answer_of m (recipe st) = pick (both_fit m st) (Ok (Some (counts_of st))) (Err (20, 0))
answer_of m (no_recipe fs) = Ok None
answer_of m (refusal n l) = Err (n, l)

-- the same of an answer as the code has it
unfoldable pub told_answer : Result (Option ComponentCounts) Refusal → Result (Option ComponentCounts) (ℕ × ℕ)
told_answer (Ok o) = Ok o
told_answer (Err f) = Err (told_of f)

-- the table that is lent: none where the answer is no recipe
unfoldable pub table_lent : Room → Kind → Outcome → List Entry
table_lent m k (recipe st) = pick (both_fit m st) (table_of k st) []
table_lent m k (no_recipe fs) = []
table_lent m k (refusal n l) = []

-- of everything that is given: 1 also where work memory is short, as for `collect`
unfoldable pub outcome_of : Input → Room → Outcome
outcome_of i m = pick (ltb m.words words_needed) (refusal 1 0) (collection i)

-- ---- what `collect_components` leaves

-- the records and the pairs of a table es, and nothing after them
pub record TableLent (k : Kind) (sheet : List ℕ) (es : List Entry) (m : TableRoom) (cs : List Component) (ps : List ℕ) : Type 0 where
  pub records : List Component
  pub are : RecordsOf k sheet es records
  pub all : cs ≡ records ++ replicate (m.records - length es) no_component
  pub pairs : ps ≡ table_pairs k es ++ replicate (m.pairs - length (table_pairs k es)) 0

-- The answer is that of the rules, and every record and word that was lent is said. Ruled out: a program that lends the
-- records of a recipe that it refuses by 20 (`ingredients`: there the table lent is empty); one that lends a reference as a
-- definition, or to another entry (`RecordOf.relation`); one that leaves rows of the recipe in work memory (`words`).
pub record ComponentsLeft (i : Input) (m : Room) (w : List ℕ) (is : List Component) (ips : List ℕ) (cs : List Component) (cps : List ℕ) (r : Result (Option ComponentCounts) Refusal) : Type 0 where
  pub answer : told_answer r ≡ answer_of m (outcome_of i m)
  pub ingredients : TableLent ingredient i.sheet (table_lent m ingredient (outcome_of i m)) m.ingredients is ips
  pub cookware : TableLent cookware i.sheet (table_lent m cookware (outcome_of i m)) m.cookware cs cps
  pub words : w ≡ work_after m.words
