-- What the rows of work memory stand for: components, the pairs that name their referrers, findings, kinds of blocks.
use Rattle.std.specs.Prelude.{ℕ, zero, suc, ◌+◌, ◌*◌, ◌≤◌, ◌<◌, List, [], ◌∷◌, Bool, true, false, eqb, length, get_or, take, drop, Option, None, Some}
use Rattle.std.proofs.Math.Seq.{slice}
use Rattle.rules.specs.Basic.{pick}
use Rattle.rules.specs.Words.{severe, mild}
use Rattle.rules.specs.Event.{Span, Modifiers, Component, Event, inside, between, parser_event, Inside, component_event, text_event, end_event, ComponentEvent, ingredient_event, cookware_event, timer_event}
use Rattle.rules.specs.Read.{no_modifiers, parse_line}
use Rattle.rules.specs.Finding.{Finding, diag, parsed}
use Rattle.rules.specs.Model.{Kind, ingredient, cookware, to_step, to_section, target_of, definition, reference, Entry, entry_of, set_relation, set_modifiers, Block, step_block, text_block}
use Rattle.rules.specs.Model as model
use Rattle.model.specs.Blank.{blank_span}
use Rattle.model.specs.declared.Target.TheVariants.{Ingredient, Step, Section}
use Rattle.model.specs.declared.Relation.{Relation}
use Rattle.model.specs.declared.Relation.TheVariants.{Definition, Reference}
use Rattle.model.specs.declared.RelationRecord.{RelationRecord}
use Rattle.model.specs.declared.Row.{Row}
use Rattle.model.specs.declared.Noted.{Noted}
use Rattle.model.specs.declared.layout.TheConstants.{ROW, PAIR, FINDING, MOST_ROWS}

-- the i-th row of k words
abbrev pub row_at : ℕ → List ℕ → ℕ → List ℕ
row_at k w i = take k (drop (i * k) w)

abbrev pub bit_of : Bool → ℕ
bit_of true = 1
bit_of false = 0

-- ---- a component's row of `ROW` words

-- 0 a definition; 1 refers to a component of its own kind, 2 to a step, 3 to a section
unfoldable pub relation_word : Relation → ℕ
relation_word Definition = 0
relation_word (Reference Ingredient) = 1
relation_word (Reference Step) = 2
relation_word (Reference Section) = 3

unfoldable pub relation_of : ℕ → Relation
relation_of n = pick (eqb n 0) Definition (pick (eqb n 1) (Reference Ingredient) (pick (eqb n 2) (Reference Step) (Reference Section)))

unfoldable pub row_words : Row → List ℕ
row_words r =
    r.line_at ∷ r.line_end ∷ r.name_at ∷ r.name_end ∷ bit_of r.recipe ∷ bit_of r.reference ∷ bit_of r.hidden
    ∷ bit_of r.opt ∷ bit_of r.new ∷ relation_word r.relation.relation ∷ r.relation.index ∷ bit_of r.relation.in_step ∷ []

unfoldable pub row_of : List ℕ → Row
row_of w =
    record {
      line_at = get_or w 0 0;
      line_end = get_or w 1 0;
      name_at = get_or w 2 0;
      name_end = get_or w 3 0;
      recipe = eqb (get_or w 4 0) 1;
      reference = eqb (get_or w 5 0) 1;
      hidden = eqb (get_or w 6 0) 1;
      opt = eqb (get_or w 7 0) 1;
      new = eqb (get_or w 8 0) 1;
      relation = record { relation = relation_of (get_or w 9 0); in_step = eqb (get_or w 11 0) 1; index = get_or w 10 0 };
    }

-- the i-th of rows
abbrev pub row_on : List ℕ → ℕ → Row
row_on rows i = row_of (row_at ROW rows i)

-- the i-th of rows is there
pub record HasRow (rows : List ℕ) (i : ℕ) : Type 0 where
  pub few : i < MOST_ROWS
  pub there : i * ROW + ROW ≤ length rows

-- the first n rows are there
pub record HasRows (rows : List ℕ) (n : ℕ) : Type 0 where
  pub few : n ≤ MOST_ROWS
  pub there : n * ROW ≤ length rows

-- the component of its own kind that a row refers to
unfoldable pub own_target : Relation → ℕ → Option ℕ
own_target Definition i = None
own_target (Reference Ingredient) i = Some i
own_target (Reference Step) i = None
own_target (Reference Section) i = None

-- ---- what a row says: the component of its line, its modifiers and its relation after the pass

unfoldable pub blank_component : Component
blank_component =
    record {
      span = blank_span;
      name = record { span = blank_span; content = [] };
      alias = None;
      quantity = None;
      note = None;
      modifiers = no_modifiers;
      modifiers_span = blank_span;
    }

unfoldable pub component_as : Kind → ComponentEvent → Component
component_as ingredient (ingredient_event c i) = c
component_as ingredient (cookware_event c) = blank_component
component_as ingredient (timer_event s n q) = blank_component
component_as cookware (ingredient_event c i) = blank_component
component_as cookware (cookware_event c) = c
component_as cookware (timer_event s n q) = blank_component

unfoldable pub component_inside : Kind → Inside → Component
component_inside k (component_event c) = component_as k c
component_inside k (text_event t) = blank_component
component_inside k (end_event b) = blank_component

unfoldable pub component_in : Kind → Option Event → Component
component_in k None = blank_component
component_in k (Some (inside i)) = component_inside k i
component_in k (Some (between b)) = blank_component
component_in k (Some (parser_event s n)) = blank_component

-- the component of a line; a blank one where the line is none of the kind
unfoldable pub component_of_line : Kind → List ℕ → Component
component_of_line k line = component_in k (parse_line line)

unfoldable pub modifiers_in : Row → Modifiers
modifiers_in r = record { recipe = r.recipe; ref = r.reference; hidden = r.hidden; opt = r.opt; new = r.new }

-- a relation; a definition has its referrers from elsewhere
unfoldable pub relation_as : Kind → Relation → Bool → ℕ → List ℕ → model.Relation
relation_as k Definition in_step index by = definition in_step by
relation_as k (Reference Ingredient) in_step index by = reference (target_of k) index
relation_as k (Reference Step) in_step index by = reference to_step index
relation_as k (Reference Section) in_step index by = reference to_section index

unfoldable pub relation_in : Kind → RelationRecord → List ℕ → model.Relation
relation_in k r by = relation_as k r.relation r.in_step r.index by

-- the entry of a row, and of the referrers of its index, newest first
unfoldable pub entry_as : Kind → List ℕ → Row → List ℕ → Entry
entry_as k sheet r by =
    set_relation (relation_in k r.relation by)
    (set_modifiers (modifiers_in r) (entry_of k true (component_of_line k (slice r.line_at r.line_end sheet))))

-- ---- pairs of words: a definition, and what refers to it

-- the referrers of the definition d among the first m pairs, newest first
module _ (pairs : List ℕ) (d : ℕ) where
  unfoldable pub referrers_in : ℕ → List ℕ
  referrers_in zero = []
  referrers_in (suc j) = pick (eqb (get_or pairs (j * PAIR) 0) d) (get_or pairs (j * PAIR + 1) 0 ∷ referrers_in j) (referrers_in j)

  -- those of k pairs from the one at `at` on, oldest first
  unfoldable pub referrers_from : ℕ → ℕ → List ℕ
  referrers_from at zero = []
  referrers_from at (suc k) =
      pick (eqb (get_or pairs (at * PAIR) 0) d) (get_or pairs (at * PAIR + 1) 0 ∷ referrers_from (suc at) k) (referrers_from (suc at) k)

-- of each definition
unfoldable pub referrers_by : List ℕ → ℕ → ℕ → List ℕ
referrers_by pairs m d = referrers_in pairs d m

-- ---- a table of components, newest first: `by` gives the referrers of each

module _ (k : Kind) (sheet rows : List ℕ) (by : ℕ → List ℕ) where
  unfoldable pub entry_in : ℕ → Entry
  entry_in i = entry_as k sheet (row_on rows i) (by i)

  unfoldable pub entries_in : ℕ → List Entry
  entries_in zero = []
  entries_in (suc i) = entry_in i ∷ entries_in i

-- ---- a finding's row of `FINDING` words

unfoldable pub noted_words : Noted → List ℕ
noted_words n =
    bit_of n.parse ∷ n.code ∷ n.spans ∷ n.start ∷ n.end ∷ n.start2 ∷ n.end2 ∷ bit_of n.flag ∷ []

unfoldable pub noted_of : List ℕ → Noted
noted_of w =
    record {
      parse = eqb (get_or w 0 0) 1;
      code = get_or w 1 0;
      spans = get_or w 2 0;
      start = get_or w 3 0;
      end = get_or w 4 0;
      start2 = get_or w 5 0;
      end2 = get_or w 6 0;
      flag = eqb (get_or w 7 0) 1;
    }

-- its spans: none, one or two
unfoldable pub spans_in : ℕ → Span → Span → List Span
spans_in n s t = pick (eqb n 0) [] (pick (eqb n 1) (s ∷ []) (s ∷ t ∷ []))

-- the flag is `implicit` of a finding of the pass, and marks an error of the parser
unfoldable pub finding_of : Noted → Finding
finding_of n =
    pick n.parse (parsed (pick n.flag severe mild) n.code)
    (diag n.code (spans_in n.spans (record { start = n.start; end = n.end }) (record { start = n.start2; end = n.end2 })) n.flag)

-- what a check found: nothing or one finding
unfoldable pub if_found : Option Noted → List Finding
if_found None = []
if_found (Some n) = finding_of n ∷ []

-- the i-th of such rows
abbrev pub noted_on : List ℕ → ℕ → Noted
noted_on findings i = noted_of (row_at FINDING findings i)

module _ (findings : List ℕ) where
  unfoldable pub finding_in : ℕ → Finding
  finding_in i = finding_of (noted_on findings i)

  unfoldable pub findings_in : ℕ → List Finding
  findings_in zero = []
  findings_in (suc i) = finding_in i ∷ findings_in i

-- ---- kinds of blocks: 1 a step, else a text

unfoldable pub block_of : ℕ → Block
block_of n = pick (eqb n 1) (step_block 0 []) (text_block [])

module _ (kinds : List ℕ) where
  unfoldable pub blocks_in : ℕ → List Block
  blocks_in zero = []
  blocks_in (suc i) = block_of (get_or kinds i 0) ∷ blocks_in i

  -- the indices of the steps among k blocks from the one at `at` on, oldest first
  unfoldable pub steps_from : ℕ → ℕ → List ℕ
  steps_from at zero = []
  steps_from at (suc k) = pick (eqb (get_or kinds at 0) 1) (at ∷ steps_from (suc at) k) (steps_from (suc at) k)
