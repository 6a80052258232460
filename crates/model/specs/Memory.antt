-- The state of the pass that work memory and the small state stand for. What memory does not keep is blank.
use Rattle.std.specs.Prelude.{ℕ, ◌+◌, ◌-◌, ◌*◌, ◌≤◌, ◌<◌, List, [], false, length, get_or, take, drop, replicate, None, Some}
use Rattle.rules.specs.Basic.{pick}
use Rattle.rules.specs.Model.{Kind, ingredient, cookware, Entry}
use Rattle.rules.specs.State as state
use Rattle.rules.specs.State.{State, no_block, step_open, text_open, text_mode_open}
use Rattle.model.specs.Blank.{blank_span, blank_section, blank_timer, blank_inline}
use Rattle.model.specs.Rows.{row_on, noted_on, referrers_from, referrers_by, entries_in, findings_in, blocks_in}
use Rattle.model.specs.Kinds.{room_of}
use Rattle.sheet.specs.declared.Define.TheVariants.{All}
use Rattle.sheet.specs.declared.Duplicate.TheVariants.{New}
use Rattle.model.specs.declared.Open.{Open}
use Rattle.model.specs.declared.Open.TheVariants.{Nothing, Step as StepBlock, Text as TextBlock, TextMode}
use Rattle.model.specs.declared.Row.{Row}
use Rattle.model.specs.declared.Noted.{Noted}
use Rattle.model.specs.declared.Counts.{Counts}
use Rattle.model.specs.declared.Held.{Held}
use Rattle.sheet.specs.Words.{define_of, duplicate_of}
use Rattle.model.specs.declared.layout.TheConstants.{ROW, PAIR, FINDING, MOST_INGREDIENTS, MOST_COOKWARE, MOST_FINDINGS, MOST_KINDS, INGREDIENTS, COOKWARE, INGREDIENT_PAIRS, COOKWARE_PAIRS, FINDINGS, KINDS, STATE_WORDS}

-- ---- the windows of work memory (docs/MEMORY.md)

pub record Windows : Type 0 where
  pub ingredients : List ℕ
  pub cookware : List ℕ
  pub ingredient_pairs : List ℕ
  pub cookware_pairs : List ℕ
  pub findings : List ℕ
  pub kinds : List ℕ

unfoldable pub windows_of : List ℕ → Windows
windows_of w =
    record {
      ingredients = take (MOST_INGREDIENTS * ROW) (drop INGREDIENTS w);
      cookware = take (MOST_COOKWARE * ROW) (drop COOKWARE w);
      ingredient_pairs = take (MOST_INGREDIENTS * PAIR) (drop INGREDIENT_PAIRS w);
      cookware_pairs = take (MOST_COOKWARE * PAIR) (drop COOKWARE_PAIRS w);
      findings = take (MOST_FINDINGS * FINDING) (drop FINDINGS w);
      kinds = take MOST_KINDS (drop KINDS w);
    }

-- ---- by the kind of component

abbrev pub rows_in : Kind → List ℕ → List ℕ
rows_in ingredient w = (windows_of w).ingredients
rows_in cookware w = (windows_of w).cookware

abbrev pub pairs_in : Kind → List ℕ → List ℕ
pairs_in ingredient w = (windows_of w).ingredient_pairs
pairs_in cookware w = (windows_of w).cookware_pairs

-- how many components and pairs are counted
abbrev pub components_counted : Kind → Counts → ℕ
components_counted ingredient c = c.ingredients
components_counted cookware c = c.cookware

abbrev pub pairs_counted : Kind → Counts → ℕ
pairs_counted ingredient c = c.ingredient_pairs
pairs_counted cookware c = c.cookware_pairs

abbrev pub count_of : Kind → Held → ℕ
count_of k h = components_counted k h.counts

abbrev pub pairs_of : Kind → Held → ℕ
pairs_of k h = pairs_counted k h.counts

-- the i-th row of a kind
abbrev pub row_in : Kind → List ℕ → ℕ → Row
row_in k w i = row_on (rows_in k w) i

-- what refers to each component, newest first
abbrev pub referrers_of : Kind → List ℕ → Held → ℕ → List ℕ
referrers_of k w h = referrers_by (pairs_in k w) (pairs_of k h)

-- what refers to the component d and is left from the place c on, oldest first; what a place is, is memory's own
unfoldable pub referrers_left : Kind → List ℕ → Held → ℕ → ℕ → List ℕ
referrers_left k w h d c = referrers_from (pairs_in k w) d c (pairs_of k h - c)

-- its table, newest first
abbrev pub table_in : Kind → List ℕ → List ℕ → Held → List Entry
table_in k sheet w h = entries_in k sheet (rows_in k w) (referrers_of k w h) (count_of k h)

-- ---- findings

abbrev pub noted_in : List ℕ → ℕ → Noted
noted_in w i = noted_on (windows_of w).findings i

-- ---- the small state

unfoldable pub open_of : Open → state.Open
open_of Nothing = no_block
open_of StepBlock = step_open []
open_of TextBlock = text_open []
open_of TextMode = text_mode_open []

unfoldable pub state_of : List ℕ → Windows → Held → State
state_of sheet x h =
    record {
      modes = record { define = define_of h.define; duplicate = duplicate_of h.duplicate };
      metadata = record { map = []; old = replicate h.counts.old blank_span };
      place =
          record {
            section = record { name = pick h.named (Some []) None; content = blocks_in x.kinds h.counts.here };
            step_counter = h.counts.counter;
            block = open_of h.block;
          };
      kept = record { sections = replicate h.counts.sections blank_section; blocks = h.counts.blocks; items = h.counts.items };
      tables =
          record {
            ingredients = entries_in ingredient sheet x.ingredients (referrers_by x.ingredient_pairs h.counts.ingredient_pairs) h.counts.ingredients;
            cookware = entries_in cookware sheet x.cookware (referrers_by x.cookware_pairs h.counts.cookware_pairs) h.counts.cookware;
            timers = replicate h.counts.timers blank_timer;
            inline = replicate h.counts.inline blank_inline;
          };
      findings = findings_in x.findings h.counts.findings;
    }

-- what words and the small state stand for
unfoldable pub state_in : List ℕ → List ℕ → Held → State
state_in sheet w h = state_of sheet (windows_of w) h

-- the small state at the start
unfoldable pub first_held : Held
first_held =
    record {
      define = All;
      duplicate = New;
      block = Nothing;
      named = false;
      counts =
          record {
            counter = 1;
            here = 0;
            sections = 0;
            blocks = 0;
            items = 0;
            ingredients = 0;
            cookware = 0;
            timers = 0;
            inline = 0;
            ingredient_pairs = 0;
            cookware_pairs = 0;
            findings = 0;
            old = 0;
          };
    }

-- ---- bounds

-- what has no rows of components is counted no further than `most` says
pub record AtMost (most c : Counts) : Type 0 where
  pub findings : c.findings ≤ most.findings
  pub here : c.here ≤ most.here
  pub counter : c.counter ≤ most.counter
  pub sections : c.sections ≤ most.sections
  pub blocks : c.blocks ≤ most.blocks
  pub items : c.items ≤ most.items
  pub timers : c.timers ≤ most.timers
  pub inline : c.inline ≤ most.inline
  pub old : c.old ≤ most.old

-- what the windows hold; what has no window is counted far below what a number holds
abbrev pub most_counts : Counts
most_counts =
    record {
      counter = 100000;
      here = MOST_KINDS;
      sections = 100000;
      blocks = 100000;
      items = 100000;
      ingredients = MOST_INGREDIENTS;
      cookware = MOST_COOKWARE;
      timers = 100000;
      inline = 100000;
      ingredient_pairs = MOST_INGREDIENTS;
      cookware_pairs = MOST_COOKWARE;
      findings = MOST_FINDINGS;
      old = 100000;
    }

-- as many rows as the windows hold, and a pair for each row at most
pub record Room (c : Counts) : Type 0 where
  pub rows : (k : Kind) → components_counted k c ≤ room_of k
  pub pairs : (k : Kind) → pairs_counted k c ≤ components_counted k c
  pub others : AtMost most_counts c

-- the first m pairs are of components below n
pub record Below (pairs : List ℕ) (m n : ℕ) : Type 0 where
  pub definition : (j : ℕ) → j < m → get_or pairs (j * PAIR) 0 < n
  pub referrer : (j : ℕ) → j < m → get_or pairs (j * PAIR + 1) 0 < n

-- work memory that the small state may go with
pub record Sound (w : List ℕ) (h : Held) : Type 0 where
  pub long : STATE_WORDS ≤ length w
  pub room : Room h.counts
  pub pairs : (k : Kind) → Below (pairs_in k w) (pairs_of k h) (count_of k h)
