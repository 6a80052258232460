-- The small state with another part.
use Rattle.std.specs.Prelude.{ℕ, Bool, eqb}
use Rattle.rules.specs.Basic.{pick}
use Rattle.sheet.specs.declared.Define.{Define}
use Rattle.sheet.specs.declared.Duplicate.{Duplicate}
use Rattle.model.specs.declared.Open.{Open}
use Rattle.model.specs.declared.Counts.{Counts}
use Rattle.model.specs.declared.Held.{Held}

abbrev pub with_counts : Counts → Held → Held
with_counts c h = record { define = h.define; duplicate = h.duplicate; block = h.block; named = h.named; counts = c }

abbrev pub with_define : Define → Held → Held
with_define d h = record { define = d; duplicate = h.duplicate; block = h.block; named = h.named; counts = h.counts }

abbrev pub with_duplicate : Duplicate → Held → Held
with_duplicate d h = record { define = h.define; duplicate = d; block = h.block; named = h.named; counts = h.counts }

abbrev pub with_block : Open → Held → Held
with_block b h = record { define = h.define; duplicate = h.duplicate; block = b; named = h.named; counts = h.counts }

abbrev pub with_named : Bool → Held → Held
with_named b h = record { define = h.define; duplicate = h.duplicate; block = h.block; named = b; counts = h.counts }

-- ---- another count

-- x, or n at the place i
abbrev pub put : ℕ → ℕ → ℕ → ℕ → ℕ
put i j n x = pick (eqb i j) n x

-- the counts with n as the one at the place i, in the order of the struct
abbrev pub set_count : ℕ → ℕ → Counts → Counts
set_count i n c =
    record {
      counter = put i 0 n c.counter;
      here = put i 1 n c.here;
      sections = put i 2 n c.sections;
      blocks = put i 3 n c.blocks;
      items = put i 4 n c.items;
      ingredients = put i 5 n c.ingredients;
      cookware = put i 6 n c.cookware;
      timers = put i 7 n c.timers;
      inline = put i 8 n c.inline;
      ingredient_pairs = put i 9 n c.ingredient_pairs;
      cookware_pairs = put i 10 n c.cookware_pairs;
      findings = put i 11 n c.findings;
      old = put i 12 n c.old;
    }

abbrev pub with_counter : ℕ → Held → Held
with_counter n h = with_counts (set_count 0 n h.counts) h

abbrev pub with_here : ℕ → Held → Held
with_here n h = with_counts (set_count 1 n h.counts) h

abbrev pub with_sections : ℕ → Held → Held
with_sections n h = with_counts (set_count 2 n h.counts) h

abbrev pub with_blocks : ℕ → Held → Held
with_blocks n h = with_counts (set_count 3 n h.counts) h

abbrev pub with_items : ℕ → Held → Held
with_items n h = with_counts (set_count 4 n h.counts) h

abbrev pub with_ingredients : ℕ → Held → Held
with_ingredients n h = with_counts (set_count 5 n h.counts) h

abbrev pub with_cookware : ℕ → Held → Held
with_cookware n h = with_counts (set_count 6 n h.counts) h

abbrev pub with_timers : ℕ → Held → Held
with_timers n h = with_counts (set_count 7 n h.counts) h

abbrev pub with_inline : ℕ → Held → Held
with_inline n h = with_counts (set_count 8 n h.counts) h

abbrev pub with_ingredient_pairs : ℕ → Held → Held
with_ingredient_pairs n h = with_counts (set_count 9 n h.counts) h

abbrev pub with_cookware_pairs : ℕ → Held → Held
with_cookware_pairs n h = with_counts (set_count 10 n h.counts) h

abbrev pub with_findings : ℕ → Held → Held
with_findings n h = with_counts (set_count 11 n h.counts) h

abbrev pub with_old : ℕ → Held → Held
with_old n h = with_counts (set_count 12 n h.counts) h
