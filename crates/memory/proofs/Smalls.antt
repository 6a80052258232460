-- The small state: its start, sections, limits; and that what memory stands for is blank already.
use Prim.Native.Nat.{ℕ, zero, suc, ◌+◌, ◌≤◌, ◌<◌}
use mathlib.Core.Path.{◌≡◌, refl, sym, ap, ◌∙◌}
use mathlib.Core.List.{List, [], ◌∷◌}
use mathlib.Core.Bool.{Bool, true, false, ◌||◌, ◌&&◌, not}
use Rattle.std.specs.Prelude.{Option, None, Some}
use native.Mathlib.Omega.{arith}
use native.Mathlib.Numerals.{add-one}
use lib.Dec.{eqb, ltb}
use lib.ListN.{get_or, replicate, length-replicate}
use borrow.Author.Tests.{lt-ltb, le-ltb}
use Rattle.rules.specs.Basic.{pick, each, is_empty, is_some, on_some}
use Rattle.rules.specs.Event.{Text}
use Rattle.rules.specs.Model.{trimmed_text, step_block, text_block, ingredient, cookware}
use Rattle.rules.specs.Modes.{first_modes}
use Rattle.rules.specs.State.{State, first_state, no_block, set_modes, set_metadata, set_place, set_block, set_kept, set_tables, set_timers, set_inline, over_limits}
use Rattle.rules.specs.Pass.{is_empty_section, close_section, on_section}
use Rattle.model.specs.Blank.{blank_span, blank_timer, blank_inline, blank_block, blank_open, blank_name, blank_place, blank_metadata, blank_kept, blank_tables, blank}
use Rattle.model.specs.Rows.{block_of, blocks_in, entries_in, findings_in}
use Rattle.model.specs.Memory.{windows_of, open_of, state_of, state_in, first_held, Sound}
use Rattle.model.specs.Small.{with_define, with_duplicate, with_block, with_named, with_counter, with_here, with_sections, with_timers, with_inline, with_old}
use Rattle.sheet.specs.declared.Define.{Define}
use Rattle.sheet.specs.declared.Duplicate.{Duplicate}
use Rattle.model.specs.declared.Open.{Open}
use Rattle.model.specs.declared.Open.TheVariants.{Nothing, Step, Text as TextBlock, TextMode}
use Rattle.model.specs.declared.Held.{Held}
use Rattle.model.proofs.Blanks.{blank_place_lem}
use Rattle.model.proofs.Tables.{entries_length, findings_length}
use Rattle.memory.specs.Pushes.{SectionBegun, OverLimits}
use Rattle.memory.proofs.Bounds.{by_kind, room_set, fit_counts}
use Rattle.sheet.specs.Words.{define_of, duplicate_of}

-- ---- nothing is left to take away

block_blank : (v : ℕ) → blank_block (block_of v) ≡ block_of v
unfolding blank_block block_of
block_blank v = go (eqb v 1)
  where
    go : (b : Bool) → blank_block (pick b (step_block 0 []) (text_block [])) ≡ pick b (step_block 0 []) (text_block [])
    go true = refl
    go false = refl

blocks_blank : (ks : List ℕ) (n : ℕ) → each blank_block (blocks_in ks n) ≡ blocks_in ks n
unfolding blocks_in each
blocks_blank ks zero = refl
blocks_blank ks (suc n) = rw (block_blank (get_or ks n 0), blocks_blank ks n)

abbrev name_in : Bool → Option (List ℕ)
name_in b = pick b (Some []) None

name_blank : (b : Bool) → blank_name (name_in b) ≡ name_in b
unfolding blank_name
name_blank true = refl
name_blank false = refl

open_blank : (o : Open) → blank_open (open_of o) ≡ open_of o
unfolding blank_open open_of
open_blank Nothing = refl
open_blank Step = refl
open_blank TextBlock = refl
open_blank TextMode = refl

module _ (sheet w : List ℕ) (h : Held) where
  pub state_blank : blank (state_in sheet w h) ≡ state_in sheet w h
  unfolding state_in state_of blank blank_place blank_metadata blank_kept blank_tables
  state_blank = simp (length-replicate, blocks_blank, name_blank, open_blank)

-- the first small state, over any words
pub first_state_lem : (sheet w : List ℕ) → state_in sheet w first_held ≡ blank first_state
unfolding state_in state_of first_held first_state first_modes blank blank_place blank_metadata blank_kept blank_tables blank_name blank_open each blocks_in entries_in findings_in define_of duplicate_of open_of
first_state_lem sheet w = refl

-- ---- sections

filled : (ks : List ℕ) (n : ℕ) → 0 < n → is_empty (blocks_in ks n) ≡ false
unfolding blocks_in is_empty
filled ks zero q = absurd (omega arith)
filled ks (suc n) q = refl

module _ (sheet w : List ℕ) (h : Held) where
  kept_more : blank (set_kept (record { sections = (state_in sheet w h).place.section ∷ (state_in sheet w h).kept.sections; blocks = (state_in sheet w h).kept.blocks; items = (state_in sheet w h).kept.items }) (state_in sheet w h))
      ≡ state_in sheet w (with_sections (h.counts.sections + 1) h)
  unfolding state_in state_of set_kept blank blank_place blank_metadata blank_kept blank_tables
  kept_more = rw (add-one h.counts.sections) (simp (length-replicate, blocks_blank, name_blank, open_blank))

  section_test : is_empty_section (state_in sheet w h).place.section ≡ (not (is_some (name_in h.named)) && is_empty (blocks_in (windows_of w).kinds h.counts.here))
  unfolding is_empty_section state_in state_of
  section_test = refl

  close_by : (b : Bool) → is_empty_section (state_in sheet w h).place.section ≡ b → blank (close_section (state_in sheet w h)) ≡ pick b (state_in sheet w h) (state_in sheet w (with_sections (h.counts.sections + 1) h))
  unfolding close_section
  close_by true e = rw e (state_blank sheet w h)
  close_by false e = rw e kept_more

  close_empty : h.named ≡ false → h.counts.here ≤ 0 → blank (close_section (state_in sheet w h)) ≡ state_in sheet w h
  unfolding is_some is_empty blocks_in
  close_empty e q = let z : h.counts.here ≡ 0 = omega arith in close_by true (section_test ∙ rw (e, z))

  close_named : h.named ≡ true → blank (close_section (state_in sheet w h)) ≡ state_in sheet w (with_sections (h.counts.sections + 1) h)
  unfolding is_some
  close_named e = close_by false (section_test ∙ rw e)

  close_filled : h.named ≡ false → 0 < h.counts.here → blank (close_section (state_in sheet w h)) ≡ state_in sheet w (with_sections (h.counts.sections + 1) h)
  unfolding is_some
  close_filled e q = close_by false (section_test ∙ rw (e, filled (windows_of w).kinds h.counts.here q))

name_as : (name : Option Text) (b : Bool) → is_some name ≡ b → blank_name (on_some trimmed_text name) ≡ name_in b
unfolding is_some blank_name on_some
name_as None b e = rw (sym e)
name_as (Some t) b e = rw (sym e)

abbrev next : Bool → Held → Held
next named h = with_block Nothing (with_named named (with_here 0 (with_counter 1 h)))

module _ (sheet w : List ℕ) (h : Held) (named : Bool) (name : Option Text) (e : is_some name ≡ named) where
  place_as : set_place (blank_place (record { section = record { name = on_some trimmed_text name; content = [] }; step_counter = 1; block = no_block })) (state_in sheet w h) ≡ state_in sheet w (next named h)
  unfolding set_place blank_place state_in state_of blocks_in each blank_open open_of
  place_as = rw (name_as name named e)

  begun : (st : State) → blank (close_section st) ≡ state_in sheet w h → state_in sheet w (next named h) ≡ blank (on_section name st)
  unfolding on_section
  begun st q = sym (blank_place_lem _ (close_section st) ∙ ap (set_place (blank_place _)) q ∙ place_as)

sound_next : {w : List ℕ} {h : Held} (named : Bool) (n : ℕ) → n ≤ 100000 → Sound w h → Sound w (next named (with_sections n h))
sound_next named n l z =
    record {
      long = z.long;
      room = room_set 1 0 (room_set 0 1 (room_set 2 n z.room l (by_kind _ (z.room.pairs ingredient) (z.room.pairs cookware))) (omega arith) (by_kind _ (z.room.pairs ingredient) (z.room.pairs cookware))) (omega arith) (by_kind _ (z.room.pairs ingredient) (z.room.pairs cookware));
      pairs = by_kind _ (z.pairs ingredient) (z.pairs cookware);
    }

module _ {h r : Held} (named : Bool) (l : h.counts.sections < 100000) where
  -- n sections are closed
  section_by : (n : ℕ) → n ≤ 100000 → ((sheet w : List ℕ) → blank (close_section (state_in sheet w h)) ≡ state_in sheet w (with_sections n h)) → r ≡ next named (with_sections n h) → SectionBegun h named r
  section_by n m c e =
      rw e
      record {
        is = λ sheet w name q. begun sheet w (with_sections n h) named name q (state_in sheet w h) (c sheet w);
        fit = λ sheet w f. fit_counts refl refl f;
        sound = λ w z. sound_next named n m z;
      }

  pub section_named : h.named ≡ true → r ≡ next named (with_sections (h.counts.sections + 1) h) → SectionBegun h named r
  section_named t e = section_by (h.counts.sections + 1) (omega arith) (λ sheet w. close_named sheet w h t) e

  pub section_filled : h.named ≡ false → 0 < h.counts.here → r ≡ next named (with_sections (h.counts.sections + 1) h) → SectionBegun h named r
  section_filled t q e = section_by (h.counts.sections + 1) (omega arith) (λ sheet w. close_filled sheet w h t q) e

  pub section_empty : h.named ≡ false → h.counts.here ≤ 0 → r ≡ next named h → SectionBegun h named r
  section_empty t q e = section_by h.counts.sections (omega arith) (λ sheet w. close_empty sheet w h t q) e

-- ---- limits

unfoldable pub over_in : Held → Bool
over_in h =
    ltb 512 h.counts.ingredients || ltb 256 h.counts.cookware || ltb 256 h.counts.timers || ltb 128 h.counts.sections
    || ltb 1024 h.counts.blocks || ltb 4096 h.counts.items || ltb 512 h.counts.inline || ltb 1024 h.counts.findings

pub over_is : (h : Held) (r : Bool) → r ≡ over_in h → OverLimits h r
unfolding over_in over_limits state_in state_of
over_is h r e = record { is = λ sheet w. e ∙ sym (simp (length-replicate, entries_length, findings_length)) }

module _ (h : Held) where
  pub over_1 : 512 < h.counts.ingredients → OverLimits h true
  unfolding over_in
  over_1 l1 = over_is h _ (rw (lt-ltb 512 h.counts.ingredients l1))

  pub over_2 : h.counts.ingredients ≤ 512 → 256 < h.counts.cookware → OverLimits h true
  unfolding over_in
  over_2 l1 l2 = over_is h _ (rw (le-ltb 512 h.counts.ingredients l1, lt-ltb 256 h.counts.cookware l2))

  pub over_3 : h.counts.ingredients ≤ 512 → h.counts.cookware ≤ 256 → 256 < h.counts.timers → OverLimits h true
  unfolding over_in
  over_3 l1 l2 l3 = over_is h _ (rw (le-ltb 512 h.counts.ingredients l1, le-ltb 256 h.counts.cookware l2, lt-ltb 256 h.counts.timers l3))

  pub over_4 : h.counts.ingredients ≤ 512 → h.counts.cookware ≤ 256 → h.counts.timers ≤ 256 → 128 < h.counts.sections → OverLimits h true
  unfolding over_in
  over_4 l1 l2 l3 l4 = over_is h _ (rw (le-ltb 512 h.counts.ingredients l1, le-ltb 256 h.counts.cookware l2, le-ltb 256 h.counts.timers l3, lt-ltb 128 h.counts.sections l4))

  pub over_5 : h.counts.ingredients ≤ 512 → h.counts.cookware ≤ 256 → h.counts.timers ≤ 256 → h.counts.sections ≤ 128 → 1024 < h.counts.blocks → OverLimits h true
  unfolding over_in
  over_5 l1 l2 l3 l4 l5 = over_is h _ (rw (le-ltb 512 h.counts.ingredients l1, le-ltb 256 h.counts.cookware l2, le-ltb 256 h.counts.timers l3, le-ltb 128 h.counts.sections l4, lt-ltb 1024 h.counts.blocks l5))

  pub over_6 : h.counts.ingredients ≤ 512 → h.counts.cookware ≤ 256 → h.counts.timers ≤ 256 → h.counts.sections ≤ 128 → h.counts.blocks ≤ 1024 → 4096 < h.counts.items → OverLimits h true
  unfolding over_in
  over_6 l1 l2 l3 l4 l5 l6 = over_is h _ (rw (le-ltb 512 h.counts.ingredients l1, le-ltb 256 h.counts.cookware l2, le-ltb 256 h.counts.timers l3, le-ltb 128 h.counts.sections l4, le-ltb 1024 h.counts.blocks l5, lt-ltb 4096 h.counts.items l6))

  pub over_7 : h.counts.ingredients ≤ 512 → h.counts.cookware ≤ 256 → h.counts.timers ≤ 256 → h.counts.sections ≤ 128 → h.counts.blocks ≤ 1024 → h.counts.items ≤ 4096 → 512 < h.counts.inline → OverLimits h true
  unfolding over_in
  over_7 l1 l2 l3 l4 l5 l6 l7 = over_is h _ (rw (le-ltb 512 h.counts.ingredients l1, le-ltb 256 h.counts.cookware l2, le-ltb 256 h.counts.timers l3, le-ltb 128 h.counts.sections l4, le-ltb 1024 h.counts.blocks l5, le-ltb 4096 h.counts.items l6, lt-ltb 512 h.counts.inline l7))

  pub over_8 : h.counts.ingredients ≤ 512 → h.counts.cookware ≤ 256 → h.counts.timers ≤ 256 → h.counts.sections ≤ 128 → h.counts.blocks ≤ 1024 → h.counts.items ≤ 4096 → h.counts.inline ≤ 512 → OverLimits h (ltb 1024 h.counts.findings)
  unfolding over_in
  over_8 l1 l2 l3 l4 l5 l6 l7 = over_is h _ (rw (le-ltb 512 h.counts.ingredients l1, le-ltb 256 h.counts.cookware l2, le-ltb 256 h.counts.timers l3, le-ltb 128 h.counts.sections l4, le-ltb 1024 h.counts.blocks l5, le-ltb 4096 h.counts.items l6, le-ltb 512 h.counts.inline l7))

-- ---- one part of the small state

module _ (sheet w : List ℕ) (h : Held) where
  pub with_block_lem : (b : Open) → state_in sheet w (with_block b h) ≡ set_block (open_of b) (state_in sheet w h)
  unfolding state_in state_of set_block set_place
  with_block_lem b = refl

  pub with_define_lem : (d : Define) → state_in sheet w (with_define d h) ≡ set_modes (record { define = define_of d; duplicate = duplicate_of h.duplicate }) (state_in sheet w h)
  unfolding state_in state_of set_modes
  with_define_lem d = refl

  pub with_duplicate_lem : (d : Duplicate) → state_in sheet w (with_duplicate d h) ≡ set_modes (record { define = define_of h.define; duplicate = duplicate_of d }) (state_in sheet w h)
  unfolding state_in state_of set_modes
  with_duplicate_lem d = refl

  pub with_timers_lem : (n : ℕ) → state_in sheet w (with_timers n h) ≡ set_timers (replicate n blank_timer) (state_in sheet w h)
  unfolding state_in state_of set_timers set_tables
  with_timers_lem n = refl

  pub with_inline_lem : (n : ℕ) → state_in sheet w (with_inline n h) ≡ set_inline (replicate n blank_inline) (state_in sheet w h)
  unfolding state_in state_of set_inline set_tables
  with_inline_lem n = refl

  pub with_old_lem : (n : ℕ) → state_in sheet w (with_old n h) ≡ set_metadata (record { map = []; old = replicate n blank_span }) (state_in sheet w h)
  unfolding state_in state_of set_metadata
  with_old_lem n = refl
