-- Work memory stays sound, and its rows fit, where one part of the small state changes that has no table.
use Prim.Native.Nat.{ℕ, ◌≤◌}
use mathlib.Core.Path.{◌≡◌, refl, subst}
use mathlib.Core.List.{List}
use mathlib.Core.Bool.{Bool, true, false}
use native.Mathlib.Omega.{arith}
use lib.Dec.{eqb}
use lib.ListN.{length}
use borrow.Author.Tests.{eqb-true}
use Rattle.rules.specs.Basic.{pick}
use Rattle.rules.specs.Model.{Kind, ingredient, cookware}
use Rattle.model.specs.Memory.{rows_in, components_counted, pairs_counted, Room, Below, Sound, first_held}
use Rattle.model.specs.Fits.{Fits, AllFit}
use Rattle.model.specs.Small.{put, set_count, with_define, with_duplicate, with_block, with_items, with_timers, with_inline, with_old}
use Rattle.sheet.specs.declared.Define.{Define}
use Rattle.sheet.specs.declared.Duplicate.{Duplicate}
use Rattle.model.specs.declared.Open.{Open}
use Rattle.model.specs.declared.Counts.{Counts}
use Rattle.model.specs.declared.Held.{Held}
use Rattle.model.proofs.Tables.{each_none}
use Rattle.model.specs.declared.layout.TheConstants.{MOST_INGREDIENTS, MOST_COOKWARE, MOST_FINDINGS, MOST_KINDS, STATE_WORDS}

-- for each kind
pub by_kind : (P : Kind → Type 0) → P ingredient → P cookware → (k : Kind) → P k
by_kind P i c ingredient = i
by_kind P i c cookware = c

-- ---- one count changes within its bound

-- the bound of the count at the place i of `set_count`; pairs are bounded by components
abbrev most_at : ℕ → ℕ
most_at i = pick (eqb i 1) MOST_KINDS (pick (eqb i 5) MOST_INGREDIENTS (pick (eqb i 6) MOST_COOKWARE (pick (eqb i 11) MOST_FINDINGS 100000)))

put_le : (i n : ℕ) → n ≤ most_at i → (j : ℕ) {x : ℕ} → x ≤ most_at j → put i j n x ≤ most_at j
put_le i n l j {x} g = go (eqb i j) refl
  where
    go : (t : Bool) → eqb i j ≡ t → pick t n x ≤ most_at j
    go true e = subst (λ (p : ℕ). n ≤ most_at p) (eqb-true i j e) l
    go false e = g

pub room_set : (i n : ℕ) {c : Counts} → Room c → n ≤ most_at i → ((k : Kind) → pairs_counted k (set_count i n c) ≤ components_counted k (set_count i n c)) → Room (set_count i n c)
room_set i n z l p =
    record {
      rows = by_kind _ (put_le i n l 5 (z.rows ingredient)) (put_le i n l 6 (z.rows cookware));
      pairs = p;
      others =
          record {
            findings = put_le i n l 11 z.others.findings;
            here = put_le i n l 1 z.others.here;
            counter = put_le i n l 0 z.others.counter;
            sections = put_le i n l 2 z.others.sections;
            blocks = put_le i n l 3 z.others.blocks;
            items = put_le i n l 4 z.others.items;
            timers = put_le i n l 7 z.others.timers;
            inline = put_le i n l 8 z.others.inline;
            old = put_le i n l 12 z.others.old;
          };
    }

-- ---- parts that have no table

module _ {w : List ℕ} {h : Held} (z : Sound w h) where
  pub sound_block : (b : Open) → Sound w (with_block b h)
  sound_block b = record { long = z.long; room = z.room; pairs = z.pairs }

  pub sound_define : (d : Define) → Sound w (with_define d h)
  sound_define d = record { long = z.long; room = z.room; pairs = z.pairs }

  pub sound_duplicate : (d : Duplicate) → Sound w (with_duplicate d h)
  sound_duplicate d = record { long = z.long; room = z.room; pairs = z.pairs }

  pub sound_items : (n : ℕ) → n ≤ 100000 → Sound w (with_items n h)
  sound_items n l = record { long = z.long; room = room_set 4 n z.room l (by_kind _ (z.room.pairs ingredient) (z.room.pairs cookware)); pairs = by_kind _ (z.pairs ingredient) (z.pairs cookware) }

  pub sound_timers : (n : ℕ) → n ≤ 100000 → Sound w (with_timers n h)
  sound_timers n l = record { long = z.long; room = room_set 7 n z.room l (by_kind _ (z.room.pairs ingredient) (z.room.pairs cookware)); pairs = by_kind _ (z.pairs ingredient) (z.pairs cookware) }

  pub sound_inline : (n : ℕ) → n ≤ 100000 → Sound w (with_inline n h)
  sound_inline n l = record { long = z.long; room = room_set 8 n z.room l (by_kind _ (z.room.pairs ingredient) (z.room.pairs cookware)); pairs = by_kind _ (z.pairs ingredient) (z.pairs cookware) }

  pub sound_old : (n : ℕ) → n ≤ 100000 → Sound w (with_old n h)
  sound_old n l = record { long = z.long; room = room_set 12 n z.room l (by_kind _ (z.room.pairs ingredient) (z.room.pairs cookware)); pairs = by_kind _ (z.pairs ingredient) (z.pairs cookware) }

-- the rows are those that the small state counts
pub fit_counts : {sheet w : List ℕ} {h₀ h : Held} → h.counts.ingredients ≡ h₀.counts.ingredients → h.counts.cookware ≡ h₀.counts.cookware → AllFit sheet w h₀ → AllFit sheet w h
fit_counts i c f = record { rows = by_kind _ (rw i (f.rows ingredient)) (rw c (f.rows cookware)) }

-- ---- the start

pub first_sound : (w : List ℕ) → STATE_WORDS ≤ length w → Sound w first_held
unfolding first_held
first_sound w l =
    record {
      long = l;
      room = record { rows = by_kind _ (omega arith) (omega arith); pairs = by_kind _ (omega arith) (omega arith); others = record { findings = omega arith; here = omega arith; counter = omega arith; sections = omega arith; blocks = omega arith; items = omega arith; timers = omega arith; inline = omega arith; old = omega arith } };
      pairs = by_kind _ none none;
    }
  where
    none : {pairs : List ℕ} → Below pairs 0 0
    none = record { definition = λ j g. absurd (omega arith); referrer = λ j g. absurd (omega arith) }

pub first_fit : (sheet w : List ℕ) → AllFit sheet w first_held
unfolding first_held
first_fit sheet w = record { rows = by_kind _ (each_none (Fits ingredient sheet) (rows_in ingredient w)) (each_none (Fits cookware sheet) (rows_in cookware w)) }
