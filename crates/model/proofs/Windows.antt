-- The windows of work memory: how long they are, what a store in one of them leaves, what depends on the words of the pass alone.
use Prim.Native.Nat.{ℕ, ◌+◌, ◌-◌, ◌*◌, ◌≤◌, ◌<◌}
use mathlib.Core.Path.{◌≡◌, refl, sym, ap, ◌∙◌, subst}
use mathlib.Core.List.{List}
use native.Mathlib.Omega.{arith}
use lib.ListN.{length, take, drop, take-append-drop, length-drop, length-replicate}
use lib.Seq.{sets, length-take-le, take-append-le, drop-append-le}
use borrow.Rule.Slice.PartMut.{mid_of}
use Rattle.rules.specs.Finding.{Finding}
use Rattle.rules.specs.Model.{Kind, ingredient, cookware}
use Rattle.rules.specs.State.{table_of}
use Rattle.model.specs.Kinds.{room_of, rows_from}
use Rattle.model.specs.Blank.{blank_section}
use Rattle.model.specs.Rows.{HasRow, HasRows, findings_in}
use Rattle.model.specs.Memory.{Windows, windows_of, rows_in, pairs_in, count_of, pairs_of, table_in, state_of, state_in, Below, Sound}
use Rattle.model.specs.Fits.{Fits, EachRow, AllFit}
use Rattle.model.specs.declared.Held.{Held}
use Rattle.model.proofs.Stores.{mid_above, mid_below}
use Rattle.model.proofs.Searches.{blocks_length}
use Rattle.model.specs.declared.layout.TheConstants.{ROW, PAIR, FINDING, MOST_INGREDIENTS, MOST_COOKWARE, MOST_FINDINGS, MOST_KINDS, INGREDIENTS, COOKWARE, INGREDIENT_PAIRS, COOKWARE_PAIRS, FINDINGS, KINDS, STATE_WORDS}

-- ---- any two windows

-- the one of n words from a on ends before the one of m words from b on begins, or begins where that has ended
pub data Apart (a n b m : ℕ) : Type 0 where
  before : a + n ≤ b → Apart a n b m
  after : b + m ≤ a → Apart a n b m

-- stores in one leave the other
pub stored_apart : (w : List ℕ) (a n j : ℕ) (vs : List ℕ) → j + length vs ≤ n → (b m : ℕ) → Apart a n b m → mid_of b m (sets w (a + j) vs) ≡ mid_of b m w
stored_apart w a n j vs h b m (before l) = mid_above b m w (a + j) vs (omega arith)
stored_apart w a n j vs h b m (after l) = mid_below b m w (a + j) vs (omega arith)

-- a window is as long as its table
pub window_long : (w : List ℕ) (a n : ℕ) → a + n ≤ length w → length (mid_of a n w) ≡ n
window_long w a n h = length-take-le n (drop a w) (omega (arith, length-drop a w))

-- ---- the windows of work memory

-- all are the same if each is
pub windows_same : (x y : Windows) → x.ingredients ≡ y.ingredients → x.cookware ≡ y.cookware → x.ingredient_pairs ≡ y.ingredient_pairs → x.cookware_pairs ≡ y.cookware_pairs
    → x.findings ≡ y.findings → x.kinds ≡ y.kinds → x ≡ y
windows_same x y a b c d e f =
    ap (λ (v : List ℕ). record x { ingredients = v }) a ∙ rw (b, c, d, e, f)

module _ (w : List ℕ) (l : STATE_WORDS ≤ length w) where
  pub rows_long : (k : Kind) → length (rows_in k w) ≡ room_of k * ROW
  unfolding windows_of
  rows_long ingredient = window_long w INGREDIENTS (MOST_INGREDIENTS * ROW) (omega (arith, l))
  rows_long cookware = window_long w COOKWARE (MOST_COOKWARE * ROW) (omega (arith, l))

  pub pairs_long : (k : Kind) → length (pairs_in k w) ≡ room_of k * PAIR
  unfolding windows_of
  pairs_long ingredient = window_long w INGREDIENT_PAIRS (MOST_INGREDIENTS * PAIR) (omega (arith, l))
  pairs_long cookware = window_long w COOKWARE_PAIRS (MOST_COOKWARE * PAIR) (omega (arith, l))

  pub findings_long : length (windows_of w).findings ≡ MOST_FINDINGS * FINDING
  unfolding windows_of
  findings_long = window_long w FINDINGS (MOST_FINDINGS * FINDING) (omega (arith, l))

  pub kinds_long : length (windows_of w).kinds ≡ MOST_KINDS
  unfolding windows_of
  kinds_long = window_long w KINDS MOST_KINDS (omega (arith, l))

-- where the rows of a kind stand
pub rows_window : (k : Kind) (w : List ℕ) → rows_in k w ≡ take (room_of k * ROW) (drop (rows_from k) w)
unfolding windows_of
rows_window ingredient w = refl
rows_window cookware w = refl

pub rows_end : (k : Kind) (w : List ℕ) → STATE_WORDS ≤ length w → rows_from k + room_of k * ROW ≤ length w
rows_end ingredient w l = omega arith
rows_end cookware w l = omega arith

-- one of the rows that are there
pub has_row : {rows : List ℕ} {n i : ℕ} → HasRows rows n → i < n → HasRow rows i
has_row {rows} {n} {i} a l = let f = a.few in let t = a.there in record { few = omega arith; there = omega arith }

-- the table of a kind
pub table_is : (k : Kind) (sheet w : List ℕ) (h : Held) → table_of k (state_in sheet w h) ≡ table_in k sheet w h
unfolding state_in state_of table_of
table_is ingredient sheet w h = refl
table_is cookware sheet w h = refl

-- as many blocks stand in the current section as are counted
pub content_counted : (sheet w : List ℕ) (h : Held) → length (state_in sheet w h).place.section.content ≡ h.counts.here
unfolding state_in state_of
content_counted sheet w h = blocks_length (windows_of w).kinds h.counts.here

-- the first n findings, newest first
abbrev pub noted_until : List ℕ → ℕ → List Finding
noted_until w n = findings_in (windows_of w).findings n

pub noted_is : (sheet w : List ℕ) (h : Held) → (state_in sheet w h).findings ≡ noted_until w h.counts.findings
unfolding state_in state_of
noted_is sheet w h = refl

-- the sections are those that are counted
pub sections_count : (sheet w : List ℕ) (h : Held) → length (state_in sheet w h).kept.sections ≡ h.counts.sections
unfolding state_in state_of
sections_count sheet w h = length-replicate h.counts.sections blank_section

-- ---- words that are the same to the pass

pub record SameWords (w₀ w : List ℕ) : Type 0 where
  pub windows : windows_of w ≡ windows_of w₀
  pub long : length w ≡ length w₀

front_part : (w : List ℕ) (a n : ℕ) → STATE_WORDS ≤ length w → a + n ≤ STATE_WORDS → take n (drop a w) ≡ take n (drop a (take STATE_WORDS w))
front_part w a n l h =
    let k : length (take STATE_WORDS w) ≡ STATE_WORDS = length-take-le STATE_WORDS w l in
    let i : a ≤ length (take STATE_WORDS w) = omega arith in
    let j : n ≤ length (drop a (take STATE_WORDS w)) = omega (arith, length-drop a (take STATE_WORDS w)) in
    ap (λ (s : List ℕ). take n (drop a s)) (sym (take-append-drop STATE_WORDS w))
    ∙ ap (λ (s : List ℕ). take n s) (drop-append-le a (take STATE_WORDS w) (drop STATE_WORDS w) i)
    ∙ take-append-le n (drop a (take STATE_WORDS w)) (drop STATE_WORDS w) j

front_is : (w : List ℕ) → STATE_WORDS ≤ length w → windows_of w ≡ windows_of (take STATE_WORDS w)
unfolding windows_of
front_is w l =
    windows_same _ _
    (front_part w INGREDIENTS (MOST_INGREDIENTS * ROW) l (omega arith))
    (front_part w COOKWARE (MOST_COOKWARE * ROW) l (omega arith))
    (front_part w INGREDIENT_PAIRS (MOST_INGREDIENTS * PAIR) l (omega arith))
    (front_part w COOKWARE_PAIRS (MOST_COOKWARE * PAIR) l (omega arith))
    (front_part w FINDINGS (MOST_FINDINGS * FINDING) l (omega arith))
    (front_part w KINDS MOST_KINDS l (omega arith))

-- what stands behind the words of the pass does not matter
pub front_same : (w₀ w : List ℕ) → STATE_WORDS ≤ length w₀ → take STATE_WORDS w ≡ take STATE_WORDS w₀ → length w ≡ length w₀ → SameWords w₀ w
front_same w₀ w l e n = record { windows = front_is w (omega arith) ∙ ap windows_of e ∙ sym (front_is w₀ l); long = n }

pub same_state : {w₀ w : List ℕ} → SameWords w₀ w → (sheet : List ℕ) (h : Held) → state_in sheet w h ≡ state_in sheet w₀ h
unfolding state_in
same_state a sheet h = ap (λ (x : Windows). state_of sheet x h) a.windows

module _ {w₀ w : List ℕ} (a : SameWords w₀ w) {h : Held} where
  pub same_sound : Sound w₀ h → Sound w h
  same_sound s = record { long = omega (arith, s.long, a.long); room = s.room; pairs = pairs }
    where
      pairs : (k : Kind) → Below (pairs_in k w) (pairs_of k h) (count_of k h)
      pairs ingredient = subst (λ (x : Windows). Below x.ingredient_pairs h.counts.ingredient_pairs h.counts.ingredients) (sym a.windows) (s.pairs ingredient)
      pairs cookware = subst (λ (x : Windows). Below x.cookware_pairs h.counts.cookware_pairs h.counts.cookware) (sym a.windows) (s.pairs cookware)

  pub same_fit : {sheet : List ℕ} → AllFit sheet w₀ h → AllFit sheet w h
  same_fit {sheet} f = record { rows = rows }
    where
      rows : (k : Kind) → EachRow (Fits k sheet) (rows_in k w) (count_of k h)
      rows ingredient = subst (λ (x : Windows). EachRow (Fits ingredient sheet) x.ingredients h.counts.ingredients) (sym a.windows) (f.rows ingredient)
      rows cookware = subst (λ (x : Windows). EachRow (Fits cookware sheet) x.cookware h.counts.cookware) (sym a.windows) (f.rows cookware)
