-- What is read of work memory is there; referrers read one after another are those that pairs keep.
use Prim.Native.Nat.{ℕ, zero, suc, ◌+◌, ◌-◌, ◌*◌, ◌≤◌, ◌<◌}
use mathlib.Core.Path.{◌≡◌, sym}
use mathlib.Core.List.{List, ◌∷◌}
use mathlib.Core.Bool.{Bool, true, false}
use Rattle.std.specs.Prelude.{Option, None, Some}
use native.Mathlib.Omega.{arith}
use lib.Dec.{eqb}
use lib.ListN.{length, get_or, length-reverse}
use Rattle.rules.specs.Basic.{pick}
use Rattle.rules.specs.Model.{Kind, ingredient, cookware}
use Rattle.model.specs.Kinds.{room_of}
use Rattle.model.specs.Rows.{HasRow, HasRows, referrers_in, referrers_by}
use Rattle.model.specs.Memory.{rows_in, pairs_in, count_of, pairs_of, referrers_of, referrers_left, Sound}
use Rattle.model.specs.Searches as pairs
use Rattle.model.specs.declared.Held.{Held}
use Rattle.model.proofs.Searches.{referrers_all, referrers_below}
use Rattle.model.proofs.Windows.{rows_long, pairs_long}
use Rattle.memory.specs.Referrers.{FirstReferrer, NextReferrer}
use Rattle.model.specs.declared.layout.TheConstants.{PAIR, MOST_INGREDIENTS}

module _ (k : Kind) (w : List ℕ) (h : Held) (d : ℕ) where
  pub first_place : FirstReferrer k w h d 0
  first_place = record { is = unfold referrers_left referrers_by in sym (referrers_all (pairs_in k w) d (pairs_of k h)) }

  pub next_place : {place : ℕ} {x : Option (ℕ × ℕ)} → Sound w h → pairs.NextReferrer (pairs_in k w) (pairs_of k h) d place x → NextReferrer k w h d place x
  next_place {place = place} {x = None} z n = record { is = unfold referrers_left in n.is }
  next_place {place = place} {x = Some (r, next)} z n =
      let later : place < next = n.is.0 in
      let most : next ≤ pairs_of k h = n.is.1 in
      record {
        is = (referrers_below (pairs_in k w) d (z.pairs k) place (pairs_of k h - place) (omega arith) n.is.2, unfold referrers_left in n.is.2);
      }

-- a row of a kind is there
pub row_there : (k : Kind) {w rows : List ℕ} {i : ℕ} {h : Held} → Sound w h → rows ≡ rows_in k w → i < room_of k → HasRow rows i
row_there ingredient {w} z e l = let n = rows_long w z.long ingredient in record { few = l; there = rw e (omega arith) }
row_there cookware {w} z e l = let n = rows_long w z.long cookware in record { few = omega arith; there = rw e (omega arith) }

-- a row that is counted has room
pub row_room : (k : Kind) {w : List ℕ} {h : Held} {i : ℕ} → Sound w h → i < count_of k h → i < room_of k
row_room k z l = let r = z.room.rows k in omega arith

-- the rows that are counted are there
pub rows_there : (k : Kind) {w : List ℕ} {h : Held} → Sound w h → HasRows (rows_in k w) (count_of k h)
rows_there ingredient {w} z = let n = rows_long w z.long ingredient in let a = z.room.rows ingredient in record { few = omega arith; there = omega arith }
rows_there cookware {w} z = let n = rows_long w z.long cookware in let a = z.room.rows cookware in record { few = omega arith; there = omega arith }

-- the pairs of a kind are there
pub pairs_there : (k : Kind) {w : List ℕ} {h : Held} → Sound w h → (pairs_of k h ≤ MOST_INGREDIENTS) × (pairs_of k h * PAIR ≤ length (pairs_in k w))
pairs_there ingredient {w} z = let n = pairs_long w z.long ingredient in let a = z.room.pairs ingredient in let b = z.room.rows ingredient in (omega arith, omega arith)
pairs_there cookware {w} z = let n = pairs_long w z.long cookware in let a = z.room.pairs cookware in let b = z.room.rows cookware in (omega arith, omega arith)

-- no more refer to a component than there are
counted_few : (pairs : List ℕ) (d m : ℕ) → length (referrers_in pairs d m) ≤ m
unfolding referrers_in
counted_few pairs d zero = omega arith
counted_few pairs d (suc m) = go (eqb (get_or pairs (m * PAIR) 0) d) (counted_few pairs d m)
  where
    go : (t : Bool) → length (referrers_in pairs d m) ≤ m → length (pick t (get_or pairs (m * PAIR + 1) 0 ∷ referrers_in pairs d m) (referrers_in pairs d m)) ≤ suc m
    go true ih = omega arith
    go false ih = omega arith

module _ (k : Kind) {w : List ℕ} {h : Held} (z : Sound w h) (d : ℕ) where
  pub referrers_few : length (referrers_of k w h d) ≤ count_of k h
  unfolding referrers_by
  referrers_few = omega (arith, counted_few (pairs_in k w) d (pairs_of k h), z.room.pairs k)

  pub left_few : {place : ℕ} → FirstReferrer k w h d place → length (referrers_left k w h d place) ≤ count_of k h
  left_few f = rw f.is (omega (arith, length-reverse (referrers_of k w h d), referrers_few))
