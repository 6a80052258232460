-- Counts: what an answer has, and how many of a table's rows refer to their own kind.
use Prim.Native.Nat.{ℕ, ◌+◌, ◌*◌, ◌≤◌, ◌<◌}
use mathlib.Core.Path.{◌≡◌, sym, ◌∙◌}
use mathlib.Core.List.{List}
use mathlib.Core.Bool.{Bool, true, false}
use native.Mathlib.Omega.{arith}
use Rattle.std.specs.Prelude.{Option, None, Some, Result, Ok, Err}
use lib.ListN.{length}
use Rattle.rules.specs.Model.{Kind, ingredient, cookware}
use Rattle.refusals.specs.declared.Reason.TheVariants.{NoRoom}
use Rattle.refusals.specs.declared.Refusal.{Refusal}
use Rattle.model.specs.Kinds.{rows_from}
use Rattle.model.specs.Memory.{count_of, Sound}
use Rattle.model.specs.declared.Held.{Held}
use Rattle.model.proofs.Windows.{rows_end}
use Rattle.component_records.specs.Tables.{TableRoom, OwnCounted, is_room_for}
use Rattle.recipe_components.specs.declared.ComponentCounts.{ComponentCounts}
use Rattle.recipe_components.specs.Tables.{ingredients_of, cookware_of, row_counts, counts_or20}
use Rattle.model.specs.declared.layout.TheConstants.{ROW, MOST_ROWS, INGREDIENTS, COOKWARE}

-- ---- the variants of an answer
module _ {r : Result (Option ComponentCounts) Refusal} where
  pub count_recipe : {o : Option ComponentCounts} {c : ComponentCounts} → r ≡ Ok o → o ≡ Some c → (c.ingredients ≡ ingredients_of r) × (c.cookware ≡ cookware_of r)
  unfolding ingredients_of cookware_of
  count_recipe q e = (rw (q, e), rw (q, e))

  pub count_none : {o : Option ComponentCounts} → r ≡ Ok o → o ≡ None → (0 ≡ ingredients_of r) × (0 ≡ cookware_of r)
  unfolding ingredients_of cookware_of
  count_none q e = (rw (q, e), rw (q, e))

  pub count_refused : {f : Refusal} → r ≡ Err f → (0 ≡ ingredients_of r) × (0 ≡ cookware_of r)
  unfolding ingredients_of cookware_of
  count_refused q = (rw q, rw q)

-- ---- the rows that are counted are there
pub rows_asked : (k : Kind) {w : List ℕ} {h : Held} → Sound w h → (count_of k h ≤ MOST_ROWS) × (0 < count_of k h → rows_from k + count_of k h * ROW ≤ length w)
rows_asked ingredient {w} z = let n = z.room.rows ingredient in let l = rows_end ingredient w z.long in (omega arith, λ _. omega arith)
rows_asked cookware {w} z = let n = z.room.rows cookware in let l = rows_end cookware w z.long in (omega arith, λ _. omega arith)

-- ---- what fits
module _ {w : List ℕ} (h : Held) {i j : ℕ} (o : OwnCounted w INGREDIENTS h.counts.ingredients i) (p : OwnCounted w COOKWARE h.counts.cookware j) (is cs : TableRoom) where
  pub both_fit_lem : {a b : Bool} → a ≡ is_room_for h.counts.ingredients i is → a ≡ true → b ≡ is_room_for h.counts.cookware j cs → b ≡ true
      → Ok (Some (record { ingredients = h.counts.ingredients; cookware = h.counts.cookware; ingredient_pairs = i; cookware_pairs = j })) ≡ counts_or20 w h is cs
  unfolding counts_or20 row_counts
  both_fit_lem ea ta eb tb = rw (sym o.is, sym p.is, sym ea ∙ ta, sym eb ∙ tb)

  pub first_short_lem : {a : Bool} → a ≡ is_room_for h.counts.ingredients i is → a ≡ false → Err (record { reason = NoRoom; line = 0 }) ≡ counts_or20 w h is cs
  unfolding counts_or20
  first_short_lem ea ta = rw (sym o.is, sym ea ∙ ta)

  pub second_short_lem : {a b : Bool} → a ≡ is_room_for h.counts.ingredients i is → a ≡ true → b ≡ is_room_for h.counts.cookware j cs → b ≡ false
      → Err (record { reason = NoRoom; line = 0 }) ≡ counts_or20 w h is cs
  unfolding counts_or20
  second_short_lem ea ta eb tb = rw (sym o.is, sym p.is, sym ea ∙ ta, sym eb ∙ tb)
