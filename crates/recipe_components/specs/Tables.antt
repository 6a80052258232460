-- What the rows of a table in work memory are to the records and pairs that are lent.
use Rattle.std.specs.Prelude.{ℕ, ◌≡◌, List, ◌&&◌, length, Option, None, Some, Result, Ok, Err}
use Rattle.rules.specs.Input.{Input}
use Rattle.rules.specs.Basic.{pick}
use Rattle.rules.specs.Model.{Kind, ingredient, cookware, Entry}
use Rattle.model.specs.declared.Held.{Held}
use Rattle.component_records.specs.Records.{records_in}
use Rattle.component_records.specs.Links.{pairs_of, own_count}
use Rattle.refusals.specs.declared.Reason.TheVariants.{NoRoom}
use Rattle.refusals.specs.declared.Refusal.{Refusal}
use Rattle.component_records.specs.Tables.{TableRoom, room_for, Ready, is_room_for}
use Rattle.recipe_components.specs.declared.ComponentCounts.{ComponentCounts}
use Rattle.recipe_components.specs.Components.{RecordsOf, table_pairs, Room, answer_of, told_answer, table_lent, outcome_of}
use Rattle.model.specs.declared.layout.TheConstants.{INGREDIENTS, COOKWARE}

-- ---- how many rows an answer has

unfoldable pub ingredients_of : Result (Option ComponentCounts) Refusal → ℕ
ingredients_of (Ok (Some c)) = c.ingredients
ingredients_of (Ok None) = 0
ingredients_of (Err f) = 0

unfoldable pub cookware_of : Result (Option ComponentCounts) Refusal → ℕ
cookware_of (Ok (Some c)) = c.cookware
cookware_of (Ok None) = 0
cookware_of (Err f) = 0

abbrev pub room_of : ℕ → ℕ → ℕ → ℕ → ℕ → Room
room_of words is ips cs cps = record { words = words; ingredients = room_for is ips; cookware = room_for cs cps }

-- ---- counts of rows

-- the counts of the rows
unfoldable pub row_counts : List ℕ → Held → ComponentCounts
row_counts w h =
    record {
      ingredients = h.counts.ingredients;
      cookware = h.counts.cookware;
      ingredient_pairs = own_count (records_in w INGREDIENTS h.counts.ingredients);
      cookware_pairs = own_count (records_in w COOKWARE h.counts.cookware);
    }

-- the same, or 20 where some of it does not fit
unfoldable pub counts_or20 : List ℕ → Held → TableRoom → TableRoom → Result (Option ComponentCounts) Refusal
counts_or20 w h i c =
    pick
    (is_room_for h.counts.ingredients (own_count (records_in w INGREDIENTS h.counts.ingredients)) i
    && is_room_for h.counts.cookware (own_count (records_in w COOKWARE h.counts.cookware)) c)
    (Ok (Some (row_counts w h)))
    (Err (record { reason = NoRoom; line = 0 }))

-- ---- the rows that the pass leaves

-- the rows are the table es
pub record RowsOf (k : Kind) (sheet : List ℕ) (es : List Entry) (w : List ℕ) (from n : ℕ) : Type 0 where
  pub count : n ≡ length es
  pub records : RecordsOf k sheet es (records_in w from n)
  pub pairs : pairs_of (records_in w from n) ≡ table_pairs k es

pub record RowsCollected (i : Input) (m : Room) (w : List ℕ) (r : Result (Option ComponentCounts) Refusal) : Type 0 where
  pub answer : told_answer r ≡ answer_of m (outcome_of i m)
  pub long : length w ≡ m.words
  pub ingredients : RowsOf ingredient i.sheet (table_lent m ingredient (outcome_of i m)) w INGREDIENTS (ingredients_of r)
  pub cookware : RowsOf cookware i.sheet (table_lent m cookware (outcome_of i m)) w COOKWARE (cookware_of r)
  pub ingredients_ready : Ready w INGREDIENTS (ingredients_of r) m.ingredients
  pub cookware_ready : Ready w COOKWARE (cookware_of r) m.cookware
