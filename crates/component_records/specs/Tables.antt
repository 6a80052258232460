-- The rows of a table, how many refer to their own kind, and whether their records and pairs fit in what is lent.
use Rattle.std.specs.Prelude.{ℕ, ◌+◌, ◌-◌, ◌*◌, ◌≤◌, ◌<◌, ◌≡◌, List, ◌++◌, Bool, ◌&&◌, leb, length, replicate}
use Rattle.component_records.specs.Records.{no_component, records_in}
use Rattle.component_records.specs.Links.{pairs_of, own_count, Linkable}
use Rattle.component_records.specs.declared.Component.{Component}
use Rattle.model.specs.declared.layout.TheConstants.{ROW, MOST_ROWS}

-- what is lent for a table: records, and words for pairs
pub record TableRoom : Type 0 where
  pub records : ℕ
  pub pairs : ℕ

abbrev pub room_for : ℕ → ℕ → TableRoom
room_for records pairs = record { records = records; pairs = pairs }

-- ---- n rows from a word on

-- they can be lent as records and pairs
pub record Ready (w : List ℕ) (from n : ℕ) (m : TableRoom) : Type 0 where
  pub few : n ≤ MOST_ROWS
  pub held : 0 < n → from + n * ROW ≤ length w
  pub room : n ≤ m.records
  pub linkable : Linkable (records_in w from n) m.pairs

-- they are lent
pub record Laid (w : List ℕ) (from n : ℕ) (m : TableRoom) (cs : List Component) (ps : List ℕ) : Type 0 where
  pub all : cs ≡ records_in w from n ++ replicate (m.records - n) no_component
  pub pairs : ps ≡ pairs_of (records_in w from n) ++ replicate (m.pairs - length (pairs_of (records_in w from n))) 0

-- ---- counts of rows

pub record OwnCounted (w : List ℕ) (from n r : ℕ) : Type 0 where
  pub is : r ≡ own_count (records_in w from n)
  pub few : r ≤ n

-- n components with p pairs
unfoldable pub is_room_for : ℕ → ℕ → TableRoom → Bool
is_room_for n p m = leb n m.records && leb (p * 2) m.pairs
