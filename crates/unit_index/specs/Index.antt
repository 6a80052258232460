-- The index of a unit list in words: what the chains of its lines are.
use Rattle.std.specs.Prelude.{ℕ, zero, suc, ◌+◌, ◌*◌, ◌/◌, ◌%◌, ◌≤◌, ◌<◌, ◌≡◌, Bool, true, false, List, [], ◌∷◌, ltb, length, get_or, set, drop, None, Some, Result, Ok}
use Rattle.rules.specs.Basic.{pick, is_some}
use Rattle.rules.specs.Utf8.{is_utf8, chars, encode}
use Rattle.rules.specs.Units.{NamedUnit, read_units, name_twice}
use Rattle.rules.specs.Answer.{units_refused}
use Rattle.refusals.specs.declared.Reason.{Reason}
use Rattle.refusals.specs.Told.{number_told}
use Rattle.content.specs.Contents.{content_in}
use Rattle.chains.specs.Hashes.{hash_of}
use Rattle.chains.specs.Rows.{find_in, head_in}
use Rattle.units.specs.Lists.{is_list_from, units_from, part}

-- ---- words

abbrev pub head : List ℕ → ℕ → ℕ
head index b = get_or index b 0

abbrev pub start : List ℕ → ℕ → ℕ
start index i = get_or index (256 + i * 2) 0

abbrev pub next : List ℕ → ℕ → ℕ
next index i = get_or index (257 + i * 2) 0

-- the last word: a number of bytes that no name of the list exceeds
abbrev pub longest : List ℕ → ℕ
longest index = get_or index 2304 0

-- ---- names

-- the name of a list's unit
unfoldable pub name_in : List NamedUnit → ℕ → List ℕ
name_in [] i = []
name_in (u ∷ us) zero = u.name
name_in (u ∷ us) (suc i) = name_in us i

-- the chain that a name is in
abbrev pub bucket : List ℕ → ℕ
bucket k = hash_of k % 256

-- one more than the number of the first line of the chain that the content of a field belongs to, or 0; it is 0 also where half the
-- field's bytes are more than any name has: the bytes of its content are at least half as many, as an escape takes two for one
unfoldable pub first_of : List ℕ → List ℕ → ℕ
first_of index s = pick (ltb (longest index) (length s / 2)) 0 (head index (bucket (content_in s)))

-- a line starts at a place of a list
pub record LineIn (units : List ℕ) (from : ℕ) : Type 0 where
  pub list : is_list_from units from ≡ true
  pub more : 0 < length (units_from units from)

-- ---- the index

module _ (units : List ℕ) where
  abbrev pub names : ℕ → List ℕ
  names = name_in (units_from units 0)

-- line i is where the index says
pub record Placed (units : List ℕ) (i from : ℕ) : Type 0 where
  pub list : is_list_from units from ≡ true
  pub is : units_from units from ≡ drop i (units_from units 0)

-- the first n lines are in the index: a walk from a head visits the lines with its hash, newest first; no name is there twice, and
-- none has more bytes than the last word says
pub record Filled (units index : List ℕ) (n : ℕ) : Type 0 where
  pub long : length index ≡ 2305
  pub few : n ≤ length (units_from units 0)
  pub most : length (units_from units 0) ≤ 1024
  pub lines : (i : ℕ) → i < n → Placed units i (start index i)
  pub heads : (b : ℕ) → b < 256 → head index b ≡ head_in bucket (names units) b n
  pub nexts : (i : ℕ) → i < n → next index i ≡ head_in bucket (names units) (bucket (names units i)) i
  pub once : (i : ℕ) → i < n → find_in (names units) (names units i) i ≡ None
  pub short : (i : ℕ) → i < n → length (encode (names units i)) ≤ longest index

-- all lines of a well-formed list are in
pub record Indexed (units index : List ℕ) : Type 0 where
  pub list : is_some (read_units units) ≡ true
  pub names_once : name_twice (units_from units 0) ≡ false
  pub filled : Filled units index (length (units_from units 0))

-- p is one more than a line's number
pub record Linked (units : List ℕ) (p : ℕ) : Type 0 where
  pub some : 0 < p
  pub most : p ≤ length (units_from units 0)

-- ---- what the functions leave

pub record Cleared (index : List ℕ) : Type 0 where
  pub long : length index ≡ 2305
  pub heads : (b : ℕ) → b < 256 → head index b ≡ 0

-- the last word is raised to a size, where it was less
pub record LongestKept (index₀ : List ℕ) (size : ℕ) (index : List ℕ) : Type 0 where
  pub is : index ≡ pick (ltb (longest index₀) size) (set index₀ 2304 size) index₀

pub record LinePushed (index₀ : List ℕ) (n b from : ℕ) (index : List ℕ) : Type 0 where
  pub is : index ≡ set (set (set index₀ (256 + n * 2) from) (257 + n * 2) (head index₀ b)) b (n + 1)

-- line n of a list, whose name stands from a place to another
pub record Named (units : List ℕ) (n from to : ℕ) : Type 0 where
  pub placed : Placed units n from
  pub few : n < length (units_from units 0)
  pub name : names units n ≡ chars (part units from to)
  pub utf8 : is_utf8 (part units from to) ≡ true
  pub order : from < to
  pub within : to ≤ length units

-- r tells whether its name is that of an earlier line; if not, it is in the index
pub record LineAdded (units : List ℕ) (n : ℕ) (index : List ℕ) (r : Bool) : Type 0 where
  pub long : length index ≡ 2305
  pub told : r ≡ is_some (find_in (names units) (names units n) n)
  pub filled : r ≡ false → Filled units index (n + 1)

pub record AllAdded (units index : List ℕ) (r : Bool) : Type 0 where
  pub long : length index ≡ 2305
  pub told : r ≡ name_twice (units_from units 0)
  pub filled : r ≡ false → Filled units index (length (units_from units 0))

-- the list is refused by 5 or 6, or has its index; after 5 the words are those that were lent, after 6 they are the program's choice
pub record UnitsIndexed (units index₀ index : List ℕ) (r : Result (Unit {0}) Reason) : Type 0 where
  pub long : length index ≡ 2305
  pub is : number_told r ≡ units_refused (read_units units)
  pub ill : number_told r ≡ Some 5 → index ≡ index₀
  pub indexed : r ≡ Ok tt → Indexed units index
