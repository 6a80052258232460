-- What is said of a whole unit list, and of what is left of it from a place on.
use Rattle.std.specs.Prelude.{ℕ, ◌-◌, ◌≤◌, ◌<◌, ◌≡◌, Bool, true, List, ◌∷◌, length, take, drop}
use Rattle.rules.specs.Basic.{is_some}
use Rattle.rules.specs.Utf8.{is_utf8, chars}
use Rattle.rules.specs.Sheet.{lines}
use Rattle.rules.specs.Units.{PhysicalQuantity, NamedUnit, units_of, units_or}
use Rattle.units.specs.declared.UnitAt.{UnitAt}
use Rattle.units.specs.Quantities.{physical_in}

-- what is left of a list from a place on is well-formed
unfoldable pub is_list_from : List ℕ → ℕ → Bool
is_list_from units at = is_some (units_of (lines (drop at units)))

-- its units
unfoldable pub units_from : List ℕ → ℕ → List NamedUnit
units_from units at = units_or (units_of (lines (drop at units)))

-- the bytes from one place to another
abbrev pub part : List ℕ → ℕ → ℕ → List ℕ
part s a e = take (e - a) (drop a s)

unfoldable pub named_as : List ℕ → PhysicalQuantity → NamedUnit
named_as n q = record { name = chars n; physical = q }

-- u is the first unit from `at` on
pub record UnitTurn (units : List ℕ) (at : ℕ) (u : UnitAt) : Type 0 where
  pub is : units_from units at ≡ named_as (part units at u.name_end) (physical_in u.physical) ∷ units_from units u.next
  pub named : at < u.name_end
  pub ended : u.name_end < u.next
  pub within : u.next ≤ length units
  pub utf8 : is_utf8 (part units at u.name_end) ≡ true
  pub rest : is_list_from units u.next ≡ true
