-- The unit list (document 01: "lines of name, tab, `volume`, `mass`, `length`, `temperature` or `time`; names not empty").
use Rattle.std.specs.Prelude.{ℕ, List, [], ◌∷◌, Bool, false, ◌||◌, eqb, leb, length, Option, None, Some}
use Rattle.rules.specs.Basic.{pick, codes, eq_list, is_empty, is_some, word_in}
use Rattle.rules.specs.Utf8.{is_utf8, chars}
use Rattle.rules.specs.Sheet.{Lines, last, more, lines, fields_of}

-- `PhysicalQuantity` (src/convert/mod.rs)
pub data PhysicalQuantity : Type 0 where
  volume mass len temperature time : PhysicalQuantity

abbrev pub physical_words : List (List ℕ × PhysicalQuantity)
physical_words =
    (codes "volume", volume) ∷ (codes "mass", mass) ∷ (codes "length", len)
    ∷ (codes "temperature", temperature) ∷ (codes "time", time) ∷ []

unfoldable pub physical_number : PhysicalQuantity → ℕ
physical_number volume = 0
physical_number mass = 1
physical_number len = 2
physical_number temperature = 3
physical_number time = 4

unfoldable pub same_physical : PhysicalQuantity → PhysicalQuantity → Bool
same_physical p q = eqb (physical_number p) (physical_number q)

-- a name in code points, as the contents of the sheet are
pub record NamedUnit : Type 0 where
  pub name : List ℕ
  pub physical : PhysicalQuantity

-- one line: a name that is not empty, a tab, a physical quantity; "without escapes"
unfoldable pub named_unit : List ℕ → Option PhysicalQuantity → Option NamedUnit
named_unit n None = None
named_unit n (Some p) = pick (is_empty n) None (Some (record { name = chars n; physical = p }))

unfoldable pub unit_of_fields : List (List ℕ) → Option NamedUnit
unit_of_fields [] = None
unit_of_fields (n ∷ []) = None
unit_of_fields (n ∷ p ∷ []) = named_unit n (word_in p physical_words)
unit_of_fields (n ∷ p ∷ x ∷ xs) = None

unfoldable pub unit_of : List ℕ → Option NamedUnit
unit_of line = pick (is_utf8 line) (unit_of_fields (fields_of line)) None

unfoldable pub with_unit : Option NamedUnit → Option (List NamedUnit) → Option (List NamedUnit)
with_unit None us = None
with_unit (Some u) None = None
with_unit (Some u) (Some us) = Some (u ∷ us)

unfoldable pub units_of : Lines → Option (List NamedUnit)
units_of (last l) = pick (is_empty l) (Some []) None
units_of (more l ls) = with_unit (unit_of l) (units_of ls)

-- "5 unit line ill-formed or a 1,025th"
unfoldable pub at_most1024 : Option (List NamedUnit) → Option (List NamedUnit)
at_most1024 None = None
at_most1024 (Some us) = pick (leb (length us) 1024) (Some us) None

unfoldable pub read_units : List ℕ → Option (List NamedUnit)
read_units bytes = at_most1024 (units_of (lines bytes))

-- the units that a list names; none where it is ill-formed
unfoldable pub units_or : Option (List NamedUnit) → List NamedUnit
units_or None = []
units_or (Some us) = us

-- `find_unit`: "an exact byte match in the lent unit list"
module _ (name : List ℕ) where
  unfoldable pub find_unit : List NamedUnit → Option PhysicalQuantity
  find_unit [] = None
  find_unit (u ∷ us) = pick (eq_list name u.name) (Some u.physical) (find_unit us)

-- "6 unit name twice"
unfoldable pub name_twice : List NamedUnit → Bool
name_twice [] = false
name_twice (u ∷ us) = is_some (find_unit u.name us) || name_twice us
