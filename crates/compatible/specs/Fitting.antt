-- The units of quantities as their lines have them.
use Rattle.std.specs.Prelude.{ℕ, List, eqb, Option, None, Some}
use Rattle.rules.specs.Basic.{pick, on_some}
use Rattle.rules.specs.Units.{NamedUnit, PhysicalQuantity, physical_number, find_unit}
use Rattle.rules.specs.Model.{trimmed_text}
use Rattle.rules.specs.Text.{text_trimmed}
use Rattle.rules.specs.Checks.{known_units}
use Rattle.content.specs.Contents.{content_in}
use Rattle.parts.specs.Views.{opt_text_in}
use Rattle.parts.specs.declared.TextView.{TextView}

-- the number of a physical quantity; 5 where a name is none
unfoldable pub code_of : Option PhysicalQuantity → ℕ
code_of None = 5
code_of (Some p) = physical_number p

-- the number of a unit's physical quantity
unfoldable pub unit_code : List NamedUnit → List ℕ → ℕ
unit_code us a = code_of (find_unit a us)

-- the code for two units that are there
unfoldable pub known_of : List NamedUnit → List ℕ → List ℕ → ℕ
known_of us a b = known_units us a b (find_unit a us) (find_unit b us)

-- the finding that a code stands for: 0 for none
unfoldable pub told : ℕ → Option ℕ
told n = pick (eqb n 0) None (Some n)

-- the unit of a field as the pass trims it
unfoldable pub trimmed_in : List ℕ → List ℕ
trimmed_in f = text_trimmed (content_in f)

-- a quantity's unit as the pass trims it
unfoldable pub unit_in : List ℕ → Option TextView → Option (List ℕ)
unit_in line u = on_some trimmed_text (opt_text_in line u)
