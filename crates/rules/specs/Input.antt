-- What is handed in: the bytes (`Input`), and what the pass has of them beside the lines of the sheet (`Context`).
use Rattle.std.specs.Prelude.{ℕ, ◌≡◌, List}
use Rattle.rules.specs.Units.{NamedUnit, read_units, units_or}

-- the event sheet, the source text, the unit list and the flags
pub record Input : Type 0 where
  pub sheet : List ℕ
  pub text : List ℕ
  pub units : List ℕ
  pub flags : ℕ

abbrev pub input_of : List ℕ → List ℕ → List ℕ → ℕ → Input
input_of sheet text units flags = record { sheet = sheet; text = text; units = units; flags = flags }

-- another sheet with all that stands beside it
abbrev pub with_sheet : List ℕ → Input → Input
with_sheet sheet i = record { sheet = sheet; text = i.text; units = i.units; flags = i.flags }

-- as read: the text, the units that the list names, the flags
pub record Context : Type 0 where
  pub text : List ℕ
  pub units : List NamedUnit
  pub flags : ℕ

abbrev pub context_of : Input → Context
context_of i = record { text = i.text; units = units_or (read_units i.units); flags = i.flags }

-- ---- what code that is lent a part of the input says of a context, whatever else the context holds

-- its units are those of these bytes, and these are its flags
pub record Agrees (units : List ℕ) (flags : ℕ) (cx : Context) : Type 0 where
  pub same_units : cx.units ≡ units_or (read_units units)
  pub same_flags : cx.flags ≡ flags

-- and this is its text
pub record TextAgrees (text units : List ℕ) (flags : ℕ) (cx : Context) : Type 0 where
  pub same_text : cx.text ≡ text
  pub rest : Agrees units flags cx
