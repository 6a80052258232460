-- What reasons and refusals are told as: the numbers of the rules.
use Rattle.std.specs.Prelude.{ℕ, Option, None, Some, Result, Ok, Err}
use Rattle.refusals.specs.declared.Reason.{Reason}
use Rattle.refusals.specs.declared.Reason.TheVariants as reason
use Rattle.refusals.specs.declared.Refusal.{Refusal}

abbrev pub number_of : Reason → ℕ
number_of reason.Lengths = 1
number_of reason.LongText = 2
number_of reason.LongUnits = 3
number_of reason.TextNotUtf8 = 4
number_of reason.IllUnits = 5
number_of reason.UnitTwice = 6
number_of reason.UnknownFlags = 7
number_of reason.IllLine = 8
number_of reason.ManyLines = 9
number_of reason.BadSpan = 10
number_of reason.InOpenBlock = 11
number_of reason.InNoBlock = 12
number_of reason.OtherEnd = 13
number_of reason.ComponentInText = 14
number_of reason.NotMarked = 15
number_of reason.Negative = 16
number_of reason.OverLimits = 17
number_of reason.ReferenceToReference = 18
number_of reason.OpenAtEnd = 19
number_of reason.NoRoom = 20
number_of reason.ErrorLine = 21
number_of reason.InComponentsMode = 22
number_of reason.NotLast = 23
number_of reason.LongForm = 24

-- what a refusal is told as: its number, and its line
abbrev pub told_of : Refusal → ℕ × ℕ
told_of f = (number_of f.reason, f.line)

module _ {A : Type 0} where
  -- the number that an answer is refused by, if it is
  abbrev pub number_told : Result A Reason → Option ℕ
  number_told (Ok a) = None
  number_told (Err r) = Some (number_of r)

  -- the same with its line
  abbrev pub told : Result A Refusal → Option (ℕ × ℕ)
  told (Ok a) = None
  told (Err f) = Some (told_of f)
