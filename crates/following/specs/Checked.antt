-- What the plain form refuses by the define mode alone.
use Rattle.std.specs.Prelude.{Bool, true, false, Result, Ok, Err}
use Rattle.refusals.specs.declared.Reason.{Reason}
use Rattle.refusals.specs.declared.Reason.TheVariants.{InComponentsMode}

-- 22 in components mode
abbrev pub define_answer : Bool → Result (Unit {0}) Reason
define_answer true = Err InComponentsMode
define_answer false = Ok tt
