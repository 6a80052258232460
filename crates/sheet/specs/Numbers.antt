-- What a number with a sign stands for.
use Rattle.std.specs.Prelude.{true, false}
use Rattle.rules.specs.Sheet as rules
use Rattle.sheet.specs.declared.Signed.{Signed}
use Rattle.sheet.specs.declared.Signed.TheVariants.{Plus, Minus}

unfoldable pub signed_in : Signed → rules.Signed
signed_in (Plus n) = record { negative = false; size = n }
signed_in (Minus n) = record { negative = true; size = n }
