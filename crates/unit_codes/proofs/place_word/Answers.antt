use native.Mathlib.Omega.{arith}
use Rattle.unit_codes.proofs.Codes.{place_plain, place_packed}
use Rattle.unit_codes.proofs.place_word.Goals as goal

pub returns-then-from-eq0 : goal.returns-then-from-eq0
returns-then-from-eq0 c = place_plain

pub returns-then-to-gt65535 : goal.returns-then-to-gt65535
returns-then-to-gt65535 c = place_plain

pub returns : goal.returns
returns c = place_packed _ (omega (arith, c.if-from-eq0.false)) c.requires (omega (arith, c.if-to-gt65535.false))
