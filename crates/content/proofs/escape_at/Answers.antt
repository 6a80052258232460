use Rattle.content.proofs.Chars.{in_last, in_alone, in_letter}
use native.Mathlib.Omega.{arith}
use mathlib.Core.Path.{refl}
use Rattle.content.proofs.escape_at.Goals as goal

pub returns-then-f-j : goal.returns-then-f-j
returns-then-f-j c = in_last _ _ c.requires.0 c.requires.1 c.if-f-j.true

pub returns-in_default : goal.returns-in_default
returns-in_default c =
    in_alone _ _ c.requires.0 c.requires.1 (omega arith) c.letter.ensures c.in_default.is

pub returns : goal.returns
returns c =
    in_letter _ _ c.requires.0 c.requires.1 (omega arith) c.letter.ensures refl c.in-Some.is
