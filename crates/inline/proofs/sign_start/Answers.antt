use mathlib.Core.Path.{refl}
use Rattle.inline.proofs.Signs.{sign_empty, sign_minus, sign_other}
use Rattle.inline.proofs.sign_start.Goals as goal

pub returns-then-digit-at : goal.returns-then-digit-at
returns-then-digit-at c = sign_empty _ _ _ c.requires.0 c.if-digit-at.true c.requires.2

pub returns-then-s-m-eq45 : goal.returns-then-s-m-eq45
returns-then-s-m-eq45 c = sign_minus _ _ _ _ c.requires.0 c.requires.1 c.requires.2 c.if-digit-at.false refl c.if-s-m-eq45.true

pub returns : goal.returns
returns c = sign_other _ _ _ _ c.requires.0 c.requires.1 c.requires.2 c.if-digit-at.false refl c.if-s-m-eq45.false
