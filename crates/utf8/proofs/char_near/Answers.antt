use mathlib.Core.Path.{refl}
use Rattle.utf8.proofs.Turns.{wide_char}
use Rattle.utf8.proofs.Firsts.{three_at}
use Rattle.utf8.proofs.char_near.Goals as goal

pub returns-in-Some : goal.returns-in-Some
returns-in-Some c = wide_char _ _ c.requires _ (three_at _ _ c.requires _ refl _ _ refl c.if-a-ge224.true c.if-a-lt240.true c.three.ensures) _ c.in-Some.is
