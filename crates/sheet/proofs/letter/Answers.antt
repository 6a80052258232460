use Rattle.std.proofs.Common.{rules}
use Rattle.rules.specs.Sheet.{escaped}
use Rattle.sheet.proofs.Texts.{letter_other}
use Rattle.sheet.proofs.letter.Goals as goal

pub returns-in-92 : goal.returns-in-92
unfolding escaped
returns-in-92 c = rw c.in-92.is

pub returns-in-116 : goal.returns-in-116
unfolding escaped
returns-in-116 c = rw c.in-116.is

pub returns-in-110 : goal.returns-in-110
unfolding escaped
returns-in-110 c = rw c.in-110.is

pub returns-in-114 : goal.returns-in-114
unfolding escaped
returns-in-114 c = rw c.in-114.is

pub returns-in_default : goal.returns-in_default
returns-in_default c = letter_other c.args.c (search rules) (search rules) (search rules) (search rules)
