use borrow.Author.Tests.{eqb-true}
use Rattle.text.proofs.Pairs.{starts_sharp}
use Rattle.rules.proofs.Basics.{no_truth}
use Rattle.text.proofs.meets.starts_sharp.Goals as goal

pub returns-then-s-lt2 : goal.returns-then-s-lt2
returns-then-s-lt2 c = λ e. no_truth e

pub returns-then-s : goal.returns-then-s
returns-then-s c = λ e. no_truth e

pub returns-then-c-eq223 : goal.returns-then-c-eq223
returns-then-c-eq223 c = λ e. starts_sharp _ c.if-s-lt2.false c.kept_char-c.ensures c.if-c-eq223.true (eqb-true _ _ e)
