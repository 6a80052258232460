use Rattle.rules.proofs.Basics.{no_truth}
use Rattle.fronts.proofs.Plain.{same_letter}
use Rattle.fronts.proofs.is_same_letter.Goals as goal

pub returns-then-x-y : goal.returns-then-x-y
returns-then-x-y c = λ e. no_truth e

pub returns-then-x-y-2 : goal.returns-then-x-y-2
returns-then-x-y-2 c = λ e. no_truth e

pub returns : goal.returns
returns c = λ e. same_letter _ _ c.if-x-y.false c.if-x-y-2.false c.is_letter.ensures e
