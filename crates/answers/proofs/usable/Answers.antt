use native.Mathlib.Omega.{arith}
use mathlib.Core.Path.{◌∙◌}
use Rattle.answers.proofs.Answers.{usable_least}
use Rattle.answers.proofs.usable.Goals as goal

pub returns : goal.returns
returns c = (c.min.ensures ∙ usable_least c.args.room, omega (arith, c.min.ensures))
