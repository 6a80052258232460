use mathlib.Core.Path.{◌∙◌}
use Rattle.answers.proofs.Answers.{used_is}
use Rattle.answers.proofs.used.Goals as goal

pub returns : goal.returns
returns c = c.unwrap_or.ensures ∙ used_is c.args.r
