use Rattle.std.proofs.Common.{ap, ◌∙◌}
use Rattle.rules.specs.Basic.{on_some}
use Rattle.compatible.specs.Fitting.{code_of, unit_code}
use Rattle.compatible.proofs.unit_code.Goals as goal

pub returns-in-Some : goal.returns-in-Some
unfolding unit_code code_of on_some
returns-in-Some c = c.physical_code.ensures ∙ ap code_of c.in-Some.ensures

pub returns-in-None : goal.returns-in-None
unfolding unit_code code_of on_some
returns-in-None c = ap code_of c.in-None.ensures
