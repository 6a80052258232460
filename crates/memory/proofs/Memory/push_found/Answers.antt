use mathlib.Core.Path.{refl}
use Rattle.model.specs.Rows.{if_found}
use Rattle.memory.specs.Reports.{nothing}
use Rattle.memory.proofs.Reports.{reported_one}
use Rattle.memory.proofs.Memory.push_found.Goals as goal

pub returns-in_default-clause-found : goal.returns-in_default-clause-found
unfolding if_found
returns-in_default-clause-found c = rw c.in_default.is nothing

pub returns-in-Some-clause-found : goal.returns-in-Some-clause-found
unfolding if_found
returns-in-Some-clause-found c = rw c.in-Some.is (reported_one _ refl c.push_finding.ensures.finding)
