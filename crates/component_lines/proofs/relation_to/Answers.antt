use native.Mathlib.Omega.{arith}
use Rattle.component_lines.proofs.Rows.{related_alone, related_at}
use Rattle.component_lines.proofs.relation_to.Goals as goal

pub overflow_cast-result : goal.overflow_cast-result
overflow_cast-result c = record { fits = omega (arith, c.requires.below _ c.in-Some.is) }

pub returns-in-None : goal.returns-in-None
returns-in-None c = related_alone _ _ c.in-None.is

pub returns-in-Some : goal.returns-in-Some
returns-in-Some c = related_at _ _ _ c.in-Some.is
