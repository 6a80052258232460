use Rattle.std.proofs.result.Match.{err_is}
use Rattle.component_lines.proofs.Places.{ingredient_here}
use Rattle.component_lines.proofs.Ends.{kept_roomy, ingredient_refused, ingredient_named, ingredient_intermediate}
use Rattle.component_lines.proofs.on_ingredient.Goals as goal

pub returns-in_err-check_intermediate-clause-done : goal.returns-in_err-check_intermediate-clause-done
returns-in_err-check_intermediate-clause-done c = rw (err_is _ _ c.from_residual.ensures.1) (ingredient_refused _ _ _ _ _ _ _ _ c.in_err-check_intermediate.ensures)

pub named_line-requires : goal.named_line-requires
named_line-requires c = let p = c.requires in let q = kept_roomy p.3 in (ingredient_here _ p.0 p.1 p.2, p.3.fit, q.0, q.1, p.4)

pub intermediate_line-requires : goal.intermediate_line-requires
intermediate_line-requires c = let p = c.requires in let q = kept_roomy p.3 in (ingredient_here _ p.0 p.1 p.2, p.3.fit, q.0, q.1)

pub returns-in-None-clause-done : goal.returns-in-None-clause-done
returns-in-None-clause-done c = ingredient_named _ _ _ _ _ _ _ _ c.in_ok-check_intermediate.ensures c.in-None.is c.requires.3 c.named_line.ensures.done

pub returns-in-Some-clause-done : goal.returns-in-Some-clause-done
returns-in-Some-clause-done c = ingredient_intermediate _ _ _ _ _ _ _ _ c.in_ok-check_intermediate.ensures _ c.in-Some.is c.intermediate_line.ensures.done
