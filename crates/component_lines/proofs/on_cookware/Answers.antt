use Rattle.component_lines.proofs.Places.{cookware_here}
use Rattle.component_lines.proofs.Ends.{kept_roomy, cookware_done}
use Rattle.component_lines.proofs.on_cookware.Goals as goal

pub named_line-requires : goal.named_line-requires
named_line-requires c = let p = c.requires in let q = kept_roomy p.3 in (cookware_here p.0 p.1 p.2, p.3.fit, q.0, q.1, p.4)

pub returns-clause-done : goal.returns-clause-done
returns-clause-done c = cookware_done c.requires.3 c.named_line.ensures.done
