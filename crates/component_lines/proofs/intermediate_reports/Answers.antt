use native.Mathlib.Omega.{arith}
use Rattle.memory.proofs.Reports.{reported_as, found_count}
use Rattle.component_lines.proofs.Whole.{intermediate_found}
use Rattle.component_lines.proofs.intermediate_reports.Goals as goal

pub push_found-requires : goal.push_found-requires
push_found-requires c = omega (arith, c.requires)

pub push_found-requires-2 : goal.push_found-requires-2
push_found-requires-2 c = omega (arith, c.requires, found_count _ c.push_found.ensures.found)

pub push_found-requires-3 : goal.push_found-requires-3
push_found-requires-3 c = omega (arith, c.requires, found_count _ c.push_found.ensures.found, found_count _ c.push_found-2.ensures.found)

pub returns-clause-done : goal.returns-clause-done
returns-clause-done c = intermediate_found c.lock_finding.ensures c.push_found.ensures.found c.intermediate_modifiers-marks.ensures c.push_found-2.ensures.found (reported_as c.push_found-3.ensures.found c.intermediate_findings.ensures)
