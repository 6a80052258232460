use native.Mathlib.Omega.{arith}
use Rattle.memory.proofs.Reports.{reported_one, found_count}
use Rattle.reference_findings.proofs.Laws.{new_with_ref, new_alone, as_reference, as_definition}
use Rattle.reference_findings.proofs.reference_findings.Goals as goal

pub returns-then-explicit-clause-done : goal.returns-then-explicit-clause-done
returns-then-explicit-clause-done c = new_with_ref c.if-m.true c.if-explicit.true (reported_one _ c.one_span.ensures c.push_finding.ensures.finding)

pub returns-then-m-clause-done : goal.returns-then-m-clause-done
returns-then-m-clause-done c = new_alone c.is_some-is_found.ensures c.push_found.ensures.found c.if-m.true c.if-explicit.false c.redundant_new-found.ensures

pub push_found-requires-then-treat_as_reference : goal.push_found-requires-then-treat_as_reference
push_found-requires-then-treat_as_reference c = omega (arith, c.requires, found_count _ c.push_found-2.ensures.found)

pub returns-then-treat_as_reference-clause-done : goal.returns-then-treat_as_reference-clause-done
returns-then-treat_as_reference-clause-done c = as_reference c.is_some-is_found.ensures c.push_found-2.ensures.found c.if-m.false c.redundant_ref-found.ensures c.treat_as_reference.ensures c.if-treat_as_reference.true c.conflict_or_missing-found.ensures c.push_found-then-treat_as_reference.ensures.found

pub returns-else-treat_as_reference-clause-done : goal.returns-else-treat_as_reference-clause-done
returns-else-treat_as_reference-clause-done c = as_definition c.is_some-is_found.ensures c.push_found-2.ensures.found c.if-m.false c.redundant_ref-found.ensures c.treat_as_reference.ensures c.if-treat_as_reference.false
