use borrow.Author.Rules.{rules}
use native.Mathlib.Omega.{arith}
use Rattle.memory.proofs.Reports.{found_count}
use Rattle.component_lines.proofs.Named.{checks_ready_at, lent_within, named_found}
use Rattle.component_lines.proofs.named_reports.Goals as goal

pub push_found-requires : goal.push_found-requires
push_found-requires c = omega (arith, c.requires.4)

pub reference_findings-requires : goal.reference_findings-requires
reference_findings-requires c = omega (arith, c.requires.4, found_count _ c.push_found.ensures.found)

pub slice_bounds-checks_after-count : goal.slice_bounds-checks_after-count
slice_bounds-checks_after-count c = let x = c.requires.0.whole in search (rules, x.order, x.most)

pub slice_bounds-checks_after-start : goal.slice_bounds-checks_after-start
slice_bounds-checks_after-start c = let x = c.requires.0.whole in search (rules, x.order, x.most)

pub slice_bounds-checks_after-end : goal.slice_bounds-checks_after-end
slice_bounds-checks_after-end c = let x = c.requires.0.whole in search (rules, x.order, x.most)

pub checks_after-requires : goal.checks_after-requires
checks_after-requires c = let p = c.requires in let q = checks_ready_at p.0 c.lock_finding.ensures c.push_found.ensures.found c.reference_findings.ensures.done c.args.memory.now.sound p.2 p.3 p.4 p.1 in (lent_within p.0, q.0, q.1, q.2, p.5)

pub returns-clause-done : goal.returns-clause-done
returns-clause-done c = named_found c.requires.0 c.lock_finding.ensures c.push_found.ensures.found c.reference_findings.ensures.done c.checks_after.ensures.done
