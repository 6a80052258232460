use native.Mathlib.Omega.{arith}
use Rattle.memory.proofs.Reports.{found_count}
use Rattle.checks.proofs.Laws.{unit_within}
use Rattle.timers.proofs.Timers.{checks_none, checks_both}
use Rattle.timers.proofs.time_checks.Goals as goal

pub unit_finding-known-requires : goal.unit_finding-known-requires
unit_finding-known-requires c = unit_within _ _ _ c.requires.0 c.in-Some.is

pub push_found-requires-in-Some : goal.push_found-requires-in-Some
push_found-requires-in-Some c = omega (arith, c.requires.1, found_count _ c.push_found.ensures.found)

pub returns-in_default-clause-done : goal.returns-in_default-clause-done
returns-in_default-clause-done c = checks_none c.in_default.is

pub returns-in-Some-clause-done : goal.returns-in-Some-clause-done
returns-in-Some-clause-done c = checks_both _ _ _ c.in-Some.is c.text_finding-text.ensures c.push_found.ensures.found c.unit_finding-known.ensures c.push_found-in-Some.ensures.found
