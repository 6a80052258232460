use native.Mathlib.Omega.{arith}
use Rattle.std.proofs.Common.{sym, ◌∙◌, true≢false}
use Rattle.rules.specs.Model.{ingredient}
use Rattle.memory.proofs.Reports.{reported_fit}
use Rattle.compatible.proofs.Laws.{trimmed_is}
use Rattle.unit_checks.proofs.Fitting.{unit_known}
use Rattle.unit_checks.proofs.Units.{row_below, row_left, check_none, check_reference, check_definition}
use Rattle.memory.proofs.Reading.{row_room}
use Rattle.unit_checks.proofs.unit_check.Goals as goal
use Rattle.unit_checks.proofs.unit_check.Goals.{in-Definition, in_default-matches}

pub returns-in_default-clause-done : goal.returns-in_default-clause-done
returns-in_default-clause-done c = check_none c.in_default.is

pub row-r-requires : goal.row-r-requires
row-r-requires c = row_room ingredient c.args.memory.now.sound c.requires.2

pub unit_against-found-requires : goal.unit_against-found-requires
unit_against-found-requires c = (c.requires.0, unit_known c.requires.0 c.unit_field-field.ensures c.number_of.ensures, c.requires.1, c.requires.4, c.requires.2)

pub push_found-requires : goal.push_found-requires
push_found-requires c = omega (arith, c.requires.3)

pub referrer_check-requires : goal.referrer_check-requires
referrer_check-requires c = (c.requires.0, unit_known c.requires.0 c.unit_field-field.ensures c.number_of.ensures, reported_fit c.push_found.ensures.found _ c.requires.1, row_below _ c.push_found.ensures.found c.requires.2, row_left _ c.push_found.ensures.found c.requires.3, c.unit_against-found.ensures.1)

pub returns-then-matches-clause-done : goal.returns-then-matches-clause-done
returns-then-matches-clause-done c =
    check_definition c.row-r.ensures c.unit_against-found.ensures.0 c.push_found.ensures.found (elim c.match-matches.branch [ in-Definition w ↦ w.in-Definition.is | in_default-matches w ↦ absurd (true≢false (sym c.if-matches.true ∙ w.matches-is)) ]) c.referrer_check.ensures.done

pub returns-else-matches-clause-done : goal.returns-else-matches-clause-done
returns-else-matches-clause-done c =
    check_reference c.row-r.ensures c.unit_against-found.ensures.0 c.push_found.ensures.found (elim c.match-matches.branch [ in-Definition w ↦ absurd (true≢false (sym w.matches-is ∙ c.if-matches.false)) | in_default-matches w ↦ w.in_default-matches.not-Definition ])

pub invariant_of-new : goal.invariant_of-new
invariant_of-new c = record { trims = record { is = trimmed_is c.text_outer_trimmed-trimmed.ensures } }
