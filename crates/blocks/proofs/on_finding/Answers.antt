use Rattle.blocks.proofs.Lines.{severe_is, mild_is, found_one, found_parsed}
use Rattle.blocks.proofs.on_finding.Goals as goal
use Rattle.blocks.proofs.on_finding.Goals.{in-Severe, in_default}

pub returns-clause-done : goal.returns-clause-done
returns-clause-done c =
    found_one c.args.memory.now.sound c.push_finding.ensures.finding
    (found_parsed _ _ (elim c.match-matches.branch [ in-Severe w ↦ severe_is _ w.in-Severe.is w.matches-is | in_default w ↦ mild_is _ w.in_default.not-Severe w.matches-is ]) c.of_parser-x.ensures)
