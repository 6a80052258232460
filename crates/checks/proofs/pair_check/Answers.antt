use Rattle.memory.proofs.Reports.{reported_as}
use Rattle.checks.proofs.Laws.{when_room, pair_checked}
use Rattle.checks.proofs.pair_check.Goals as goal

pub push_found-requires-2 : goal.push_found-requires-2
push_found-requires-2 c = when_room _ _ (reported_as c.push_found.ensures.found c.conflict_check-conflict.ensures) c.requires

pub returns-clause-done : goal.returns-clause-done
returns-clause-done c =
    pair_checked c.is_textual-x.ensures c.is_textual-y.ensures (reported_as c.push_found.ensures.found c.conflict_check-conflict.ensures) (reported_as c.push_found-2.ensures.found c.text_check-text.ensures)
