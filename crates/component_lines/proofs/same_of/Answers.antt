use Rattle.component_lines.proofs.Asked.{asked_found, asked_not}
use Rattle.component_lines.proofs.same_of.Goals as goal

pub returns-then-asks_same : goal.returns-then-asks_same
returns-then-asks_same c = asked_found c.asks_same.ensures c.if-asks_same.true (rw (c.stored.ensures.words, c.stored.ensures.held) at c.found_before.ensures)

pub returns : goal.returns
returns c = asked_not c.asks_same.ensures c.if-asks_same.false
