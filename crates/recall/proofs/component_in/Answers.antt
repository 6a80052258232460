use Rattle.recall.proofs.Laws.{recall_event}
use Rattle.recall.proofs.component_in.Goals as goal

pub returns : goal.returns
returns c = recall_event c.event_of-e.ensures c.of_event.ensures
