use Rattle.memory.proofs.Memory.row.Goals as goal

pub returns : goal.returns
returns c = rw c.stored.ensures.words at c.row.ensures
