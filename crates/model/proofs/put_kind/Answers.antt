use Rattle.model.proofs.put_kind.Goals as goal

pub returns : goal.returns
returns c = simp c.bit.ensures
