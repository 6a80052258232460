use Rattle.stored_cases.specs.Cases.{starts_with}
use Rattle.stored_cases.proofs.starts.Goals as goal

pub returns : goal.returns
unfolding starts_with
returns c = rw (← c.part.ensures) c.same_bytes.ensures
