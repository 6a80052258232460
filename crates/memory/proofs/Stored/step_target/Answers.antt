use Rattle.model.specs.Memory.{windows_of, state_of, state_in}
use Rattle.memory.proofs.Stored.step_target.Goals as goal

pub returns : goal.returns
unfolding state_in state_of windows_of
returns c = record { is = λ sheet. c.step_target.ensures }
