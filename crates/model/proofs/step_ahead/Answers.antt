use Rattle.model.proofs.Searches.{ahead_step, ahead_text}
use Rattle.model.proofs.step_ahead.Goals as goal
use Rattle.model.proofs.step_ahead.Goals.{then-kinds-k-eq1+else-v-eq1, else-kinds-k-eq1}

pub loop-k-preserved : goal.loop-k-preserved
loop-k-preserved c = elim c.if-kinds-k-eq1.branch [
  | then-kinds-k-eq1+else-v-eq1 w ↦ rw w.v-is (ahead_step c.loop-k.invariant c.loop-k-test.true w.if-kinds-k-eq1.true w.if-v-eq1.false)
  | else-kinds-k-eq1 w ↦ rw w.v-is (ahead_text c.loop-k.invariant c.loop-k-test.true w.if-kinds-k-eq1.false)
]
