use Rattle.answers.proofs.Forms.{checked_over, checked_well}
use Rattle.answers.proofs.form_checked.Goals as goal

pub returns-then-tells_17 : goal.returns-then-tells_17
returns-then-tells_17 c = checked_over _ c.tells_17.ensures c.if-tells_17.true

pub returns : goal.returns
returns c = checked_well _ c.tells_17.ensures c.if-tells_17.false
