use Rattle.answers.proofs.Answers.{page_fits, page_long}
use Rattle.answers.proofs.hand_out.Goals as goal

pub returns-then-n-room : goal.returns-then-n-room
returns-then-n-room c = page_fits _ _ c.if-n-room.true

pub returns : goal.returns
returns c = page_long _ _ c.if-n-room.false
