use Rattle.page.proofs.Lines.{event_is}
use Rattle.page.proofs.Idle.{turn_idle, turn_read}
use Rattle.page.proofs.walk.line_turn.Goals as goal

pub returns-then-is_idle : goal.returns-then-is_idle
returns-then-is_idle c = turn_idle _ c.requires.whole c.is_idle.ensures c.if-is_idle.true

pub returns : goal.returns
returns c = turn_read (event_is _ c.requires.known).is c.part_line.ensures
