use Rattle.timers.proofs.Timers.{items_room, timer_pushed_at}
use Rattle.timers.proofs.push_timer.Goals as goal

pub push_items-requires : goal.push_items-requires
push_items-requires c = items_room _ c.requires.1 c.count_timer-k.ensures

pub returns : goal.returns
returns c = timer_pushed_at c.requires.0 c.count_timer-k.ensures c.push_items.ensures
