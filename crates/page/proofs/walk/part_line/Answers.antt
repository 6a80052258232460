use Rattle.page.proofs.Turns.{turn_spans, turn_few, turn_taken}
use Rattle.page.proofs.walk.part_line.Goals as goal

pub draw_line-r-requires : goal.draw_line-r-requires
draw_line-r-requires c = (c.event_of-e.ensures, turn_spans c.event_of-e.ensures c.requires, c.requires.short)

pub follow_event-follow-requires : goal.follow_event-follow-requires
follow_event-follow-requires c = (c.event_of-e.ensures.within, c.requires.room, turn_few c.event_of-e.ensures c.draw_line-r.ensures c.requires)

pub returns : goal.returns
returns c = turn_taken c.event_of-e.ensures c.draw_line-r.ensures c.follow_event-follow.ensures
