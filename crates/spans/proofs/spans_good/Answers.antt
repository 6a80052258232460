use Rattle.events.specs.declared.EventView.{EventView}
use Rattle.events.specs.Views.{event_in}
use Rattle.rules.specs.Event.{spans_of}
use Rattle.spans.proofs.Alls.{shown, no_span}
use Rattle.spans.proofs.spans_good.Goals as goal

pub returns-in-Between : goal.returns-in-Between
unfolding event_in
returns-in-Between c = λ line. shown (λ (v : EventView). spans_of (event_in line v)) c.in-Between.is (c.between_good.ensures line)

pub returns-in-Inside : goal.returns-in-Inside
unfolding event_in
returns-in-Inside c = λ line. shown (λ (v : EventView). spans_of (event_in line v)) c.in-Inside.is (c.inside_good.ensures line)

pub returns-in-Finding : goal.returns-in-Finding
unfolding event_in spans_of
returns-in-Finding c = λ line. shown (λ (v : EventView). spans_of (event_in line v)) c.in-Finding.is no_span
