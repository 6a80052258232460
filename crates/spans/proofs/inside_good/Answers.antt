use Rattle.events.specs.declared.Inside.{Inside}
use Rattle.events.specs.Views.{inside_in}
use Rattle.parts.specs.Views.{text_in}
use Rattle.rules.specs.Event.{spans_of, inside}
use Rattle.spans.proofs.Alls.{shown, no_span, one_span}
use Rattle.spans.proofs.inside_good.Goals as goal

pub returns-in-End : goal.returns-in-End
unfolding spans_of inside_in text_in
returns-in-End c = λ line. shown (λ (v : Inside). spans_of (inside (inside_in line v))) c.in-End.is no_span

pub returns-in-Text : goal.returns-in-Text
unfolding spans_of inside_in text_in
returns-in-Text c = λ line. shown (λ (v : Inside). spans_of (inside (inside_in line v))) c.in-Text.is (one_span c.is_good_span.ensures)

pub returns-in-Component : goal.returns-in-Component
unfolding spans_of inside_in text_in
returns-in-Component c = λ line. shown (λ (v : Inside). spans_of (inside (inside_in line v))) c.in-Component.is (c.component_event_good.ensures line)
