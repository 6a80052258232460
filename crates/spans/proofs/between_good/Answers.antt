use Rattle.events.specs.declared.Between.{Between}
use Rattle.events.specs.Views.{between_in}
use Rattle.parts.specs.Views.{text_in}
use Rattle.rules.specs.Event.{spans_of, between}
use Rattle.spans.proofs.Alls.{shown, no_span, one_span, and_then}
use Rattle.spans.proofs.between_good.Goals as goal

pub returns-in-Meta : goal.returns-in-Meta
unfolding spans_of between_in text_in
returns-in-Meta c = λ line. shown (λ (v : Between). spans_of (between (between_in line v))) c.in-Meta.is (and_then (one_span c.is_good_span.ensures) (one_span c.is_good_span-in-Meta.ensures))

pub returns-in-Section : goal.returns-in-Section
unfolding spans_of between_in text_in
returns-in-Section c = λ line. shown (λ (v : Between). spans_of (between (between_in line v))) c.in-Section.is (c.opt_text_good.ensures line)

pub returns-in-Start : goal.returns-in-Start
unfolding spans_of between_in text_in
returns-in-Start c = λ line. shown (λ (v : Between). spans_of (between (between_in line v))) c.in-Start.is no_span
