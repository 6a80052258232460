use Rattle.std.specs.Prelude.{Option}
use Rattle.parts.specs.Views.{text_in, opt_text_in}
use Rattle.rules.specs.Event.{text_spans}
use Rattle.spans.proofs.Alls.{shown, no_span, one_span}
use Rattle.spans.proofs.opt_text_good.Goals as goal
use Rattle.parts.specs.declared.TextView.{TextView}

pub returns-in-None : goal.returns-in-None
unfolding text_spans opt_text_in text_in
returns-in-None c = λ line. shown (λ (t : Option TextView). text_spans (opt_text_in line t)) c.in-None.is no_span

pub returns-in-Some : goal.returns-in-Some
unfolding text_spans opt_text_in text_in
returns-in-Some c = λ line. shown (λ (t : Option TextView). text_spans (opt_text_in line t)) c.in-Some.is (one_span c.is_good_span.ensures)
