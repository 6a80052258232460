use Rattle.std.specs.Prelude.{Option}
use Rattle.parts.specs.Views.{quantity_in, opt_quantity_in}
use Rattle.rules.specs.Event.{quantity_spans}
use Rattle.spans.proofs.Alls.{shown, no_span, one_span, and_then}
use Rattle.spans.proofs.opt_quantity_good.Goals as goal
use Rattle.parts.specs.declared.QuantityView.{QuantityView}

pub returns-in-None : goal.returns-in-None
unfolding quantity_spans opt_quantity_in quantity_in
returns-in-None c = λ line. shown (λ (q : Option QuantityView). quantity_spans (opt_quantity_in line q)) c.in-None.is no_span

pub returns-in-Some : goal.returns-in-Some
unfolding quantity_spans opt_quantity_in quantity_in
returns-in-Some c = λ line. shown (λ (q : Option QuantityView). quantity_spans (opt_quantity_in line q)) c.in-Some.is (and_then (and_then (one_span c.is_good_span.ensures) (one_span c.is_good_span-in-Some.ensures)) (c.opt_text_good.ensures line))
