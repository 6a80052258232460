use Rattle.components.specs.Views.{component_in}
use Rattle.parts.specs.Views.{text_in}
use Rattle.rules.specs.Event.{named_spans}
use Rattle.spans.proofs.Alls.{one_span, and_then}
use Rattle.spans.proofs.component_good.Goals as goal

pub returns : goal.returns
unfolding named_spans component_in text_in
returns c = λ line. and_then (and_then (and_then (and_then (and_then (one_span c.is_good_span.ensures) (one_span c.is_good_span-2.ensures)) (c.opt_text_good.ensures line)) (c.opt_quantity_good.ensures line)) (c.opt_text_good-2.ensures line)) (one_span c.is_good_span-3.ensures)
