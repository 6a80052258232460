use Rattle.events.specs.declared.ComponentEvent.{ComponentEvent}
use Rattle.events.specs.Views.{component_event_in}
use Rattle.rules.specs.Event.{component_spans}
use Rattle.spans.proofs.Alls.{shown, one_span, and_then}
use Rattle.spans.proofs.component_event_good.Goals as goal

pub returns-in-Ingredient : goal.returns-in-Ingredient
unfolding component_spans component_event_in
returns-in-Ingredient c = λ line. shown (λ (v : ComponentEvent). component_spans (component_event_in line v)) c.in-Ingredient.is (and_then (c.component_good.ensures line) c.opt_intermediate_good.ensures)

pub returns-in-Cookware : goal.returns-in-Cookware
unfolding component_spans component_event_in
returns-in-Cookware c = λ line. shown (λ (v : ComponentEvent). component_spans (component_event_in line v)) c.in-Cookware.is (c.component_good-in-Cookware.ensures line)

pub returns-in-Timer : goal.returns-in-Timer
unfolding component_spans component_event_in
returns-in-Timer c = λ line. shown (λ (v : ComponentEvent). component_spans (component_event_in line v)) c.in-Timer.is (and_then (and_then (one_span c.is_good_span.ensures) (c.opt_text_good.ensures line)) (c.opt_quantity_good.ensures line))
