use Rattle.std.specs.Prelude.{Option}
use Rattle.components.specs.Views.{intermediate_in, opt_intermediate_in}
use Rattle.rules.specs.Event.{intermediate_spans}
use Rattle.spans.proofs.Alls.{shown, no_span, one_span}
use Rattle.spans.proofs.opt_intermediate_good.Goals as goal
use Rattle.components.specs.declared.Intermediate.{Intermediate}

pub returns-in-None : goal.returns-in-None
unfolding intermediate_spans opt_intermediate_in intermediate_in
returns-in-None c = shown (λ (i : Option Intermediate). intermediate_spans (opt_intermediate_in i)) c.in-None.is no_span

pub returns-in-Some : goal.returns-in-Some
unfolding intermediate_spans opt_intermediate_in intermediate_in
returns-in-Some c = shown (λ (i : Option Intermediate). intermediate_spans (opt_intermediate_in i)) c.in-Some.is (one_span c.is_good_span.ensures)
