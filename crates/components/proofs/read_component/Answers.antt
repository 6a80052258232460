use Rattle.rules.specs.Read.{read_component}
use Rattle.components.specs.Views.{component_in}
use Rattle.parts.proofs.Sequence.{gives, reads, good_of, goes, ends}
use Rattle.components.proofs.read_component.Goals as goal

pub returns : goal.returns
unfolding read_component component_in
returns c = reads (goes c.in_ok-span.ensures _ (goes c.in_ok-name.ensures _ (goes c.in_ok-alias.ensures _ (goes c.in_ok-quantity.ensures _ (ends c.in_ok-note.ensures _ (goes c.in_ok-modifiers.ensures _ (goes c.in_ok-modifiers_span.ensures _ (gives _ _)))))))) (record { span = good_of c.in_ok-span.ensures; name = good_of c.in_ok-name.ensures; alias = good_of c.in_ok-alias.ensures; quantity = good_of c.in_ok-quantity.ensures; note = good_of c.in_ok-note.ensures; modifiers_span = good_of c.in_ok-modifiers_span.ensures })
