use Rattle.rules.specs.Read.{read_quantity}
use Rattle.parts.specs.Views.{quantity_in}
use Rattle.parts.proofs.Sequence.{gives, reads, good_of, goes, ends}
use Rattle.parts.proofs.read_quantity.Goals as goal

pub returns : goal.returns
unfolding read_quantity quantity_in
returns c = reads (goes c.in_ok-span.ensures _ (goes c.in_ok-kind.ensures _ (goes c.in_ok-value_span.ensures _ (goes c.in_ok-value.ensures _ (goes c.in_ok-lock.ensures _ (ends c.in_ok-unit.ensures _ (gives _ _))))))) (record { span = good_of c.in_ok-span.ensures; value_span = good_of c.in_ok-value_span.ensures; value = good_of c.in_ok-value.ensures; unit = good_of c.in_ok-unit.ensures })
