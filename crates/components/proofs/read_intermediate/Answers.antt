use Rattle.rules.specs.Read.{read_intermediate}
use Rattle.components.specs.Views.{intermediate_in}
use Rattle.parts.proofs.Sequence.{gives, reads, good_of, goes}
use Rattle.components.proofs.read_intermediate.Goals as goal

pub returns : goal.returns
unfolding read_intermediate intermediate_in
returns c = reads (goes c.in_ok-relative.ensures _ (goes c.in_ok-target.ensures _ (goes c.in_ok-value.ensures _ (goes c.in_ok-span.ensures _ (gives _ _))))) (record { value = good_of c.in_ok-value.ensures; span = good_of c.in_ok-span.ensures })
