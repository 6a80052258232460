use mathlib.Core.Path.{refl}
use Rattle.rules.specs.Read.{read_component}
use Rattle.parts.proofs.Sequence.{good_of, step, stop}
use Rattle.recall.proofs.Quantities.{not_ill, quantity_got_lem}
use Rattle.recall.proofs.quantity_in.Goals as goal

pub returns-in_err-span : goal.returns-in_err-span
unfolding read_component
returns-in_err-span c = not_ill _ c.requires (stop c.in_err-span.ensures _)

pub returns-in_err-name : goal.returns-in_err-name
unfolding read_component
returns-in_err-name c = not_ill _ c.requires (step c.in_ok-span.ensures _ (stop c.in_err-name.ensures _))

pub returns-in_err-alias : goal.returns-in_err-alias
unfolding read_component
returns-in_err-alias c = not_ill _ c.requires (step c.in_ok-span.ensures _ (step c.in_ok-name.ensures _ (stop c.in_err-alias.ensures _)))

pub returns-in_err-quantity : goal.returns-in_err-quantity
unfolding read_component
returns-in_err-quantity c = not_ill _ c.requires (step c.in_ok-span.ensures _ (step c.in_ok-name.ensures _ (step c.in_ok-alias.ensures _ (stop c.in_err-quantity.ensures _))))

pub returns : goal.returns
unfolding read_component
returns c =
    quantity_got_lem _ c.requires _ _ _ _ (step c.in_ok-span.ensures _ (step c.in_ok-name.ensures _ (step c.in_ok-alias.ensures _ (step c.in_ok-quantity.ensures _ refl)))) (good_of c.in_ok-quantity.ensures)
