use Rattle.rules.specs.Basic.{on_some}
use Rattle.rules.specs.Checks.{compatible_unit}
use Rattle.parts.specs.Views.{opt_text_in}
use Rattle.compatible.specs.Fitting.{told, unit_in}
use Rattle.compatible.proofs.Laws.{within_present, both_present, list_read}
use Rattle.compatible.proofs.compatible_unit.Goals as goal

pub returns-in-Some-Some : goal.returns-in-Some-Some
returns-in-Some-Some c =
    rw (c.in-Some-Some.is-0, c.in-Some-Some.is-1)
    (both_present _ _ _ (within_present _ _ _ c.requires.0 c.in-Some-Some.is-0) (within_present _ _ _ c.requires.1 c.in-Some-Some.is-1) c.text_part-x.ensures c.text_part-y.ensures (list_read _ _ _ c.args.units.now.indexed.list c.known_units.ensures))

pub returns-in-None-None : goal.returns-in-None-None
unfolding told compatible_unit unit_in opt_text_in on_some
returns-in-None-None c = rw (c.in-None-None.is-0, c.in-None-None.is-1)

pub returns-in_default : goal.returns-in_default
unfolding told compatible_unit unit_in opt_text_in on_some
returns-in_default c = rw (c.in_default.is-0, c.in_default.is-1)

pub returns-in_default-2 : goal.returns-in_default-2
unfolding told compatible_unit unit_in opt_text_in on_some
returns-in_default-2 c = rw (c.in_default.is-0, c.in_default.is-1)
