use native.Mathlib.Omega.{arith}
use mathlib.Core.Path.{refl}
use Rattle.unit_checks.proofs.After.{after_fit, after_below, after_room, done_at, done_none}
use Rattle.unit_checks.proofs.checks_after.Goals as goal

pub units_after-requires : goal.units_after-requires
units_after-requires c = (c.requires.0.quantity, c.requires.1, c.requires.2.below _ c.in-Some.is, omega (arith, c.requires.3), c.requires.4)

pub entry_check-requires : goal.entry_check-requires
entry_check-requires c = (c.requires.0, after_fit c.units_after.ensures.done c.requires.1, after_below c.units_after.ensures.done (c.requires.2.below _ c.in-Some.is), after_room c.units_after.ensures.done c.args.memory.now.sound c.requires.3)

pub returns-in_default-clause-done : goal.returns-in_default-clause-done
returns-in_default-clause-done c = done_none c.in_default.is

pub returns-in-Some-clause-done : goal.returns-in-Some-clause-done
returns-in-Some-clause-done c = done_at c.units_after.ensures.done refl c.in-Some.is c.entry_check.ensures.done
