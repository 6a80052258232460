use Rattle.std.specs.Prelude.{None}
use Rattle.model.specs.declared.Kind.TheVariants.{Ingredient, Cookware}
use Rattle.plain_walk.specs.Faults.{ComponentReady}
use Rattle.plain_walk.proofs.FaultLines.{fault_row, fault_timer}
use Rattle.plain_walk.proofs.check_mark.Goals as goal

pub check_row-requires : goal.check_row-requires
check_row-requires c = unfold ComponentReady in rw c.rows.ensures (rw c.in-Ingredient.is at c.requires)

pub check_row-requires-in-Cookware : goal.check_row-requires-in-Cookware
check_row-requires-in-Cookware c = unfold ComponentReady in rw c.rows-in-Cookware.ensures (rw c.in-Cookware.is at c.requires)

pub returns-in-Ingredient : goal.returns-in-Ingredient
returns-in-Ingredient c = fault_row _ c.args.stored.now.words.now c.args.f Ingredient _ _ c.in-Ingredient.is (rw c.rows.ensures at c.check_row.ensures)

pub returns-in-Cookware : goal.returns-in-Cookware
returns-in-Cookware c = fault_row _ c.args.stored.now.words.now c.args.f Cookware _ None c.in-Cookware.is (rw c.rows-in-Cookware.ensures at c.check_row-in-Cookware.ensures)

pub returns-in-Timer : goal.returns-in-Timer
returns-in-Timer c = fault_timer _ c.args.stored.now.words.now c.args.f _ _ _ c.in-Timer.is
