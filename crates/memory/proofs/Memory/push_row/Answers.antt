use Rattle.rules.specs.Model.{ingredient, cookware}
use Rattle.memory.proofs.Whole.{row_pushed}
use Rattle.memory.proofs.Memory.push_row.Goals as goal

pub invariant_of-self : goal.invariant_of-self
invariant_of-self c = record { sound = (row_pushed ingredient c.args.self.now.sound c.args.row (rw c.in-Ingredient.is at c.requires) _ c.put_row.ensures).sound }

pub invariant_of-self-in-Cookware : goal.invariant_of-self-in-Cookware
invariant_of-self-in-Cookware c = record { sound = (row_pushed cookware c.args.self.now.sound c.args.row (rw c.in-Cookware.is at c.requires) _ c.put_row-in-Cookware.ensures).sound }

pub returns-in-Ingredient-clause-row : goal.returns-in-Ingredient-clause-row
returns-in-Ingredient-clause-row c = rw c.in-Ingredient.is (row_pushed ingredient c.args.self.now.sound c.args.row (rw c.in-Ingredient.is at c.requires) _ c.put_row.ensures)

pub returns-in-Cookware-clause-row : goal.returns-in-Cookware-clause-row
returns-in-Cookware-clause-row c = rw c.in-Cookware.is (row_pushed cookware c.args.self.now.sound c.args.row (rw c.in-Cookware.is at c.requires) _ c.put_row-in-Cookware.ensures)
