use Rattle.rules.specs.Model.{ingredient, cookware}
use Rattle.memory.proofs.Whole.{pair_pushed}
use Rattle.memory.proofs.Memory.push_pair.Goals as goal

pub invariant_of-self : goal.invariant_of-self
invariant_of-self c = record { sound = (pair_pushed ingredient c.args.self.now.sound c.args.definition c.args.referrer (rw c.in-Ingredient.is at c.requires.0) (rw c.in-Ingredient.is at c.requires.1) (rw c.in-Ingredient.is at c.requires.2) _ c.put_pair.ensures).sound }

pub invariant_of-self-in-Cookware : goal.invariant_of-self-in-Cookware
invariant_of-self-in-Cookware c = record { sound = (pair_pushed cookware c.args.self.now.sound c.args.definition c.args.referrer (rw c.in-Cookware.is at c.requires.0) (rw c.in-Cookware.is at c.requires.1) (rw c.in-Cookware.is at c.requires.2) _ c.put_pair-in-Cookware.ensures).sound }

pub returns-in-Ingredient-clause-pair : goal.returns-in-Ingredient-clause-pair
returns-in-Ingredient-clause-pair c = rw c.in-Ingredient.is (pair_pushed ingredient c.args.self.now.sound c.args.definition c.args.referrer (rw c.in-Ingredient.is at c.requires.0) (rw c.in-Ingredient.is at c.requires.1) (rw c.in-Ingredient.is at c.requires.2) _ c.put_pair.ensures)

pub returns-in-Cookware-clause-pair : goal.returns-in-Cookware-clause-pair
returns-in-Cookware-clause-pair c = rw c.in-Cookware.is (pair_pushed cookware c.args.self.now.sound c.args.definition c.args.referrer (rw c.in-Cookware.is at c.requires.0) (rw c.in-Cookware.is at c.requires.1) (rw c.in-Cookware.is at c.requires.2) _ c.put_pair-in-Cookware.ensures)
