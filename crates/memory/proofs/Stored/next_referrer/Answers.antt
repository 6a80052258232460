use Rattle.model.specs.Memory.{windows_of}
use Rattle.rules.specs.Model.{ingredient, cookware}
use Rattle.memory.proofs.Reading.{next_place}
use Rattle.memory.proofs.Stored.next_referrer.Goals as goal

pub returns-in-Ingredient : goal.returns-in-Ingredient
unfolding windows_of
returns-in-Ingredient c = rw c.in-Ingredient.is (next_place ingredient c.args.self.now.words.now c.args.self.now.held c.args.definition c.args.self.now.sound c.next_referrer.ensures)

pub returns-in-Cookware : goal.returns-in-Cookware
unfolding windows_of
returns-in-Cookware c = rw c.in-Cookware.is (next_place cookware c.args.self.now.words.now c.args.self.now.held c.args.definition c.args.self.now.sound c.next_referrer-in-Cookware.ensures)
