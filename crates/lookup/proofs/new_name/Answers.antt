use borrow.Author.Rules.{rules}
use Rattle.lookup.proofs.Parts.{new_cookware, new_ingredient}
use Rattle.lookup.proofs.new_name.Goals as goal

pub returns-in-Cookware : goal.returns-in-Cookware
returns-in-Cookware c = search (rules, new_cookware)

pub returns-in-Ingredient : goal.returns-in-Ingredient
returns-in-Ingredient c = search (rules, new_ingredient)
