use Rattle.model.specs.declared.Kind.TheVariants.{Ingredient, Cookware}
use Rattle.plain_lines.proofs.Lines.{kind_line}
use Rattle.plain_lines.proofs.marked_line.Goals as goal

pub returns-in-Ingredient : goal.returns-in-Ingredient
returns-in-Ingredient c = kind_line _ Ingredient c.in-Ingredient.is c.marked_ingredient.ensures

pub returns-in-Cookware : goal.returns-in-Cookware
returns-in-Cookware c = kind_line _ Cookware c.in-Cookware.is c.marked_cookware.ensures
