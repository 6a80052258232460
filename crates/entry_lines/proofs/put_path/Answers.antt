use Rattle.entry_lines.proofs.Names.{path_ingredient, path_cookware, path_past, placed_own}
use Rattle.entry_lines.proofs.put_path.Goals as goal

pub put_ingredient_path-requires : goal.put_ingredient_path-requires
put_ingredient_path-requires c = (c.requires.0, placed_own c.in-Ingredient.is c.requires.1)

pub returns-in-Ingredient : goal.returns-in-Ingredient
returns-in-Ingredient c = path_ingredient _ c.in-Ingredient.is c.put_ingredient_path.ensures

pub returns-then-at-out : goal.returns-then-at-out
returns-then-at-out c = path_cookware _ c.in-Cookware.is c.if-at-out.true

pub returns-else-at-out : goal.returns-else-at-out
returns-else-at-out c = path_past _ c.in-Cookware.is c.if-at-out.false
