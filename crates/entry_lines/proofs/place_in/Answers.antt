use Rattle.entry_lines.proofs.Names.{placed_ingredient, placed_cookware}
use Rattle.entry_lines.proofs.place_in.Goals as goal

pub returns-in-Ingredient : goal.returns-in-Ingredient
returns-in-Ingredient c = placed_ingredient c.in-Ingredient.is c.name_place.ensures

pub returns-in-Cookware : goal.returns-in-Cookware
returns-in-Cookware c = placed_cookware _ c.in-Cookware.is
