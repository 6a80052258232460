use Rattle.page_parts.proofs.Arms.{item_ingredient, item_cookware, item_timer}
use Rattle.page_parts.proofs.item_line.Goals as goal

pub returns-in-Ingredient : goal.returns-in-Ingredient
returns-in-Ingredient c = item_ingredient c.args.f _ _ c.in-Ingredient.is c.item_line.ensures

pub returns-in-Cookware : goal.returns-in-Cookware
returns-in-Cookware c = item_cookware c.args.f _ c.in-Cookware.is c.item_line-in-Cookware.ensures

pub returns-in-Timer : goal.returns-in-Timer
returns-in-Timer c = item_timer c.args.f _ _ _ c.in-Timer.is c.item_line-in-Timer.ensures
