use Rattle.following.proofs.Follows.{counted_ingredient, counted_cookware, counted_timer}
use Rattle.following.proofs.count_component.Goals as goal

pub returns-in-Ingredient : goal.returns-in-Ingredient
returns-in-Ingredient c = counted_ingredient _ _ _ c.in-Ingredient.is

pub returns-in-Cookware : goal.returns-in-Cookware
returns-in-Cookware c = counted_cookware _ _ c.in-Cookware.is

pub returns-in-Timer : goal.returns-in-Timer
returns-in-Timer c = counted_timer _ _ _ _ c.in-Timer.is
