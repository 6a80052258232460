use mathlib.Core.Path.{refl}
use Rattle.blocks.proofs.Lines.{span_cookware, span_ingredient, span_timer}
use Rattle.blocks.proofs.component_span.Goals as goal

pub returns-in-Ingredient : goal.returns-in-Ingredient
returns-in-Ingredient c = span_ingredient _ _ c.in-Ingredient.is refl

pub returns-in-Cookware : goal.returns-in-Cookware
returns-in-Cookware c = span_cookware _ c.in-Cookware.is refl

pub returns-in-Timer : goal.returns-in-Timer
returns-in-Timer c = span_timer _ _ _ c.in-Timer.is refl
