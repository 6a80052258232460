use Rattle.recall.specs.Recalls.{view_of}
use mathlib.Core.Path.{ap, sym, ◌∙◌}
use Rattle.recall.proofs.of_component.Goals as goal

pub returns-in-Ingredient : goal.returns-in-Ingredient
unfolding view_of
returns-in-Ingredient c = sym (ap view_of c.in-Ingredient.is)

pub returns-in-Cookware : goal.returns-in-Cookware
unfolding view_of
returns-in-Cookware c = sym (ap view_of c.in-Cookware.is)

pub returns-in-Timer : goal.returns-in-Timer
unfolding view_of
returns-in-Timer c = c.blank_view.ensures ∙ sym (ap view_of c.in-Timer.is)
