use mathlib.Core.Path.{refl}
use Rattle.model.specs.Memory.{windows_of}
use Rattle.memory.proofs.Stored.rows.Goals as goal

pub returns-in-Ingredient : goal.returns-in-Ingredient
unfolding windows_of
returns-in-Ingredient c = rw c.in-Ingredient.is refl

pub returns-in-Cookware : goal.returns-in-Cookware
unfolding windows_of
returns-in-Cookware c = rw c.in-Cookware.is refl
