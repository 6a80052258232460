use mathlib.Core.Path.{refl}
use Rattle.reference_findings.proofs.Laws.{handed_ingredient, handed_cookware}
use Rattle.reference_findings.proofs.handed_down.Goals as goal

pub returns-in-Ingredient : goal.returns-in-Ingredient
returns-in-Ingredient c = handed_ingredient _ c.in-Ingredient.is refl

pub returns-in-Cookware : goal.returns-in-Cookware
returns-in-Cookware c = handed_cookware _ c.in-Cookware.is refl
