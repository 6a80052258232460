-- What the kinds of components stand for.
use Rattle.std.specs.Prelude.{ℕ}
use Rattle.rules.specs.Model as rules
use Rattle.model.specs.declared.Kind.{Kind}
use Rattle.model.specs.declared.Kind.TheVariants.{Ingredient, Cookware}
use Rattle.model.specs.declared.layout.TheConstants.{MOST_INGREDIENTS, MOST_COOKWARE, INGREDIENTS, COOKWARE, INGREDIENT_PAIRS, COOKWARE_PAIRS}

abbrev pub kind_of : Kind → rules.Kind
kind_of Ingredient = rules.ingredient
kind_of Cookware = rules.cookware

-- how many components of a kind work memory has rows for: one more than a recipe may have
abbrev pub room_of : rules.Kind → ℕ
room_of rules.ingredient = MOST_INGREDIENTS
room_of rules.cookware = MOST_COOKWARE

-- where its rows begin, and its pairs of definition and referrer
abbrev pub rows_from : rules.Kind → ℕ
rows_from rules.ingredient = INGREDIENTS
rows_from rules.cookware = COOKWARE

abbrev pub pairs_from : rules.Kind → ℕ
pairs_from rules.ingredient = INGREDIENT_PAIRS
pairs_from rules.cookware = COOKWARE_PAIRS
