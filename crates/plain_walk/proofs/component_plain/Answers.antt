use native.Mathlib.Omega.{arith}
use Rattle.std.specs.Prelude.{None}
use Rattle.model.specs.declared.Kind.TheVariants.{Ingredient, Cookware}
use Rattle.plain_walk.proofs.Becomes.{row_told, timer_kept}
use Rattle.plain_walk.proofs.component_plain.Goals as goal

pub row_plain-requires : goal.row_plain-requires
row_plain-requires c = omega (arith, c.requires.ingredients)

pub row_plain-requires-in-Cookware : goal.row_plain-requires-in-Cookware
row_plain-requires-in-Cookware c = omega (arith, c.requires.cookware)

pub returns-in-Ingredient : goal.returns-in-Ingredient
returns-in-Ingredient c = row_told c.args.stored.now.words.now c.args.f Ingredient _ _ c.in-Ingredient.is c.row_plain.ensures

pub returns-in-Cookware : goal.returns-in-Cookware
returns-in-Cookware c = row_told c.args.stored.now.words.now c.args.f Cookware _ None c.in-Cookware.is c.row_plain-in-Cookware.ensures

pub returns-in-Timer : goal.returns-in-Timer
returns-in-Timer c = timer_kept c.args.stored.now.words.now c.args.f _ _ _ c.in-Timer.is
