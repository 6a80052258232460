use Rattle.step_lines.specs.Lines.{kind_word}
use Rattle.step_lines.specs.declared.ItemKind.TheVariants.{Ingredient, Cookware, Timer, Inline}
use Rattle.step_lines.proofs.Lines.{kind_put}
use mathlib.Core.Path.{refl}
use Rattle.step_lines.proofs.put_kind.Goals as goal

pub returns-in-Ingredient : goal.returns-in-Ingredient
unfolding kind_word
returns-in-Ingredient c = kind_put Ingredient c.in-Ingredient.is refl c.put_bytes.ensures

pub returns-in-Cookware : goal.returns-in-Cookware
unfolding kind_word
returns-in-Cookware c = kind_put Cookware c.in-Cookware.is refl c.put_bytes-in-Cookware.ensures

pub returns-in-Timer : goal.returns-in-Timer
unfolding kind_word
returns-in-Timer c = kind_put Timer c.in-Timer.is refl c.put_bytes-in-Timer.ensures

pub returns-in-Inline : goal.returns-in-Inline
unfolding kind_word
returns-in-Inline c = kind_put Inline c.in-Inline.is refl c.put_bytes-in-Inline.ensures
