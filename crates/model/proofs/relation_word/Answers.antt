use mathlib.Core.Path.{refl, sym, ap}
use Rattle.model.specs.Rows.{relation_word}
use Rattle.model.specs.declared.Target.TheVariants.{Ingredient, Step, Section}
use Rattle.model.proofs.Parts.{word_of}
use Rattle.model.proofs.relation_word.Goals as goal

pub returns-in-Definition : goal.returns-in-Definition
unfolding relation_word
returns-in-Definition c = sym (ap relation_word c.in-Definition.is)

pub returns-in-Ingredient : goal.returns-in-Ingredient
unfolding relation_word
returns-in-Ingredient c = word_of 1 _ _ Ingredient c.in-Reference.is c.in-Ingredient.is refl

pub returns-in-Step : goal.returns-in-Step
unfolding relation_word
returns-in-Step c = word_of 2 _ _ Step c.in-Reference.is c.in-Step.is refl

pub returns-in-Section : goal.returns-in-Section
unfolding relation_word
returns-in-Section c = word_of 3 _ _ Section c.in-Reference.is c.in-Section.is refl
