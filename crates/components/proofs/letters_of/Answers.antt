use Rattle.components.proofs.Leaves.{places_ill, places_set}
use Rattle.components.proofs.letters_of.Goals as goal

pub returns-then-a5-f : goal.returns-then-a5-f
returns-then-a5-f c = places_ill c.after_letter-a1.ensures c.after_letter-a2.ensures c.after_letter-a3.ensures c.after_letter-a4.ensures c.after_letter-a5.ensures c.if-a5-f.true

pub returns : goal.returns
returns c = places_set c.after_letter-a1.ensures c.after_letter-a2.ensures c.after_letter-a3.ensures c.after_letter-a4.ensures c.after_letter-a5.ensures c.if-a5-f.false c.is_letter-recipe.ensures c.is_letter-reference.ensures c.is_letter-hidden.ensures c.is_letter-opt.ensures c.is_letter-new.ensures
