use Rattle.recipe_components.proofs.Counts.{count_recipe, count_none, count_refused}
use Rattle.recipe_components.proofs.counts_of.Goals as goal

pub returns-in-Ok-Some : goal.returns-in-Ok-Some
returns-in-Ok-Some c = count_recipe c.in-Ok-Some.is (rw c.in-Ok-Some.is at c.in-Ok-Some.field-0-is)

pub returns-in-Ok-None : goal.returns-in-Ok-None
returns-in-Ok-None c = count_none c.in-Ok-None.is (rw c.in-Ok-None.is at c.in-Ok-None.field-0-is)

pub returns-in-Err : goal.returns-in-Err
returns-in-Err c = count_refused c.in-Err.is
