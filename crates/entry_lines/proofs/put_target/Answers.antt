use Rattle.entry_lines.proofs.Relations.{target_own, target_step_lem, target_section}
use Rattle.entry_lines.proofs.put_target.Goals as goal

pub returns-in-Ingredient : goal.returns-in-Ingredient
returns-in-Ingredient c = target_own _ c.in-Ingredient.is c.put_byte-n.ensures c.put_word.ensures

pub returns-in-Step : goal.returns-in-Step
returns-in-Step c = target_step_lem _ c.in-Step.is c.put_field.ensures

pub returns-in-Section : goal.returns-in-Section
returns-in-Section c = target_section _ c.in-Section.is c.put_field-in-Section.ensures
