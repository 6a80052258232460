use Rattle.page_parts.proofs.Timers.{timer_ingredient, timer_cookware, timer_nothing, timer_text, timer_mode, timer_step, timer_fields}
use Rattle.page_parts.proofs.each_part.timer_of.Goals as goal

pub timer_line-requires : goal.timer_line-requires
timer_line-requires c = let w = timer_fields _ _ _ _ c.in-Timer.is c.requires in (w.0, w.1)

pub returns-in-Ingredient : goal.returns-in-Ingredient
returns-in-Ingredient c = timer_ingredient _ c.args.f _ _ c.in-Ingredient.is

pub returns-in-Cookware : goal.returns-in-Cookware
returns-in-Cookware c = timer_cookware _ c.args.f _ c.in-Cookware.is

pub returns-in-Nothing : goal.returns-in-Nothing
returns-in-Nothing c = timer_nothing _ c.args.f _ _ _ c.in-Timer.is c.in-Nothing.is

pub returns-in-Step : goal.returns-in-Step
returns-in-Step c = timer_step _ c.args.f _ _ _ c.in-Timer.is c.in-Step.is c.timer_line.ensures

pub returns-in-Text : goal.returns-in-Text
returns-in-Text c = timer_text _ c.args.f _ _ _ c.in-Timer.is c.in-Text.is

pub returns-in-TextMode : goal.returns-in-TextMode
returns-in-TextMode c = timer_mode _ c.args.f _ _ _ c.in-Timer.is c.in-TextMode.is
