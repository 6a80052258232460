use Rattle.page_parts.proofs.Arms.{end_nothing, end_step, end_text, end_mode}
use Rattle.page_parts.proofs.end_line.Goals as goal

pub returns-in-Nothing : goal.returns-in-Nothing
returns-in-Nothing c = end_nothing c.in-Nothing.is

pub returns-in-Step : goal.returns-in-Step
returns-in-Step c = end_step c.in-Step.is

pub returns-in-Text : goal.returns-in-Text
returns-in-Text c = end_text c.in-Text.is c.text_close.ensures

pub returns-in-TextMode : goal.returns-in-TextMode
returns-in-TextMode c = end_mode c.in-TextMode.is c.text_close-in-TextMode.ensures
