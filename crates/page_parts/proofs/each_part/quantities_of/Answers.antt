use Rattle.page_parts.proofs.Timers.{quantities_nothing, quantities_text, quantities_mode, quantities_dropped, quantities_step}
use Rattle.page_parts.proofs.each_part.quantities_of.Goals as goal

pub returns-then-is_components : goal.returns-then-is_components
returns-then-is_components c = quantities_dropped c.args.f c.is_components.ensures c.if-is_components.true c.in-Step.is

pub returns-in-Nothing : goal.returns-in-Nothing
returns-in-Nothing c = quantities_nothing c.args.f c.in-Nothing.is

pub returns-else-is_components : goal.returns-else-is_components
returns-else-is_components c = quantities_step c.args.f c.is_components.ensures c.if-is_components.false c.in-Step.is c.inline_lines.ensures

pub returns-in-Text : goal.returns-in-Text
returns-in-Text c = quantities_text c.args.f c.in-Text.is

pub returns-in-TextMode : goal.returns-in-TextMode
returns-in-TextMode c = quantities_mode c.args.f c.in-TextMode.is
