use Rattle.page_parts.proofs.Arms.{text_dropped, text_nothing, text_items_lem, text_piece_lem, text_mode}
use Rattle.page_parts.proofs.text_line.Goals as goal

pub returns-then-is_components : goal.returns-then-is_components
returns-then-is_components c = text_dropped c.args.f c.is_components.ensures c.if-is_components.true c.in-Step.is

pub returns-in-Nothing : goal.returns-in-Nothing
returns-in-Nothing c = text_nothing c.args.f c.in-Nothing.is

pub returns-else-is_components : goal.returns-else-is_components
returns-else-is_components c = text_items_lem c.args.f c.is_components.ensures c.if-is_components.false c.in-Step.is c.text_items.ensures

pub returns-in-Text : goal.returns-in-Text
returns-in-Text c = text_piece_lem c.args.f c.in-Text.is c.text_piece-count.ensures

pub returns-in-TextMode : goal.returns-in-TextMode
returns-in-TextMode c = text_mode c.args.f c.in-TextMode.is c.text_piece-count-in-TextMode.ensures
