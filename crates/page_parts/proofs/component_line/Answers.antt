use Rattle.page_parts.proofs.Arms.{component_nothing, component_text, component_dropped, component_item_lem, component_source, span_good}
use Rattle.page_parts.proofs.component_line.Goals as goal

pub returns-then-is_components : goal.returns-then-is_components
returns-then-is_components c = component_dropped _ c.args.f c.is_components.ensures c.if-is_components.true c.in-Step.is

pub source_piece-requires : goal.source_piece-requires
source_piece-requires c = span_good _ _ c.component_span-s.ensures c.requires

pub returns-in-Nothing : goal.returns-in-Nothing
returns-in-Nothing c = component_nothing _ c.args.f c.in-Nothing.is

pub returns-else-is_components : goal.returns-else-is_components
returns-else-is_components c = component_item_lem _ c.args.f c.is_components.ensures c.if-is_components.false c.in-Step.is c.item_line.ensures

pub returns-in-Text : goal.returns-in-Text
returns-in-Text c = component_text _ c.args.f c.in-Text.is

pub returns-in-TextMode : goal.returns-in-TextMode
returns-in-TextMode c = component_source _ c.args.f c.in-TextMode.is c.component_span-s.ensures c.source_piece.ensures
