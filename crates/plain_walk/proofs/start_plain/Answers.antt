use Rattle.plain_walk.proofs.Becomes.{start_text, start_mode, start_dropped, start_step}
use Rattle.plain_walk.proofs.start_plain.Goals as goal

pub returns-then-is_text : goal.returns-then-is_text
returns-then-is_text c = start_mode c.args.f c.in-Step.is c.is_text.ensures c.if-is_text.true

pub returns-then-is_components : goal.returns-then-is_components
returns-then-is_components c = start_dropped c.args.f c.in-Step.is c.is_text.ensures c.if-is_text.false c.is_components.ensures c.if-is_components.true

pub returns-else-is_components : goal.returns-else-is_components
returns-else-is_components c = start_step c.args.f c.in-Step.is c.is_text.ensures c.if-is_text.false c.is_components.ensures c.if-is_components.false

pub returns-in-Text : goal.returns-in-Text
returns-in-Text c = start_text c.args.f c.in-Text.is
