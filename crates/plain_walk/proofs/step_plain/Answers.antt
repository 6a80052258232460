use Rattle.plain_walk.proofs.Becomes.{step_dropped, step_end, step_text, step_component}
use Rattle.plain_walk.proofs.step_plain.Goals as goal

pub returns-then-is_components : goal.returns-then-is_components
returns-then-is_components c = step_dropped c.args.stored.now.words.now c.args.f c.is_components.ensures c.if-is_components.true

pub returns-in-End : goal.returns-in-End
returns-in-End c = step_end c.args.stored.now.words.now c.args.f c.is_components.ensures c.if-is_components.false _ c.in-End.is

pub returns-in-Text : goal.returns-in-Text
returns-in-Text c = step_text c.args.stored.now.words.now c.args.f c.is_components.ensures c.if-is_components.false _ c.in-Text.is

pub returns-in-Component : goal.returns-in-Component
returns-in-Component c = step_component c.args.stored.now.words.now c.args.f c.is_components.ensures c.if-is_components.false _ c.in-Component.is c.component_plain.ensures
