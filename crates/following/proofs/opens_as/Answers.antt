use Rattle.following.proofs.Follows.{opens_text, opens_step, opens_block}
use Rattle.following.proofs.opens_as.Goals as goal

pub returns-then-is_text : goal.returns-then-is_text
returns-then-is_text c = opens_text _ _ c.is_text.ensures c.if-is_text.true

pub returns-in-Step : goal.returns-in-Step
returns-in-Step c = opens_step _ c.is_text.ensures c.if-is_text.false c.in-Step.is

pub returns-in-Text : goal.returns-in-Text
returns-in-Text c = opens_block _ c.is_text.ensures c.if-is_text.false c.in-Text.is
