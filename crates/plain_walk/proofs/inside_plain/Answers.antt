use Rattle.model.specs.declared.Open.TheVariants as block
use Rattle.plain_walk.proofs.Becomes.{block_nothing, block_text, block_is}
use Rattle.plain_walk.proofs.inside_plain.Goals as goal

pub returns-in-Nothing : goal.returns-in-Nothing
returns-in-Nothing c = block_is c.args.stored.now.words.now c.args.f block.Nothing c.in-Nothing.is (block_nothing _ _)

pub returns-in-Step : goal.returns-in-Step
returns-in-Step c = block_is c.args.stored.now.words.now c.args.f block.Step c.in-Step.is c.step_plain.ensures

pub returns-in-Text : goal.returns-in-Text
returns-in-Text c = block_is c.args.stored.now.words.now c.args.f block.Text c.in-Text.is (block_text _ _)

pub returns-in-TextMode : goal.returns-in-TextMode
returns-in-TextMode c = block_is c.args.stored.now.words.now c.args.f block.TextMode c.in-TextMode.is (c.text_plain.ensures.at c.args.stored.now.words.now c.args.f)
