use mathlib.Core.Path.{refl}
use Rattle.following.proofs.Follows.{arm, keeps_step, keeps_text}
use Rattle.following.specs.Drawn.{keeps}
use Rattle.model.specs.declared.Open.TheVariants as block
use Rattle.following.proofs.keeps_block.Goals as goal

pub returns-in-Nothing : goal.returns-in-Nothing
unfolding keeps
returns-in-Nothing c = arm (keeps _) block.Nothing refl c.in-Nothing.is

pub returns-in-Step : goal.returns-in-Step
returns-in-Step c = keeps_step _ c.is_components.ensures c.in-Step.is

pub returns-in-Text : goal.returns-in-Text
returns-in-Text c = keeps_text _ c.in-Text.is
