use mathlib.Core.Path.{refl}
use Rattle.following.proofs.Follows.{arm, counter_dropped, counter_kept}
use Rattle.following.specs.Follow.{counter_after}
use Rattle.model.specs.declared.Open.{Open}
use Rattle.model.specs.declared.Open.TheVariants as block
use Rattle.following.proofs.counter_after.Goals as goal

pub returns-then-is_components : goal.returns-then-is_components
returns-then-is_components c = counter_dropped _ c.is_components.ensures c.if-is_components.true c.in-Step.is

pub returns-in-Nothing : goal.returns-in-Nothing
unfolding counter_after
returns-in-Nothing c = arm (λ (o : Open). counter_after o c.args.f) block.Nothing refl c.in-Nothing.is

pub returns-else-is_components : goal.returns-else-is_components
returns-else-is_components c = counter_kept _ c.is_components.ensures c.if-is_components.false c.in-Step.is

pub returns-in-Text : goal.returns-in-Text
unfolding counter_after
returns-in-Text c = arm (λ (o : Open). counter_after o c.args.f) block.Text refl c.in-Text.is

pub returns-in-TextMode : goal.returns-in-TextMode
unfolding counter_after
returns-in-TextMode c = arm (λ (o : Open). counter_after o c.args.f) block.TextMode refl c.in-TextMode.is
