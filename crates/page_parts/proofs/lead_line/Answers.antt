use Rattle.page_parts.proofs.Arms.{put_arm, put_nothing}
use Rattle.following.specs.Drawn.{lead, step_line, text_lead}
use Rattle.model.specs.declared.Open.TheVariants as block
use Rattle.page_parts.proofs.lead_line.Goals as goal

pub returns-in-Nothing : goal.returns-in-Nothing
unfolding lead
returns-in-Nothing c = put_arm (lead _) block.Nothing c.in-Nothing.is put_nothing

pub returns-in-Step : goal.returns-in-Step
unfolding lead step_line
returns-in-Step c = put_arm (lead _) block.Step c.in-Step.is c.step_line.ensures

pub returns-in-Text : goal.returns-in-Text
unfolding lead text_lead
returns-in-Text c = put_arm (lead _) block.Text c.in-Text.is c.text_open.ensures

pub returns-in-TextMode : goal.returns-in-TextMode
unfolding lead text_lead
returns-in-TextMode c = put_arm (lead _) block.TextMode c.in-TextMode.is c.text_open-in-TextMode.ensures
