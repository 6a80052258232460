use Rattle.std.proofs.result.Match.{err_is}
use Rattle.plain_walk.proofs.FaultLines.{ready_step, inside_end, inside_text, component_none, component_text, component_mode, component_listed, component_step}
use Rattle.plain_walk.proofs.check_inside.Goals as goal

pub returns-in_err-check_define-in-Step : goal.returns-in_err-check_define-in-Step
returns-in_err-check_define-in-Step c = rw (err_is _ _ c.from_residual.ensures.1) (component_listed _ c.args.stored.now.words.now c.args.f _ c.in-Component.is c.in-Step.is c.check_define.ensures c.in_err-check_define-in-Step.was)

pub check_mark-requires : goal.check_mark-requires
check_mark-requires c = ready_step _ c.args.stored.now.words.now c.args.f _ c.in-Component.is c.in-Step.is c.requires

pub returns-in-End : goal.returns-in-End
returns-in-End c = inside_end _ c.args.stored.now.words.now c.args.f _ c.in-End.is

pub returns-in-Text : goal.returns-in-Text
returns-in-Text c = inside_text _ c.args.stored.now.words.now c.args.f _ c.in-Text.is

pub returns-in-Nothing : goal.returns-in-Nothing
returns-in-Nothing c = component_none _ c.args.stored.now.words.now c.args.f _ c.in-Component.is c.in-Nothing.is

pub returns-in_ok-check_define-in-Step : goal.returns-in_ok-check_define-in-Step
returns-in_ok-check_define-in-Step c = component_step _ c.args.stored.now.words.now c.args.f _ c.in-Component.is c.in-Step.is c.check_define.ensures c.in_ok-check_define-in-Step.was c.check_mark.ensures

pub returns-in-Text-b : goal.returns-in-Text-b
returns-in-Text-b c = component_text _ c.args.stored.now.words.now c.args.f _ c.in-Component.is c.in-Text-b.is

pub returns-in-TextMode : goal.returns-in-TextMode
returns-in-TextMode c = component_mode _ c.args.stored.now.words.now c.args.f _ c.in-Component.is c.in-TextMode.is
