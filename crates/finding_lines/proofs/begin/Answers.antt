use Rattle.finding_lines.proofs.Texts.{place_in, place_out}
use Rattle.finding_lines.proofs.begin.Goals as goal

pub returns-then-at-out : goal.returns-then-at-out
returns-then-at-out c = place_in _ _ c.if-at-out.true

pub returns : goal.returns
returns c = place_out _ _ c.if-at-out.false
