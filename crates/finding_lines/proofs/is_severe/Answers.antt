use Rattle.finding_lines.proofs.Parsers.{severe_yes, severe_no}
use Rattle.finding_lines.proofs.is_severe.Goals as goal

pub returns-in-Severe : goal.returns-in-Severe
returns-in-Severe c = severe_yes c.in-Severe.is

pub returns-in_default : goal.returns-in_default
returns-in_default c = severe_no c.in_default.not-Severe
