use Rattle.finding_lines.proofs.Texts.{parser_put}
use Rattle.finding_lines.proofs.finding_line.Goals as goal

pub returns-then-x : goal.returns-then-x
returns-then-x c = parser_put c.if-x.true c.parse_line.ensures

pub returns : goal.returns
returns c = c.pass_line.ensures
