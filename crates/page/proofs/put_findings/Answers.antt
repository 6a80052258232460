use Rattle.page.proofs.Joins.{draw_given, findings_put}
use Rattle.page.proofs.put_findings.Goals as goal

pub put_old-requires : goal.put_old-requires
put_old-requires c = draw_given c.requires

pub returns : goal.returns
returns c = findings_put c.finding_lines-a.ensures c.put_old.ensures
