use Rattle.page.proofs.Joins.{failed_put}
use Rattle.page.proofs.failed_page.Goals as goal

pub returns : goal.returns
returns c = failed_put c.head_line-a.ensures c.parsed_lines.ensures
