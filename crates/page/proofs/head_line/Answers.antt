use Rattle.page.proofs.Joins.{head_yes, head_no}
use Rattle.page.proofs.head_line.Goals as goal

pub returns-then-made : goal.returns-then-made
returns-then-made c = head_yes c.if-made.true c.put_bytes.ensures

pub returns : goal.returns
returns c = head_no c.if-made.false c.put_bytes-2.ensures
