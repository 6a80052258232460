use Rattle.utf8.proofs.Bytes.{later_low, later_high}
use borrow.Author.Rules.{rules}
use Rattle.utf8.proofs.is_later.Goals as goal

pub returns-then-b-ge128 : goal.returns-then-b-ge128
returns-then-b-ge128 c = search (rules, later_high)

pub returns-else-b-ge128 : goal.returns-else-b-ge128
returns-else-b-ge128 c = search (rules, later_low)
