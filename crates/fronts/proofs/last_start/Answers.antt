use borrow.Author.Rules.{rules}
use Rattle.fronts.proofs.Ends.{start_ascii, start_high, start_none}
use Rattle.fronts.proofs.last_start.Goals as goal

pub returns-then-s-i-lt128 : goal.returns-then-s-i-lt128
returns-then-s-i-lt128 c = search (rules, start_ascii)

pub returns-then-s-i-gt191 : goal.returns-then-s-i-gt191
returns-then-s-i-gt191 c = search (rules, start_high)

pub returns : goal.returns
returns c = search (rules, start_none)
