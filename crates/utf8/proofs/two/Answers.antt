use Rattle.utf8.proofs.Bytes.{two_fault, two_char}
use borrow.Author.Rules.{rules}
use Rattle.utf8.proofs.two.Goals as goal

pub returns-then-not-is_second : goal.returns-then-not-is_second
returns-then-not-is_second c = search (rules, two_fault)

pub returns : goal.returns
returns c = search (rules, two_char)
