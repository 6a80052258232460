use borrow.Author.Rules.{rules}
use Rattle.text.proofs.Trims.{dropped_white, dropped_other}
use Rattle.text.proofs.is_dropped.Goals as goal

pub returns-in-White : goal.returns-in-White
returns-in-White c = search (rules, dropped_white)

pub returns-in-NotAlphabetic : goal.returns-in-NotAlphabetic
returns-in-NotAlphabetic c = search (rules, dropped_other)
