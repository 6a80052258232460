use borrow.Author.Rules.{rules}
use Rattle.utf8.proofs.Runs.{to_itself}
use Rattle.utf8.proofs.past_wide.Goals as goal

pub returns : goal.returns
returns c = search (rules, to_itself)
