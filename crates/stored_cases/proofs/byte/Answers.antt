use borrow.Author.Rules.{rules}
use Rattle.stored_cases.proofs.Places.{byte_past}
use Rattle.stored_cases.proofs.byte.Goals as goal

pub returns : goal.returns
returns c = search (rules, byte_past)
