use Rattle.utf8.proofs.Bytes.{byte_past}
use borrow.Author.Rules.{rules}
use Rattle.utf8.proofs.byte.Goals as goal

pub returns : goal.returns
returns c = search (rules, byte_past)
