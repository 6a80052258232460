use Rattle.utf8.proofs.Bytes.{inside_byte}
use borrow.Author.Rules.{rules}
use Rattle.utf8.proofs.is_inside.Goals as goal

pub returns : goal.returns
returns c = search (rules, inside_byte)
