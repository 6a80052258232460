use Rattle.utf8.proofs.Turns.{ascii_char, wide_char_or}
use borrow.Author.Rules.{rules}
use Rattle.utf8.proofs.char_at.Goals as goal

pub returns-then-a-lt128 : goal.returns-then-a-lt128
returns-then-a-lt128 c = search (rules, ascii_char)

pub returns : goal.returns
returns c = rw (c.unwrap_or.ensures, c.wide_at.ensures) (wide_char_or _ _ c.requires)
