use borrow.Author.Tests.{lt-ltb, le-ltb}
use Rattle.unit_codes.specs.Codes.{code_in}
use Rattle.unit_codes.proofs.code_in.Goals as goal

pub returns-then-w-lt16 : goal.returns-then-w-lt16
unfolding code_in
returns-then-w-lt16 c = rw (lt-ltb _ 16 c.if-w-lt16.true)

pub returns : goal.returns
unfolding code_in
returns c = rw (le-ltb _ 16 c.if-w-lt16.false)
