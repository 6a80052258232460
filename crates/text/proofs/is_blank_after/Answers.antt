use borrow.Author.Tests.{le-ltb}
use Rattle.text.proofs.Singles.{none_after}
use Prim.Native.Nat.{◌+◌}
use Rattle.text.proofs.is_blank_after.Goals as goal

pub returns-else-i-w : goal.returns-else-i-w
returns-else-i-w c = rw (le-ltb _ _ c.if-i-w.false) (none_after c.args.w.now (c.args.at + 1) c.if-i-w.false)
