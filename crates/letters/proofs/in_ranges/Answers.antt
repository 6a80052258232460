use borrow.Author.Tests.{le-ltb}
use Rattle.letters.proofs.Places.{settle, settle_past}
use Rattle.letters.proofs.in_ranges.Goals as goal

pub returns-then-k-starts : goal.returns-then-k-starts
returns-then-k-starts c = settle _ _ _ _ c.lower_bound-k.ensures c.requires.0 c.requires.2 c.if-k-starts.true

pub returns-else-k-starts : goal.returns-else-k-starts
returns-else-k-starts c = rw (le-ltb _ _ c.if-k-starts.false) (settle_past _ _ _ _ c.lower_bound-k.ensures c.if-k-starts.false)
