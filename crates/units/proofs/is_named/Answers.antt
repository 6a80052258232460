use native.Mathlib.Omega.{arith}
use Rattle.units.proofs.Walks.{named_other, named_same}
use Rattle.units.proofs.is_named.Goals as goal

pub returns-then-end-e : goal.returns-then-end-e
returns-then-end-e c = named_other c.args.units.now c.args.name.now c.args.at {e = c.args.end} c.requires.0 c.requires.1 (λ q. omega (arith, c.if-end-e.true))

pub returns : goal.returns
returns c = named_same _ _ _ c.if-end-e.false c.same_bytes.ensures
