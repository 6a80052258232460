use native.Mathlib.Omega.{arith}
use Prim.Native.Nat.{◌-◌}
use Rattle.utf8.proofs.Runs.{to_itself, further}
use Rattle.utf8.proofs.past_ascii.Goals as goal

pub loop-i-init : goal.loop-i-init
loop-i-init c = to_itself _ _ c.requires

pub returns-then-not-are_ascii : goal.returns-then-not-are_ascii
returns-then-not-are_ascii c = c.loop-i.invariant

pub loop-i-preserved : goal.loop-i-preserved
loop-i-preserved c = further c.loop-i.invariant (omega arith) _ c.are_ascii.ensures c.if-not-are_ascii.false-raw

pub returns : goal.returns
returns c = c.loop-i.invariant
