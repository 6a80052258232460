use native.Mathlib.Omega.{arith}
use Rattle.inline.proofs.Scans.{going_start, going_stop, going_on, going_end, stops_at, goes_by}
use Rattle.rules.specs.Text.{is_not_alphabetic}
use Rattle.inline.proofs.letters_start.Goals as goal

pub loop-i-init : goal.loop-i-init
loop-i-init c = going_start _ _ _ (omega arith) c.requires

pub returns-then-is_alphabetic : goal.returns-then-is_alphabetic
unfolding is_not_alphabetic
returns-then-is_alphabetic c = going_stop c.loop-i.invariant _ c.loop-i-test.true c.char_in-c.ensures (stops_at c.is_alphabetic.ensures c.if-is_alphabetic.true)

pub loop-i-preserved : goal.loop-i-preserved
unfolding is_not_alphabetic
loop-i-preserved c = going_on c.loop-i.invariant _ c.loop-i-test.true c.char_in-c.ensures (goes_by c.is_alphabetic.ensures c.if-is_alphabetic.false)

pub returns : goal.returns
returns c = going_end c.loop-i.invariant c.loop-i-test.false
