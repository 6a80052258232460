use borrow.Author.Tests.{not-true, not-false}
use mathlib.Core.Path.{sym, ◌∙◌}
use Rattle.inline.proofs.Wide.{wide_stops}
use Rattle.inline.proofs.Scans.{going_start, going_stop, going_on, going_end}
use Rattle.inline.proofs.number_end.Goals as goal

pub loop-i-init : goal.loop-i-init
loop-i-init c = going_start _ _ _ c.requires.0 c.requires.1

pub returns-then-s-i-ge128 : goal.returns-then-s-i-ge128
returns-then-s-i-ge128 c = wide_stops c.loop-i.invariant c.loop-i-test.true c.if-s-i-ge128.true

pub returns-then-not-is_digit_or_point : goal.returns-then-not-is_digit_or_point
returns-then-not-is_digit_or_point c = going_stop c.loop-i.invariant _ c.loop-i-test.true c.char_in-c.ensures (sym c.is_digit_or_point.ensures ∙ not-true _ c.if-not-is_digit_or_point.true-raw)

pub loop-i-preserved : goal.loop-i-preserved
loop-i-preserved c = going_on c.loop-i.invariant _ c.loop-i-test.true c.char_in-c.ensures (sym c.is_digit_or_point.ensures ∙ not-false _ c.if-not-is_digit_or_point.false-raw)

pub returns : goal.returns
returns c = going_end c.loop-i.invariant c.loop-i-test.false
