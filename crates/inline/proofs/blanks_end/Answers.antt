use borrow.Author.Tests.{not-true, not-false}
use mathlib.Core.Path.{sym, ◌∙◌}
use Rattle.inline.proofs.Wide.{solid_stops}
use Rattle.inline.proofs.Scans.{going_start, going_stop, going_on, going_end}
use Rattle.inline.proofs.blanks_end.Goals as goal

pub loop-i-init : goal.loop-i-init
loop-i-init c = going_start _ _ _ c.requires.0 c.requires.1

pub returns-then-is_solid : goal.returns-then-is_solid
returns-then-is_solid c = solid_stops c.loop-i.invariant c.loop-i-test.true c.is_solid.ensures c.if-is_solid.true

pub returns-then-not-is_white_space : goal.returns-then-not-is_white_space
returns-then-not-is_white_space c = going_stop c.loop-i.invariant _ c.loop-i-test.true c.char_in-c.ensures (sym c.is_white_space.ensures ∙ not-true _ c.if-not-is_white_space.true-raw)

pub loop-i-preserved : goal.loop-i-preserved
loop-i-preserved c = going_on c.loop-i.invariant _ c.loop-i-test.true c.char_in-c.ensures (sym c.is_white_space.ensures ∙ not-false _ c.if-not-is_white_space.false-raw)

pub returns : goal.returns
returns c = going_end c.loop-i.invariant c.loop-i-test.false
