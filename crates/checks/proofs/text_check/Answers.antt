use Rattle.checks.proofs.Laws.{nothing_found, one_found, text_both, text_first, text_second, text_neither}
use Rattle.checks.proofs.text_check.Goals as goal

pub returns-then-b : goal.returns-then-b
returns-then-b c = nothing_found (text_both _ _ _ _ _ c.if-a.true c.if-b.true)

pub returns-then-a : goal.returns-then-a
returns-then-a c = one_found _ c.two_spans.ensures (text_first _ _ _ _ _ c.if-a.true c.if-b.false)

pub returns-then-b-2 : goal.returns-then-b-2
returns-then-b-2 c = one_found _ c.two_spans-then-b-2.ensures (text_second _ _ _ _ _ c.if-a.false c.if-b-2.true)

pub returns : goal.returns
returns c = nothing_found (text_neither _ _ _ _ _ c.if-a.false c.if-b-2.false)
