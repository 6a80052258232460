use Rattle.std.proofs.Common.{refl, arith}
use Rattle.parts.specs.Views.{span_in}
use Rattle.rules.specs.Read.{read_span}
use Rattle.parts.proofs.Sequence.{gives, reads, good_of, goes}
use Rattle.parts.proofs.read_span.Goals as goal

pub near_number-requires-then-line-at-gt11 : goal.near_number-requires-then-line-at-gt11
near_number-requires-then-line-at-gt11 c = omega (arith, c.in_ok-start.ensures.near _ _ refl)

pub returns-then-line-at-gt11 : goal.returns-then-line-at-gt11
unfolding read_span span_in
returns-then-line-at-gt11 c =
    let p = c.in_ok-start.ensures.reads in
    let q = c.in_ok-end.ensures.reads in
    reads (goes p _ (goes q _ (gives _ _))) (record { start = good_of p; end = good_of q })

pub returns : goal.returns
unfolding read_span span_in
returns c =
    let p = c.in_ok-start-2.ensures in
    let q = c.in_ok-end-2.ensures in
    reads (goes p _ (goes q _ (gives _ _))) (record { start = good_of p; end = good_of q })
