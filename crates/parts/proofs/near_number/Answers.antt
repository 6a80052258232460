use Rattle.std.proofs.Common.{◌+◌, arith}
use Rattle.parts.proofs.Near.{first_digit, first_other, zero_ends, digit_on, digit_ends, digit_large}
use Rattle.parts.proofs.near_number.Goals as goal

pub returns-then-n-eq0 : goal.returns-then-n-eq0
returns-then-n-eq0 c =
    let line = c.args.line.now in
    let at = c.args.at in
    zero_ends line at (omega arith) _ c.figure-n.ensures c.if-n-eq0.true _ c.figure-b.ensures (omega (arith, c.shared_slice_known-3-1.given (at + 1))) _ c.number_end.ensures

pub returns-then-n-gt9 : goal.returns-then-n-gt9
returns-then-n-gt9 c =
    let line = c.args.line.now in
    let at = c.args.at in
    first_other line at (omega arith) _ c.figure-n.ensures c.if-n-gt9.true

pub returns-then-b-gt9 : goal.returns-then-b-gt9
returns-then-b-gt9 c =
    let line = c.args.line.now in
    let at = c.args.at in
    let d1 = first_digit line at (omega arith) _ c.figure-n.ensures c.if-n-eq0.false c.if-n-gt9.false in
    digit_ends d1 (omega arith) _ c.figure-b.ensures (omega (arith, c.shared_slice_known-3-1.given (at + 1))) (λ l. absurd (omega (arith, c.if-b-gt9.true))) (omega arith) _ c.number_end-then-b-gt9.ensures

pub returns-then-c-gt9 : goal.returns-then-c-gt9
returns-then-c-gt9 c =
    let line = c.args.line.now in
    let at = c.args.at in
    let d1 = first_digit line at (omega arith) _ c.figure-n.ensures c.if-n-eq0.false c.if-n-gt9.false in
    let d2 = digit_on d1 (omega arith) _ c.figure-b.ensures c.if-b-gt9.false (omega arith) in
    digit_ends d2 (omega arith) _ c.figure-c.ensures (omega (arith, c.shared_slice_known-4-1.given (at + 1 + 1))) (λ l. absurd (omega (arith, c.if-c-gt9.true))) (omega arith) _ c.number_end-then-c-gt9.ensures

pub returns-then-d-gt9 : goal.returns-then-d-gt9
returns-then-d-gt9 c =
    let line = c.args.line.now in
    let at = c.args.at in
    let d1 = first_digit line at (omega arith) _ c.figure-n.ensures c.if-n-eq0.false c.if-n-gt9.false in
    let d2 = digit_on d1 (omega arith) _ c.figure-b.ensures c.if-b-gt9.false (omega arith) in
    let d3 = digit_on d2 (omega arith) _ c.figure-c.ensures c.if-c-gt9.false (omega arith) in
    digit_ends d3 (omega arith) _ c.figure-d.ensures (omega (arith, c.shared_slice_known-5-1.given (at + 1 + 1 + 1))) (λ l. absurd (omega (arith, c.if-d-gt9.true))) (omega arith) _ c.number_end-then-d-gt9.ensures

pub returns-then-e-gt9 : goal.returns-then-e-gt9
returns-then-e-gt9 c =
    let line = c.args.line.now in
    let at = c.args.at in
    let d1 = first_digit line at (omega arith) _ c.figure-n.ensures c.if-n-eq0.false c.if-n-gt9.false in
    let d2 = digit_on d1 (omega arith) _ c.figure-b.ensures c.if-b-gt9.false (omega arith) in
    let d3 = digit_on d2 (omega arith) _ c.figure-c.ensures c.if-c-gt9.false (omega arith) in
    let d4 = digit_on d3 (omega arith) _ c.figure-d.ensures c.if-d-gt9.false (omega arith) in
    digit_ends d4 (omega arith) _ c.figure-e.ensures (omega (arith, c.shared_slice_known-6-1.given (at + 1 + 1 + 1 + 1))) (λ l. absurd (omega (arith, c.if-e-gt9.true))) (omega arith) _ c.number_end-then-e-gt9.ensures

pub returns-then-q-gt65535 : goal.returns-then-q-gt65535
returns-then-q-gt65535 c =
    let line = c.args.line.now in
    let at = c.args.at in
    let d1 = first_digit line at (omega arith) _ c.figure-n.ensures c.if-n-eq0.false c.if-n-gt9.false in
    let d2 = digit_on d1 (omega arith) _ c.figure-b.ensures c.if-b-gt9.false (omega arith) in
    let d3 = digit_on d2 (omega arith) _ c.figure-c.ensures c.if-c-gt9.false (omega arith) in
    let d4 = digit_on d3 (omega arith) _ c.figure-d.ensures c.if-d-gt9.false (omega arith) in
    digit_large d4 (omega arith) _ c.figure-e.ensures c.if-e-gt9.false c.if-q-gt65535.true

pub returns : goal.returns
returns c =
    let line = c.args.line.now in
    let at = c.args.at in
    let d1 = first_digit line at (omega arith) _ c.figure-n.ensures c.if-n-eq0.false c.if-n-gt9.false in
    let d2 = digit_on d1 (omega arith) _ c.figure-b.ensures c.if-b-gt9.false (omega arith) in
    let d3 = digit_on d2 (omega arith) _ c.figure-c.ensures c.if-c-gt9.false (omega arith) in
    let d4 = digit_on d3 (omega arith) _ c.figure-d.ensures c.if-d-gt9.false (omega arith) in
    let d5 = digit_on d4 (omega arith) _ c.figure-e.ensures c.if-e-gt9.false c.if-q-gt65535.false in
    digit_ends d5 (omega arith) _ c.figure-y.ensures (omega (arith, c.shared_slice_known-7-1.given (at + 1 + 1 + 1 + 1 + 1))) (λ l. omega (arith, c.if-n-eq0.false)) (omega arith) _ c.number_end-2.ensures
