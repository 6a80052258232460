use native.Mathlib.Omega.{arith}
use Rattle.rules.proofs.Basics.{no_truth}
use Rattle.sheet.proofs.Texts.{letter_follows, plain_on, letter_there, letter_on, starts_on, ill_formed, no_room, done}
use Rattle.sheet.proofs.unescape_into.Goals as goal

pub returns-in_default : goal.returns-in_default
returns-in_default c = ill_formed c.unescaped_len.ensures c.in_default.is

pub returns-then-out-k : goal.returns-then-out-k
returns-then-out-k c = no_room c.unescaped_len.ensures c.in-Some.is c.if-out-k.true

pub loop-i-init : goal.loop-i-init
loop-i-init c = (omega arith, starts_on c.unescaped_len.ensures c.in-Some.is)

pub bounds-f-j : goal.bounds-f-j
bounds-f-j c = letter_follows c.loop-i.invariant.1 c.loop-i-test.true c.if-c-eq92.true

pub returns-in_default-letter : goal.returns-in_default-letter
returns-in_default-letter c = no_truth (letter_there c.loop-i.invariant.1 c.loop-i-test.true c.if-c-eq92.true c.letter.ensures c.in_default-letter.is)

pub loop-i-preserved-then-c-eq92 : goal.loop-i-preserved-then-c-eq92
loop-i-preserved-then-c-eq92 c =
    let m = letter_follows c.loop-i.invariant.1 c.loop-i-test.true c.if-c-eq92.true in
    (omega arith, letter_on c.loop-i.invariant.1 c.loop-i-test.true c.if-c-eq92.true c.letter.ensures c.in-Some-letter.is c.put_byte-n.ensures)

pub loop-i-preserved : goal.loop-i-preserved
loop-i-preserved c = (omega arith, plain_on c.loop-i.invariant.1 c.loop-i-test.true c.if-c-eq92.false c.put_byte-n-else-c-eq92.ensures)

pub returns : goal.returns
returns c = done c.unescaped_len.ensures c.in-Some.is c.if-out-k.false c.loop-i.invariant.1 c.loop-i-test.false
