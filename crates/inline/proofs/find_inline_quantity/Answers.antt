use native.Mathlib.Omega.{arith}
use Rattle.inline.proofs.Turns.{sought_start, turn_none, turn_last, turn_less, turn_points, turn_unknown, turn_found}
use Rattle.inline.proofs.Lists.{along_first, along_end, along_linked, along_few, along_less, along_hit, along_on}
use Rattle.inline.proofs.find_inline_quantity.Goals as goal

pub numbers-init : goal.numbers-init
numbers-init c = sought_start _ _ _ c.requires.0 c.requires.1

pub next_digit-digit-requires : goal.next_digit-digit-requires
next_digit-digit-requires c = (c.numbers.invariant.end, c.numbers.invariant.left)

pub sign_start-number_from-requires : goal.sign_start-number_from-requires
sign_start-number_from-requires c = (c.next_digit-digit.ensures.from, c.next_digit-digit.ensures.to, c.next_digit-digit.ensures.whole)

pub number_end-number_to-requires : goal.number_end-number_to-requires
number_end-number_to-requires c = (c.next_digit-digit.ensures.to, c.next_digit-digit.ensures.left)

pub blanks_end-word-requires : goal.blanks_end-word-requires
blanks_end-word-requires c = (c.number_end-number_to.ensures.to, c.number_end-number_to.ensures.left)

pub word_end-after-requires : goal.word_end-after-requires
word_end-after-requires c = (c.blanks_end-word.ensures.to, c.blanks_end-word.ensures.left)

pub unit_part-span-requires : goal.unit_part-span-requires
unit_part-span-requires c = (c.word_end-after.ensures.from, c.word_end-after.ensures.to, c.word_end-after.ensures.whole)

pub slice_bounds-points-count : goal.slice_bounds-points-count
slice_bounds-points-count c = c.number_end-number_to.ensures.from

pub slice_bounds-points-start : goal.slice_bounds-points-start
slice_bounds-points-start c = omega (arith, c.number_end-number_to.ensures.from, c.number_end-number_to.ensures.to)

pub slice_bounds-points-end : goal.slice_bounds-points-end
slice_bounds-points-end c = c.number_end-number_to.ensures.to

pub slice_bounds-name-count : goal.slice_bounds-name-count
slice_bounds-name-count c = c.unit_part-span.ensures.order

pub slice_bounds-name-start : goal.slice_bounds-name-start
slice_bounds-name-start c = omega (arith, c.unit_part-span.ensures.order, c.unit_part-span.ensures.to, c.word_end-after.ensures.to)

pub slice_bounds-name-end : goal.slice_bounds-name-end
slice_bounds-name-end c = omega (arith, c.unit_part-span.ensures.to, c.word_end-after.ensures.to)

pub loop-p-init : goal.loop-p-init
loop-p-init c = along_first _ c.args.units.now.indexed c.first_of-p.ensures

pub is_named-requires : goal.is_named-requires
is_named-requires c = along_linked _ c.args.units.now.indexed c.loop-p.invariant c.loop-p-test.true

pub next_of-p-requires : goal.next_of-p-requires
next_of-p-requires c = along_few _ c.args.units.now.indexed c.loop-p.invariant c.loop-p-test.true

pub loop-p-smaller : goal.loop-p-smaller
loop-p-smaller c = along_less _ c.args.units.now.indexed c.loop-p.invariant c.loop-p-test.true c.next_of-p.ensures

pub loop-p-preserved : goal.loop-p-preserved
loop-p-preserved c = along_on _ c.args.units.now.indexed c.loop-p.invariant c.loop-p-test.true c.is_named.ensures c.if-is_named.false c.next_of-p.ensures

pub numbers-smaller-after-loop-p : goal.numbers-smaller-after-loop-p
numbers-smaller-after-loop-p c = omega (arith, turn_less c.numbers.invariant c.next_digit-digit.ensures c.if-digit-s.false c.sign_start-number_from.ensures c.number_end-number_to.ensures c.blanks_end-word.ensures c.if-word-s.false c.word_end-after.ensures c.unit_part-span.ensures, c.blanks_end-word.ensures.to, c.word_end-after.ensures.from, c.word_end-after.ensures.to)

pub numbers-preserved-after-loop-p : goal.numbers-preserved-after-loop-p
numbers-preserved-after-loop-p c = turn_unknown c.numbers.invariant c.next_digit-digit.ensures c.if-digit-s.false c.sign_start-number_from.ensures c.number_end-number_to.ensures c.blanks_end-word.ensures c.if-word-s.false c.word_end-after.ensures c.unit_part-span.ensures c.points.ensures (omega (arith, c.if-points-le1.true)) (along_end _ c.args.units.now.indexed c.loop-p.invariant c.loop-p-test.false)

pub numbers-smaller : goal.numbers-smaller
numbers-smaller c = omega (arith, turn_less c.numbers.invariant c.next_digit-digit.ensures c.if-digit-s.false c.sign_start-number_from.ensures c.number_end-number_to.ensures c.blanks_end-word.ensures c.if-word-s.false c.word_end-after.ensures c.unit_part-span.ensures, c.blanks_end-word.ensures.to, c.word_end-after.ensures.from, c.word_end-after.ensures.to)

pub numbers-preserved : goal.numbers-preserved
numbers-preserved c = turn_points c.numbers.invariant c.next_digit-digit.ensures c.if-digit-s.false c.sign_start-number_from.ensures c.number_end-number_to.ensures c.blanks_end-word.ensures c.if-word-s.false c.word_end-after.ensures c.unit_part-span.ensures c.points.ensures c.if-points-le1.false

pub returns-then-digit-s : goal.returns-then-digit-s
returns-then-digit-s c = turn_none c.numbers.invariant c.next_digit-digit.ensures c.if-digit-s.true

pub returns-then-word-s : goal.returns-then-word-s
returns-then-word-s c = turn_last c.numbers.invariant c.next_digit-digit.ensures c.if-digit-s.false c.sign_start-number_from.ensures c.number_end-number_to.ensures c.blanks_end-word.ensures c.if-word-s.true

pub returns-then-is_named : goal.returns-then-is_named
returns-then-is_named c = turn_found c.numbers.invariant c.next_digit-digit.ensures c.if-digit-s.false c.sign_start-number_from.ensures c.number_end-number_to.ensures c.blanks_end-word.ensures c.if-word-s.false c.word_end-after.ensures c.unit_part-span.ensures c.points.ensures (omega (arith, c.if-points-le1.true)) (along_hit _ c.args.units.now.indexed c.loop-p.invariant c.loop-p-test.true c.is_named.ensures c.if-is_named.true)
