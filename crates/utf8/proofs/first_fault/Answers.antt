use borrow.Author.Rules.{rules}
use native.Mathlib.Omega.{arith}
use mathlib.Core.Path.{refl}
use Prim.Native.Nat.{◌-◌}
use Rattle.rules.specs.Utf8.{first_fault}
use Rattle.utf8.proofs.Turns.{ascii_on, fault_at, char_least, char_most, char_on, checked_end}
use Rattle.utf8.proofs.Runs.{run_on}
use Rattle.utf8.proofs.first_fault.Goals as goal

pub loop-at-init : goal.loop-at-init
unfolding first_fault
loop-at-init c = (c.past_ascii-at.ensures.inside, run_on c.past_ascii-at.ensures refl)

pub loop-at-preserved-then-s-c-lt128 : goal.loop-at-preserved-then-s-c-lt128
loop-at-preserved-then-s-c-lt128 c = (omega (arith, c.if-c-s.true), (ascii_on _ _ c.if-c-s.true (ascii_on _ _ (omega (arith, c.if-c-s.true)) (ascii_on _ _ c.loop-at-test.true c.loop-at.invariant.1 c.if-a-lt128.true) c.if-s-b-lt128.true) c.if-s-c-lt128.true))

pub loop-at-preserved-else-s-c-lt128 : goal.loop-at-preserved-else-s-c-lt128
loop-at-preserved-else-s-c-lt128 c = (omega (arith, c.if-c-s.true), (ascii_on _ _ (omega (arith, c.if-c-s.true)) (ascii_on _ _ c.loop-at-test.true c.loop-at.invariant.1 c.if-a-lt128.true) c.if-s-b-lt128.true))

pub loop-at-preserved-else-s-b-lt128 : goal.loop-at-preserved-else-s-b-lt128
loop-at-preserved-else-s-b-lt128 c = search (rules, ascii_on)

pub loop-at-preserved-else-c-s : goal.loop-at-preserved-else-c-s
loop-at-preserved-else-c-s c = search (rules, ascii_on)

pub returns-then-n-eq0 : goal.returns-then-n-eq0
returns-then-n-eq0 c = search (rules, fault_at)

pub overflow_add-next : goal.overflow_add-next
overflow_add-next c = omega (arith, char_most c.args.s.now c.loop-at.at c.loop-at-test.true c.wide_size-n.result c.wide_size-n.ensures c.if-n-eq0.false)

pub past_wide-at-requires : goal.past_wide-at-requires
past_wide-at-requires c = char_most c.args.s.now c.loop-at.at c.loop-at-test.true c.wide_size-n.result c.wide_size-n.ensures c.if-n-eq0.false

pub loop-at-smaller : goal.loop-at-smaller
loop-at-smaller c = omega (arith, c.past_wide-at.ensures.from, c.past_wide-at.ensures.inside, char_least c.args.s.now c.loop-at.at c.loop-at-test.true c.wide_size-n.result c.wide_size-n.ensures c.if-n-eq0.false)

pub loop-at-preserved : goal.loop-at-preserved
loop-at-preserved c = (c.past_wide-at.ensures.inside, run_on c.past_wide-at.ensures (char_on c.args.s.now c.loop-at.at c.loop-at-test.true c.wide_size-n.result c.wide_size-n.ensures c.if-n-eq0.false c.loop-at.invariant.1))

pub returns : goal.returns
returns c = search (rules, checked_end)
