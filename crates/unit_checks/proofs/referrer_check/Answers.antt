use mathlib.Core.Path.{refl, ◌∙◌}
use borrow.Author.Tests.{not-false}
use Rattle.unit_checks.proofs.Units.{row_skipped, going_start, going_here, going_room, going_end, going_below, going_less, going_turn, going_skip}
use Rattle.units.proofs.Walks.{units_start}
use Rattle.unit_checks.proofs.referrer_check.Goals as goal

pub loop-i-init : goal.loop-i-init
loop-i-init c = (going_start c.args.memory.now.sound (rw (c.stored.ensures.words, c.stored.ensures.held) at c.first_referrer-place.ensures) c.requires.2 c.requires.4, c.requires.5, refl)

pub next_referrer-requires : goal.next_referrer-requires
next_referrer-requires c = rw c.stored-in-loop-i.ensures.held (going_here c.loop-i.invariant.0 c.requires.3)

pub returns-in_default-clause-done : goal.returns-in_default-clause-done
returns-in_default-clause-done c = going_end c.loop-i.invariant.0 (rw (c.stored-in-loop-i.ensures.words, c.stored-in-loop-i.ensures.held) at c.next_referrer.ensures) c.in_default.is

pub row_fits-requires : goal.row_fits-requires
row_fits-requires c = (c.loop-i.invariant.1, c.loop-i.invariant.0.fit, c.requires.1.code, going_below c.loop-i.invariant.0 (rw (c.stored-in-loop-i.ensures.words, c.stored-in-loop-i.ensures.held) at c.next_referrer.ensures) _ _ c.in-Some.is)

pub row_against-found-requires : goal.row_against-found-requires
row_against-found-requires c = (c.requires.0, c.loop-i.invariant.0.fit, going_below c.loop-i.invariant.0 (rw (c.stored-in-loop-i.ensures.words, c.stored-in-loop-i.ensures.held) at c.next_referrer.ensures) _ _ c.in-Some.is)

pub push_found-requires : goal.push_found-requires
push_found-requires c = going_room c.loop-i.invariant.0 (rw (c.stored-in-loop-i.ensures.words, c.stored-in-loop-i.ensures.held) at c.next_referrer.ensures) _ _ c.in-Some.is

pub loop-i-smaller-then-not-row_fits : goal.loop-i-smaller-then-not-row_fits
loop-i-smaller-then-not-row_fits c = going_less c.loop-i.invariant.0 (rw (c.stored-in-loop-i.ensures.words, c.stored-in-loop-i.ensures.held) at c.next_referrer.ensures) _ _ c.in-Some.is

pub loop-i-preserved-then-not-row_fits : goal.loop-i-preserved-then-not-row_fits
loop-i-preserved-then-not-row_fits c = (going_turn c.loop-i.invariant.0 (rw (c.stored-in-loop-i.ensures.words, c.stored-in-loop-i.ensures.held) at c.next_referrer.ensures) _ _ c.in-Some.is c.row_against-found.ensures c.push_found.ensures.found, c.row_fits.ensures.1, c.push_found.ensures.lent ∙ c.loop-i.invariant.2)

pub loop-i-smaller : goal.loop-i-smaller
loop-i-smaller c = going_less c.loop-i.invariant.0 (rw (c.stored-in-loop-i.ensures.words, c.stored-in-loop-i.ensures.held) at c.next_referrer.ensures) _ _ c.in-Some.is

pub loop-i-preserved : goal.loop-i-preserved
loop-i-preserved c =
    let below = going_below c.loop-i.invariant.0 (rw (c.stored-in-loop-i.ensures.words, c.stored-in-loop-i.ensures.held) at c.next_referrer.ensures) _ _ c.in-Some.is in (
      going_skip c.loop-i.invariant.0 (rw (c.stored-in-loop-i.ensures.words, c.stored-in-loop-i.ensures.held) at c.next_referrer.ensures) _ _ c.in-Some.is (row_skipped c.loop-i.invariant.0.fit below (units_start _ c.args.units.now.indexed.list) c.requires.1 c.row_fits.ensures.0 (not-false _ c.if-not-row_fits.false-raw)),
      c.row_fits.ensures.1,
      c.loop-i.invariant.2,
    )
