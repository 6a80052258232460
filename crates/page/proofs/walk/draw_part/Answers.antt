use native.Mathlib.Omega.{arith}
use Prim.Native.Nat.{◌+◌, ◌-◌, ◌^◌, ◌<◌}
use lib.ListN.{length}
use Rattle.page.proofs.Drawing.{walked_starts, walked_full, walked_ends, walked_cut, walked_ready, walked_fits, walked_next, end_fits}
use Rattle.page.proofs.walk.draw_part.Goals as goal

pub loop-from-init : goal.loop-from-init
loop-from-init c = walked_starts c.requires c.args.sheet.now.read c.begin-n.ensures c.first_follow-f.ensures

pub returns-then-out-n : goal.returns-then-out-n
returns-then-out-n c = walked_full c.requires c.loop-from.invariant c.if-out-n.true

pub returns-in_default : goal.returns-in_default
returns-in_default c = walked_cut c.requires c.loop-from.invariant c.line_end.ensures c.loop-from-test.true c.in_default.is

pub slice_bounds-line_turn-count-in-loop-from : goal.slice_bounds-line_turn-count-in-loop-from
slice_bounds-line_turn-count-in-loop-from c = omega (arith, (c.line_end.ensures.inside _ c.in-Some.is).0, (c.line_end.ensures.inside _ c.in-Some.is).1)

pub slice_bounds-line_turn-start-in-loop-from : goal.slice_bounds-line_turn-start-in-loop-from
slice_bounds-line_turn-start-in-loop-from c = omega (arith, (c.line_end.ensures.inside _ c.in-Some.is).0, (c.line_end.ensures.inside _ c.in-Some.is).1)

pub slice_bounds-line_turn-end-in-loop-from : goal.slice_bounds-line_turn-end-in-loop-from
slice_bounds-line_turn-end-in-loop-from c = omega (arith, (c.line_end.ensures.inside _ c.in-Some.is).0, (c.line_end.ensures.inside _ c.in-Some.is).1)

pub line_turn-r-requires : goal.line_turn-r-requires
line_turn-r-requires c = walked_ready c.requires c.loop-from.invariant c.line_end.ensures c.in-Some.is

pub overflow_add-n : goal.overflow_add-n
overflow_add-n c = let b : length c.args.out.now + 1 < 2 ^ 64 = omega (arith, c.well_formed.1.1.1.1.1.0.1) in record { fits = walked_fits c.requires c.loop-from.invariant c.line_end.ensures c.in-Some.is c.if-out-n.false c.line_turn-r.ensures b }

pub overflow_add-from : goal.overflow_add-from
overflow_add-from c = record { fits = end_fits (c.line_end.ensures.inside _ c.in-Some.is).1 c.requires.sheet_short }

pub loop-from-smaller : goal.loop-from-smaller
loop-from-smaller c = omega (arith, (c.line_end.ensures.inside _ c.in-Some.is).0, (c.line_end.ensures.inside _ c.in-Some.is).1)

pub loop-from-preserved : goal.loop-from-preserved
loop-from-preserved c = walked_next c.requires c.loop-from.invariant c.line_end.ensures c.in-Some.is c.if-out-n.false c.line_turn-r.ensures

pub returns : goal.returns
returns c = walked_ends c.requires c.loop-from.invariant c.loop-from-test.false
