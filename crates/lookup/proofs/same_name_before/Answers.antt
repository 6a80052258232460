use Prim.Native.Nat.{◌-◌}
use native.Mathlib.Omega.{arith}
use Rattle.model.proofs.Windows.{has_row}
use Rattle.lookup.proofs.Names.{search_start, search_hit, search_miss, search_end}
use Rattle.lookup.proofs.same_name_before.Goals as goal

pub loop-k-init : goal.loop-k-init
loop-k-init c = search_start _ _ _ _ _ _

pub row_fits-requires : goal.row_fits-requires
row_fits-requires c = let v = c.loop-k.invariant in (has_row c.requires.0 (omega (arith, v.most)), c.requires.1.at (c.loop-k.k - 1) (omega (arith, v.most)))

pub returns-then-row_fits : goal.returns-then-row_fits
returns-then-row_fits c = search_hit c.loop-k.invariant c.loop-k-test.true c.row_fits.ensures c.if-row_fits.true

pub loop-k-preserved : goal.loop-k-preserved
loop-k-preserved c = search_miss c.loop-k.invariant c.loop-k-test.true c.row_fits.ensures c.if-row_fits.false

pub returns : goal.returns
returns c = search_end c.loop-k.invariant c.loop-k-test.false
