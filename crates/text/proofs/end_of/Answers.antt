use mathlib.Core.Path.{sym}
use lib.Seq.{length-take-le}
use Rattle.text.proofs.Backward.{going_ends, going_none, end_stays, end_goes}
use Rattle.text.proofs.Blanks.{drops_blank, blanks_go}
use Rattle.text.proofs.end_of.Goals as goal

pub loop-e-init : goal.loop-e-init
loop-e-init c = blanks_go _ (drops_blank _) c.blanks_end-e.ensures

pub slice_bounds-last_of-end : goal.slice_bounds-last_of-end
slice_bounds-last_of-end c = sym (length-take-le _ _ c.loop-e.invariant.most)

pub returns-in-Stays : goal.returns-in-Stays
returns-in-Stays c = end_stays _ c.loop-e.invariant c.last_of.ensures c.in-Stays.is

pub loop-e-smaller : goal.loop-e-smaller
loop-e-smaller c = (end_goes _ c.loop-e.invariant c.last_of.ensures c.in-Goes.is).less

pub loop-e-preserved : goal.loop-e-preserved
loop-e-preserved c = (end_goes _ c.loop-e.invariant c.last_of.ensures c.in-Goes.is).going

pub slice_bounds-forward_end-end : goal.slice_bounds-forward_end-end
slice_bounds-forward_end-end c = sym (length-take-le _ _ c.loop-e.invariant.most)

pub returns-in-Unclear : goal.returns-in-Unclear
returns-in-Unclear c = going_ends _ c.loop-e.invariant c.forward_end.ensures

pub returns : goal.returns
returns c = going_none _ c.loop-e.invariant c.loop-e-test.false
