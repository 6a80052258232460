use Rattle.text.proofs.Pairs.{wide_seam}
use Rattle.fronts.proofs.Seams.{seam_none}
use Rattle.text.proofs.meets.wide_pair.Goals as goal

pub returns-then-is_empty : goal.returns-then-is_empty
returns-then-is_empty c = seam_none _ _

pub returns-then-a-b : goal.returns-then-a-b
returns-then-a-b c = seam_none _ _

pub returns-then-x-y : goal.returns-then-x-y
returns-then-x-y c = seam_none _ _

pub returns-then-u-v : goal.returns-then-u-v
returns-then-u-v c = wide_seam _ _ c.kept_char-x.ensures c.kept_char-y.ensures c.if-x-y.false _ _ c.fold.ensures c.fold-in-One.ensures _ _ c.in-One.is c.in-One-fold.is c.if-u-v.true

pub returns-else-u-v : goal.returns-else-u-v
returns-else-u-v c = seam_none _ _

pub returns-in-Two-fold : goal.returns-in-Two-fold
returns-in-Two-fold c = seam_none _ _

pub returns-in-Three-fold : goal.returns-in-Three-fold
returns-in-Three-fold c = seam_none _ _

pub returns-in-Two : goal.returns-in-Two
returns-in-Two c = seam_none _ _

pub returns-in-Three : goal.returns-in-Three
returns-in-Three c = seam_none _ _
