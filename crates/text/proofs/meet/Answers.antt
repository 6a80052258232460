use Rattle.text.specs.Meets.{unclear}
use Rattle.text.proofs.Pairs.{met_parted, met_end, met_right, met_pair}
use Rattle.text.proofs.meet.Goals as goal

pub returns-then-is_parted : goal.returns-then-is_parted
returns-then-is_parted c = met_parted _ _ _ _ (c.is_parted.ensures c.if-is_parted.true)

pub returns-then-a-i : goal.returns-then-a-i
returns-then-a-i c = met_end _ _ _ _ c.if-a-i.true

pub returns-then-b-j : goal.returns-then-b-j
returns-then-b-j c = met_right _ _ _ _ c.if-a-i.false c.if-b-j.true

pub returns-then-a-i-eq92 : goal.returns-then-a-i-eq92
returns-then-a-i-eq92 c = unclear

pub returns : goal.returns
returns c = met_pair _ _ _ _ c.kept_char-x.ensures c.kept_char-y.ensures _ _ c.fold-f.ensures c.fold-g.ensures c.paired-p.ensures c.meet_on.ensures
