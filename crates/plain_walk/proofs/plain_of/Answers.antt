use Rattle.plain_walk.proofs.Becomes.{told_between, told_inside, told_finding, within_between}
use Rattle.plain_walk.proofs.plain_of.Goals as goal

pub between_plain-requires : goal.between_plain-requires
between_plain-requires c = within_between _ _ c.in-Between.is c.requires.0

pub returns-in-Between : goal.returns-in-Between
returns-in-Between c = told_between _ _ _ c.args.f _ c.in-Between.is c.between_plain.ensures

pub returns-in-Inside : goal.returns-in-Inside
returns-in-Inside c = told_inside _ _ _ c.args.f _ c.in-Inside.is c.inside_plain.ensures

pub returns-in-Finding : goal.returns-in-Finding
returns-in-Finding c = told_finding _ _ _ c.args.f _ _ c.in-Finding.is
