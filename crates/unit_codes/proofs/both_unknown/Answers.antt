use Rattle.unit_codes.proofs.Codes.{and_none}
use Rattle.unit_codes.specs.Codes.{is_unlisted}
use Rattle.unit_codes.proofs.both_unknown.Goals as goal

pub returns-in-None : goal.returns-in-None
unfolding is_unlisted
returns-in-None c = rw c.in-None.is (and_none _)

pub returns-in-Some : goal.returns-in-Some
unfolding is_unlisted
returns-in-Some c = rw c.in-Some.is
