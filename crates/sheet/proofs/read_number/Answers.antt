use Rattle.rules.specs.Sheet.{number_of}
use Rattle.sheet.proofs.read_number.Goals as goal

pub returns : goal.returns
unfolding number_of
returns c = c.read_up_to.ensures
