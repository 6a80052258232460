use Rattle.unit_codes.specs.Codes.{code_fits}
use Rattle.unit_codes.proofs.code_fits.Goals as goal

pub returns-in-Some : goal.returns-in-Some
unfolding code_fits
returns-in-Some c = rw c.in-Some.is

pub returns-in-None : goal.returns-in-None
unfolding code_fits
returns-in-None c = rw c.in-None.is
