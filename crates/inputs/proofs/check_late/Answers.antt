use Rattle.inputs.proofs.Checks.{flags_over, flags_known}
use Rattle.inputs.proofs.check_late.Goals as goal

pub returns-then-flags-gt7 : goal.returns-then-flags-gt7
returns-then-flags-gt7 c = flags_over c.if-flags-gt7.true

pub returns : goal.returns
returns c = flags_known c.if-flags-gt7.false c.read_sheet.ensures
