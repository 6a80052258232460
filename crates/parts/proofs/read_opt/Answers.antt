use Rattle.std.proofs.Common.{refl}
use Rattle.parts.proofs.Generic.{opt_read_absent, opt_read_ill, opt_read_none, opt_read_some}
use Rattle.parts.proofs.read_opt.Goals as goal

pub returns-in-Absent : goal.returns-in-Absent
returns-in-Absent g c = opt_read_absent c.in-Absent.ensures

pub returns-in-Ill : goal.returns-in-Ill
returns-in-Ill g c = opt_read_ill c.in-Ill.ensures

pub returns-in_err-v-in-Present : goal.returns-in_err-v-in-Present
returns-in_err-v-in-Present g c = rw c.from_residual.ensures (opt_read_none c.in-Present.ensures _ refl c.in_err-v-in-Present.ensures)

pub returns-in_ok-v-in-Present : goal.returns-in_ok-v-in-Present
returns-in_ok-v-in-Present g c = opt_read_some c.in-Present.ensures _ refl c.in_ok-v-in-Present.ensures
