use Rattle.timers.proofs.Timers.{unit_none, unit_time, unit_found}
use Rattle.timers.proofs.unit_finding.Goals as goal

pub returns-in_err-v : goal.returns-in_err-v
returns-in_err-v c = rw c.from_residual.ensures (unit_none c.in_err-v.was)

pub returns-in_err-code : goal.returns-in_err-code
returns-in_err-code c =
    rw c.from_residual-in_err-code.ensures
    (unit_time _ _ _ c.args.units.now.indexed.list c.requires c.in_ok-v.was _ c.text_part-name.ensures c.find_named.ensures c.time_code.ensures c.in_err-code.was)

pub returns : goal.returns
returns c = unit_found _ _ _ c.args.units.now.indexed.list c.requires c.in_ok-v.was _ c.text_part-name.ensures c.find_named.ensures c.time_code.ensures _ c.in_ok-code.was c.one_span.ensures
