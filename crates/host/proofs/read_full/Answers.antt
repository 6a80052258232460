use Rattle.std.proofs.Common.{rules, ◌-◌, length}
use Rattle.host.proofs.Filling.{filled_more}
use Rattle.host.proofs.read_full.Goals as goal

pub loop-done-preserved : goal.loop-done-preserved
loop-done-preserved g c =
    let read = c.in_ok-n.ensures in
    let before = c.loop-done.invariant in
    let filled = filled_more _ _ _ c.loop-done.done (length c.loop-done.room - c.loop-done.done) c.in_ok-n.n c.loop-done.room c.read.new.buf before.0 read.bound.0 before.2 read.bytes.0 in
    (search rules, search rules, filled)
