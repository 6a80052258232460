use lib.ListN.{length}
use Rattle.model.specs.Kinds.{kind_of}
use Rattle.model.specs.Memory.{referrers_left}
use Rattle.output.proofs.Puts.{Leads}
use Rattle.entry_lines.specs.Lines.{comma_each}
use Rattle.entry_lines.proofs.put_more.Given as goal

abbrev pub invariant-loop-r : goal.invariant-loop-r
invariant-loop-r l =
    let w = l.stored.words.now in
    let left = referrers_left (kind_of l.kind) w l.stored.held l.definition in
    Leads (comma_each (left l.from)) l.initial.out l.at (comma_each (left l.place)) l.out l.n

abbrev pub decreases-loop-r : goal.decreases-loop-r
decreases-loop-r l = length (referrers_left (kind_of l.kind) l.stored.words.now l.stored.held l.definition l.place)
