use Rattle.model.specs.Kinds.{kind_of}
use Rattle.entry_lines.proofs.Rows.{Lined}
use Rattle.entry_lines.proofs.component_lines.Given as goal

abbrev pub invariant-loop-i : goal.invariant-loop-i
invariant-loop-i l = Lined (kind_of l.kind) l.sheet l.stored.words.now l.stored.held l.initial.out l.at l.i l.out l.next
