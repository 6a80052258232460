use Rattle.meta_map.proofs.Printed.{Printing}
use Rattle.meta_map.proofs.row_lines.Given as goal

abbrev pub invariant-loop-i : goal.invariant-loop-i
invariant-loop-i l = Printing l.sheet l.m l.n l.initial.out l.at l.out l.c l.i
