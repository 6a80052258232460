use borrow.Author.Rules.{rules}
use native.Mathlib.Omega.{arith}
use Rattle.unit_checks.proofs.Rows.{row_fits, line_reads, line_whole}
use Rattle.unit_checks.proofs.After.{entry_checked, note_within}
use Rattle.unit_checks.proofs.entry_check.Goals as goal
use Rattle.model.specs.Kinds.{kind_of}
use Rattle.memory.proofs.Reading.{row_room}

pub row-r-requires : goal.row-r-requires
row-r-requires c = row_room (kind_of c.args.kind) c.args.memory.now.sound c.requires.2

pub slice_bounds-component_in-count : goal.slice_bounds-component_in-count
slice_bounds-component_in-count c = let f = row_fits c.requires.1 (kind_of c.args.kind) c.args.d c.requires.2 c.row-r.ensures in omega (arith, f.line.order, f.line.most)

pub slice_bounds-component_in-start : goal.slice_bounds-component_in-start
slice_bounds-component_in-start c = let f = row_fits c.requires.1 (kind_of c.args.kind) c.args.d c.requires.2 c.row-r.ensures in omega (arith, f.line.order, f.line.most)

pub slice_bounds-component_in-end : goal.slice_bounds-component_in-end
slice_bounds-component_in-end c = let f = row_fits c.requires.1 (kind_of c.args.kind) c.args.d c.requires.2 c.row-r.ensures in omega (arith, f.line.order, f.line.most)

pub component_in-o-requires : goal.component_in-o-requires
component_in-o-requires c = let f = row_fits c.requires.1 (kind_of c.args.kind) c.args.d c.requires.2 c.row-r.ensures in let reads = line_reads (kind_of c.args.kind) f in let whole = line_whole (kind_of c.args.kind) f in search rules

pub reference_checks-requires : goal.reference_checks-requires
reference_checks-requires c = (c.requires.3, note_within c.requires.0)

pub returns-clause-done : goal.returns-clause-done
returns-clause-done c = entry_checked (kind_of c.args.kind) c.args.d c.requires.1 c.requires.2 c.row-r.ensures c.component_in-o.ensures c.in_step-inside.ensures c.reference_checks.ensures.done
