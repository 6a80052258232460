use native.Mathlib.Omega.{arith}
use Rattle.component_records.proofs.Rows.{within_row, no_row, a_row}
use Rattle.component_records.proofs.component_at.Goals as goal

pub returns-then-count-i : goal.returns-then-count-i
returns-then-count-i c = no_row c.args.words.now c.args.from c.args.count c.args.i c.if-count-i.true c.no_component.ensures

pub component_in-requires : goal.component_in-requires
component_in-requires c = (omega arith, within_row c.args.words.now c.args.from c.args.count c.args.i c.requires.1 c.if-count-i.false)

pub returns : goal.returns
returns c = a_row c.args.words.now c.args.from c.args.count c.args.i c.if-count-i.false c.component_in.ensures
