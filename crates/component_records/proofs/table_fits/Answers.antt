use Rattle.component_records.specs.Tables.{room_for}
use Rattle.component_records.proofs.Counts.{records_long, records_short}
use Rattle.component_records.proofs.table_fits.Goals as goal

pub returns-then-count-records : goal.returns-then-count-records
returns-then-count-records c = records_long c.args.count c.args.pairs (room_for c.args.records c.args.words) c.if-count-records.true

pub returns-else-count-records : goal.returns-else-count-records
returns-else-count-records c = records_short c.args.count c.args.pairs (room_for c.args.records c.args.words) c.if-count-records.false
