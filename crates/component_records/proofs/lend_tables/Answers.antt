use Rattle.component_records.proofs.lend_tables.Goals as goal

pub lend_table-requires : goal.lend_table-requires
lend_table-requires c = (c.requires.0.few, c.requires.0.held, c.requires.0.room, c.requires.0.linkable)

pub lend_table-requires-2 : goal.lend_table-requires-2
lend_table-requires-2 c = (c.requires.1.few, c.requires.1.held, c.requires.1.room, c.requires.1.linkable)

pub returns : goal.returns
returns c = (record { all = c.lend_table.ensures.0; pairs = c.lend_table.ensures.1 }, record { all = c.lend_table-2.ensures.0; pairs = c.lend_table-2.ensures.1 })
