use Rattle.model.specs.Kinds.{kind_of}
use Rattle.memory.proofs.Reading.{rows_there}
use Rattle.lookup.proofs.Names.{names_inside, same_found}
use Rattle.lookup.proofs.same_component.Goals as goal

pub same_name_before-requires : goal.same_name_before-requires
same_name_before-requires c = rw (c.count_of-n.ensures, c.rows.ensures) (rows_there (kind_of c.args.kind) c.args.stored.now.sound, names_inside (c.requires.rows (kind_of c.args.kind)))

pub returns : goal.returns
returns c = same_found _ _ _ _ _ _ (kind_of c.args.kind) _ c.requires (rw (c.count_of-n.ensures, c.rows.ensures) at c.same_name_before.ensures)
