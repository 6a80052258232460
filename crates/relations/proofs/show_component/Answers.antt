use Rattle.model.specs.Kinds.{kind_of}
use Rattle.memory.proofs.Reading.{row_room}
use Rattle.relations.proofs.show_component.Goals as goal

pub row-requires : goal.row-requires
row-requires g c = row_room (kind_of c.args.kind) c.args.stored.now.sound c.requires
