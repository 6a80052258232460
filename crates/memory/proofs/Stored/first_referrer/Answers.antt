use Rattle.model.specs.Kinds.{kind_of}
use Rattle.memory.proofs.Reading.{first_place}
use Rattle.memory.proofs.Stored.first_referrer.Goals as goal

pub returns : goal.returns
returns c = first_place (kind_of c.args.kind) c.args.self.now.words.now c.args.self.now.held c.args.definition
