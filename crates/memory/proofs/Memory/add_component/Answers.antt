use Rattle.memory.proofs.Added.{refer_ready, added_none, added_to}
use Rattle.model.specs.Kinds.{kind_of}
use Rattle.memory.proofs.Memory.add_component.Goals as goal

pub push_pair-requires : goal.push_pair-requires
push_pair-requires c =
    let r = refer_ready (kind_of c.args.kind) c.push_row.ensures.row _ c.args.self.now.sound c.requires.1 c.in-Some.is in
    (r.0, r.1, rw c.count_of-n.ensures r.2)

pub returns-in_default-clause-added : goal.returns-in_default-clause-added
returns-in_default-clause-added c = added_none (kind_of c.args.kind) c.push_row.ensures.row c.in_default.is

pub returns-in-Some-clause-added : goal.returns-in-Some-clause-added
returns-in-Some-clause-added c = added_to (kind_of c.args.kind) c.push_row.ensures.row c.in-Some.d c.requires.1 c.in-Some.is (rw c.count_of-n.ensures at c.push_pair.ensures.pair)
