use Rattle.memory.proofs.Whole.{block_kept}
use Rattle.memory.proofs.Memory.keep_text.Goals as goal

pub invariant_of-self : goal.invariant_of-self
invariant_of-self c = record { sound = (block_kept c.args.self.now.sound 0 c.args.self.now.held.counts.counter c.requires.0 c.requires.1 c.args.self.now.sound.room.others.counter _ c.put_kind.ensures c.closed-self.ensures).sound }

pub returns-clause-kept : goal.returns-clause-kept
returns-clause-kept c = block_kept c.args.self.now.sound 0 c.args.self.now.held.counts.counter c.requires.0 c.requires.1 c.args.self.now.sound.room.others.counter _ c.put_kind.ensures c.closed-self.ensures
