use borrow.Author.Rules.{rules}
use Prim.Native.Nat.{◌+◌}
use Rattle.memory.proofs.Whole.{block_kept}
use Rattle.memory.proofs.Memory.keep_step.Goals as goal

pub invariant_of-self : goal.invariant_of-self
invariant_of-self c = record { sound = (block_kept c.args.self.now.sound 1 (c.args.self.now.held.counts.counter + 1) c.requires.0 c.requires.1 (search rules) _ c.put_kind.ensures c.closed-self.ensures).sound }

pub returns-clause-kept : goal.returns-clause-kept
returns-clause-kept c = block_kept c.args.self.now.sound 1 (c.args.self.now.held.counts.counter + 1) c.requires.0 c.requires.1 (search rules) _ c.put_kind.ensures c.closed-self.ensures
