use Rattle.memory.proofs.Whole.{finding_pushed}
use Rattle.memory.proofs.Memory.push_finding.Goals as goal

pub invariant_of-self : goal.invariant_of-self
invariant_of-self c = record { sound = (finding_pushed c.args.self.now.sound c.args.x c.requires _ c.put_finding.ensures).sound }

pub returns-clause-finding : goal.returns-clause-finding
returns-clause-finding c = finding_pushed c.args.self.now.sound c.args.x c.requires _ c.put_finding.ensures
