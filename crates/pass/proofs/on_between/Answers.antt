use Rattle.std.specs.Prelude.{[]}
use Rattle.pass.proofs.Lines.{meta_within, between_meta, between_section, between_start}
use Rattle.pass.proofs.on_between.Goals as goal

pub on_meta-requires : goal.on_meta-requires
on_meta-requires c = let y = meta_within _ _ c.in-Meta.is c.requires.0 in (y.0, y.1, c.requires.1, c.requires.2)

pub on_section-memory-requires : goal.on_section-memory-requires
on_section-memory-requires c = c.requires.3

pub returns-in-Meta-clause-done : goal.returns-in-Meta-clause-done
returns-in-Meta-clause-done c = between_meta _ _ c.in-Meta.is c.on_meta.ensures.done

pub returns-in-Section-clause-done : goal.returns-in-Section-clause-done
returns-in-Section-clause-done c = between_section _ c.in-Section.is c.args.memory.now.sound c.on_section-memory.ensures

pub returns-in-Start-clause-done : goal.returns-in-Start-clause-done
returns-in-Start-clause-done c = between_start _ c.in-Start.is c.args.memory.now.sound c.on_start-memory.ensures

pub invariant_of-memory : goal.invariant_of-memory
invariant_of-memory c = record { sound = (c.on_section-memory.ensures.at []).sound _ c.args.memory.now.sound }

pub invariant_of-memory-in-Start : goal.invariant_of-memory-in-Start
invariant_of-memory-in-Start c = record { sound = c.on_start-memory.ensures.sound _ c.args.memory.now.sound }
