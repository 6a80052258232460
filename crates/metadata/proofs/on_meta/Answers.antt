use Rattle.parts.specs.Views.{text_in}
use Rattle.metadata.proofs.Metas.{define_set, define_bad, duplicate_set, duplicate_bad, unknown_noted}
use Rattle.metadata.proofs.Whole.{meta_define, meta_duplicate, meta_off, meta_ordinary, meta_unknown}
use Rattle.metadata.proofs.on_meta.Goals as goal

pub returns-in-Some-clause-done : goal.returns-in-Some-clause-done
returns-in-Some-clause-done c =
    meta_define c.if-odd-eq1.true c.requires.0 _ c.part_of-k.ensures _ c.key_of.ensures c.requires.1 _ c.part_of-v.ensures c.in-Define.is c.define_value.ensures (define_set c.args.memory.now.sound c.in-Some.is c.with_define-memory.ensures)

pub returns-in-None-clause-done : goal.returns-in-None-clause-done
returns-in-None-clause-done c =
    meta_define c.if-odd-eq1.true c.requires.0 _ c.part_of-k.ensures _ c.key_of.ensures c.requires.1 _ c.part_of-v.ensures c.in-Define.is c.define_value.ensures (define_bad c.args.memory.now.sound c.push_finding.ensures.finding c.wrong_value.ensures c.in-None.is)

pub returns-in-Some-duplicate_value-clause-done : goal.returns-in-Some-duplicate_value-clause-done
returns-in-Some-duplicate_value-clause-done c =
    meta_duplicate c.if-odd-eq1.true c.requires.0 _ c.part_of-k.ensures _ c.key_of.ensures c.requires.1 _ c.part_of-v.ensures c.in-Duplicate.is c.duplicate_value.ensures (duplicate_set c.args.memory.now.sound c.in-Some-duplicate_value.is c.with_duplicate-memory.ensures)

pub returns-in-None-duplicate_value-clause-done : goal.returns-in-None-duplicate_value-clause-done
returns-in-None-duplicate_value-clause-done c =
    meta_duplicate c.if-odd-eq1.true c.requires.0 _ c.part_of-k.ensures _ c.key_of.ensures c.requires.1 _ c.part_of-v.ensures c.in-Duplicate.is c.duplicate_value.ensures (duplicate_bad c.args.memory.now.sound c.push_finding-in-None-duplicate_value.ensures.finding c.wrong_value-in-None-duplicate_value.ensures c.in-None-duplicate_value.is)

pub returns-in-Unknown-clause-done : goal.returns-in-Unknown-clause-done
returns-in-Unknown-clause-done c = meta_unknown c.if-odd-eq1.true c.requires.0 _ c.part_of-k.ensures _ c.key_of.ensures c.in-Unknown.is (unknown_noted c.args.memory.now.sound c.push_finding-in-Unknown.ensures.finding c.unknown_key.ensures)

pub invariant_of-memory-in-Ordinary : goal.invariant_of-memory-in-Ordinary
invariant_of-memory-in-Ordinary c = record { sound = (c.count_ordinary-memory.ensures.by (text_in c.args.line.now c.args.key) (text_in c.args.line.now c.args.value)).sound _ c.args.memory.now.sound }

pub returns-in-Ordinary-clause-done : goal.returns-in-Ordinary-clause-done
returns-in-Ordinary-clause-done c = meta_ordinary c.if-odd-eq1.true c.requires.0 _ c.part_of-k.ensures _ c.key_of.ensures c.in-Ordinary.is c.args.memory.now.sound c.count_ordinary-memory.ensures

pub invariant_of-memory-else-odd-eq1 : goal.invariant_of-memory-else-odd-eq1
invariant_of-memory-else-odd-eq1 c = record { sound = (c.count_ordinary-memory-else-odd-eq1.ensures.by (text_in c.args.line.now c.args.key) (text_in c.args.line.now c.args.value)).sound _ c.args.memory.now.sound }

pub returns-else-odd-eq1-clause-done : goal.returns-else-odd-eq1-clause-done
returns-else-odd-eq1-clause-done c = meta_off c.if-odd-eq1.false c.args.memory.now.sound c.count_ordinary-memory-else-odd-eq1.ensures
