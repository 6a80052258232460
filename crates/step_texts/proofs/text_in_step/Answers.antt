use mathlib.Core.List.{[]}
use Rattle.step_texts.proofs.Texts.{pieces_room, text_found, text_silent, text_inline, text_plain}
use Rattle.step_texts.proofs.text_in_step.Goals as goal

pub returns-then-has_alphanumeric-clause-done : goal.returns-then-has_alphanumeric-clause-done
returns-then-has_alphanumeric-clause-done c = text_found c.is_components.ensures c.args.memory.now.sound _ c.requires.0 c.part_of-f.ensures c.has_alphanumeric.ensures c.if-is_components.true c.if-has_alphanumeric.true c.one_span-x.ensures c.push_finding.ensures.finding

pub returns-else-has_alphanumeric-clause-done : goal.returns-else-has_alphanumeric-clause-done
returns-else-has_alphanumeric-clause-done c = text_silent c.is_components.ensures c.args.memory.now.sound _ c.requires.0 c.part_of-f.ensures c.has_alphanumeric.ensures c.if-is_components.true c.if-has_alphanumeric.false

pub push_pieces-memory-requires : goal.push_pieces-memory-requires
push_pieces-memory-requires c = pieces_room _ _ c.requires.0 c.part_of-f.ensures c.count_items-n.ensures c.requires.3 c.requires.4

pub returns-then-bit-eq1-clause-done : goal.returns-then-bit-eq1-clause-done
returns-then-bit-eq1-clause-done c = text_inline c.is_components.ensures c.args.memory.now.sound c.if-is_components.false c.if-bit-eq1.true c.requires.0 c.part_of-f.ensures c.count_items-n.ensures c.push_pieces-memory.ensures

pub invariant_of-memory-else-bit-eq1 : goal.invariant_of-memory-else-bit-eq1
invariant_of-memory-else-bit-eq1 c = record { sound = (text_plain {us = []} {line = c.args.line.now} {v = c.args.body} c.is_components.ensures c.args.memory.now.sound c.if-is_components.false c.if-bit-eq1.false c.push_pieces-memory-else-bit-eq1.ensures).went.sound }

pub returns-else-bit-eq1-clause-done : goal.returns-else-bit-eq1-clause-done
returns-else-bit-eq1-clause-done c = text_plain c.is_components.ensures c.args.memory.now.sound c.if-is_components.false c.if-bit-eq1.false c.push_pieces-memory-else-bit-eq1.ensures
