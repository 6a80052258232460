use borrow.Author.Rules.{rules}
use mathlib.Core.Path.{refl}
use Rattle.parts.specs.Views.{part_of}
use Rattle.meta_map.proofs.Metas.{meta_heeded, meta_row, meta_entered}
use Rattle.meta_map.proofs.Props.{indexed_of}
use Rattle.meta_map.proofs.Map.index_meta.Goals as goal

pub returns-then-is_heeded-clause-indexed : goal.returns-then-is_heeded-clause-indexed
unfolding part_of
returns-then-is_heeded-clause-indexed c = meta_heeded c.args.self.now.sheet.now c.args.from c.args.end c.requires.3 c.args.value (indexed_of c.args.self.now.indexed) refl c.is_heeded.ensures c.if-is_heeded.true

pub overflow_add-ve : goal.overflow_add-ve
overflow_add-ve c = search (rules, (meta_row c.args.self.now.sheet.now c.args.from c.args.end c.requires.3 c.requires.4 c.requires.2 c.requires.1 c.trim_part-a.ensures c.trim_part-b.ensures c.requires.5 c.requires.6).value_most)

pub insert-requires : goal.insert-requires
insert-requires c = (c.requires.0, meta_row c.args.self.now.sheet.now c.args.from c.args.end c.requires.3 c.requires.4 c.requires.2 c.requires.1 c.trim_part-a.ensures c.trim_part-b.ensures c.requires.5 c.requires.6)

pub returns-clause-indexed : goal.returns-clause-indexed
unfolding part_of
returns-clause-indexed c = meta_entered c.args.self.now.sheet.now c.args.from c.args.end c.requires.3 c.requires.4 c.requires.2 c.requires.1 c.trim_part-a.ensures c.trim_part-b.ensures refl c.is_heeded.ensures c.if-is_heeded.false c.insert.ensures.inserted
