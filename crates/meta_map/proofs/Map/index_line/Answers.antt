use Rattle.meta_map.proofs.Lines.{line_skipped, line_read}
use Rattle.meta_map.proofs.Props.{indexed_of}
use Rattle.meta_map.proofs.Map.index_line.Goals as goal

pub returns-then-self-from-ne109-clause-indexed : goal.returns-then-self-from-ne109-clause-indexed
returns-then-self-from-ne109-clause-indexed c = line_skipped _ _ _ (indexed_of c.args.self.now.indexed) c.requires.4 c.if-self-from-ne109.true

pub returns-clause-indexed : goal.returns-clause-indexed
returns-clause-indexed c = line_read c.event_of-v.ensures c.index_event.ensures.indexed
