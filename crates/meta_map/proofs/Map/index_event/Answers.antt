use Rattle.meta_map.proofs.Metas.{meta_within, event_meta, event_section, event_start, event_inside, event_finding}
use Rattle.meta_map.proofs.Props.{indexed_of}
use Rattle.meta_map.proofs.Map.index_event.Goals as goal

pub index_meta-requires : goal.index_meta-requires
index_meta-requires c =
    let w = meta_within c.requires.3 c.in-Between.is c.in-Meta.is in
    (c.requires.0, c.requires.1, c.requires.2, w.0, w.1, w.2, w.3)

pub returns-in-Meta-clause-indexed : goal.returns-in-Meta-clause-indexed
returns-in-Meta-clause-indexed c = event_meta c.in-Between.is c.in-Meta.is c.index_meta.ensures.indexed

pub returns-in-Section-clause-indexed : goal.returns-in-Section-clause-indexed
returns-in-Section-clause-indexed c = event_section (indexed_of c.args.self.now.indexed) c.in-Between.is c.in-Section.is

pub returns-in-Start-clause-indexed : goal.returns-in-Start-clause-indexed
returns-in-Start-clause-indexed c = event_start (indexed_of c.args.self.now.indexed) c.in-Between.is c.in-Start.is

pub returns-in-Inside-clause-indexed : goal.returns-in-Inside-clause-indexed
returns-in-Inside-clause-indexed c = event_inside (indexed_of c.args.self.now.indexed) c.in-Inside.is

pub returns-in-Finding-clause-indexed : goal.returns-in-Finding-clause-indexed
returns-in-Finding-clause-indexed c = event_finding (indexed_of c.args.self.now.indexed) c.in-Finding.is
