use mathlib.Core.Path.{sym}
use Rattle.meta_map.proofs.Stored.{indexed_none}
use Rattle.meta_map.proofs.fill_index.Goals as goal

pub invariant_of-map : goal.invariant_of-map
invariant_of-map c = record { indexed = ∣ indexed_none c.args.sheet.now.bytes.now c.requires.1 c.clear_heads.ensures ∣₁; short = c.requires.0 }

pub returns : goal.returns
returns c = rw (c.m-2-1.given.1.1 (sym c.index_lines.ensures.lent)) c.index_lines.ensures.indexed
