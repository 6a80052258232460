use native.Mathlib.Omega.{arith}
use Rattle.unit_index.proofs.Adds.{kept_filled, kept_size, added_twice, added_line}
use Rattle.unit_index.proofs.Searches.{bucket_of}
use Rattle.unit_index.proofs.add_line.Goals as goal

pub slice_bounds-name-count : goal.slice_bounds-name-count
slice_bounds-name-count c = omega (arith, c.requires.1.order)

pub slice_bounds-name-start : goal.slice_bounds-name-start
slice_bounds-name-start c = omega (arith, c.requires.1.order, c.requires.1.within)

pub slice_bounds-name-end : goal.slice_bounds-name-end
slice_bounds-name-end c = c.requires.1.within

pub has_name-requires : goal.has_name-requires
has_name-requires c = (c.requires.0, c.requires.1.utf8, bucket_of c.hash_chars-b.ensures)

pub returns-then-has_name : goal.returns-then-has_name
returns-then-has_name c = added_twice c.requires.0 c.requires.1 c.has_name.ensures c.if-has_name.true

pub returns : goal.returns
returns c = added_line (kept_filled c.requires.0 c.keep_longest.ensures) c.requires.1 c.has_name.ensures (bucket_of c.hash_chars-b.ensures) c.if-has_name.false (kept_size c.requires.0 c.keep_longest.ensures) c.push_line.ensures
