use native.Mathlib.Omega.{arith}
use Rattle.unit_index.proofs.Searches.{bucket_of, first_none, first_head}
use Rattle.unit_index.proofs.first_of.Goals as goal

pub returns-then-longest_in-name : goal.returns-then-longest_in-name
returns-then-longest_in-name c = first_none _ _ (omega (arith, c.if-longest_in-name.true, c.longest_in.ensures))

pub returns : goal.returns
returns c = first_head _ _ (omega (arith, c.if-longest_in-name.false, c.longest_in.ensures)) (bucket_of c.hash_content-h.ensures) c.head_at.ensures
