use Rattle.content.specs.Contents.{kept_in}
use Rattle.meta_map.specs.Index.{key_at}
use Rattle.chains.specs.Hashes.{hash_of}
use Rattle.chains.proofs.Seeks.{Seeking}
use Rattle.meta_map.proofs.Map.find.Given as goal

abbrev pub invariant-loop-p : goal.invariant-loop-p
invariant-loop-p l = Seeking hash_of (key_at l.self.sheet.now l.self.words.now) l.self.rows (kept_in l.key) l.p

abbrev pub decreases-loop-p : goal.decreases-loop-p
decreases-loop-p l = l.p
