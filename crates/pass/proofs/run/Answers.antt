use Rattle.memory.proofs.Bounds.{first_sound}
use mathlib.Core.Path.{sym}
use Rattle.pass.proofs.Loops.{ran_as}
use Rattle.pass.proofs.run.Goals as goal

pub returns : goal.returns
returns c = let g = c.words-1.given.1 in ran_as g.0 (g.1 (sym c.parse_events.ensures.lent)) c.parse_events.ensures.done

pub invariant_of-memory : goal.invariant_of-memory
invariant_of-memory c = record { sound = rw c.first_held.ensures (first_sound _ c.requires.1) }
