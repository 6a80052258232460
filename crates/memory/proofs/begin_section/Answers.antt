use Rattle.memory.proofs.Smalls.{section_named, section_filled, section_empty}
use Rattle.memory.proofs.begin_section.Goals as goal
use Rattle.memory.proofs.begin_section.Goals.{then-h, then-h-via-then-h, then-h-via-else-h+then-here-gt0, else-h+else-here-gt0}

pub returns : goal.returns
returns c =
    elim c.if-h.branch [
      | then-h w ↦
          elim w.then-h.branch [
            | then-h-via-then-h v ↦ section_named _ c.requires v.if-h.true (rw w.c-is at c.closed.ensures)
            | then-h-via-else-h+then-here-gt0 v ↦ section_filled _ c.requires v.if-h.false v.if-here-gt0.true (rw w.c-is at c.closed.ensures)
          ]
      | else-h+else-here-gt0 w ↦ section_empty _ c.requires w.if-h.false w.if-here-gt0.false (rw w.c-is at c.closed.ensures)
    ]
