use Rattle.std.proofs.Common.{arith, rules}
use Rattle.units.proofs.Turns.{units_end, letters_in, volume_turn, mass_turn, length_turn, time_turn, temperature_turn}
use Rattle.units.proofs.unit_at.Goals as goal
use Rattle.units.proofs.unit_at.Goals.{then-c-eq118, else-c-eq118+then-c-eq109, else-c-eq118+else-c-eq109+then-c-eq108, else-c-eq118+else-c-eq109+else-c-eq108+then-d-eq105, else-c-eq118+else-c-eq109+else-c-eq108+else-d-eq105}

pub returns-then-units-at : goal.returns-then-units-at
returns-then-units-at c = units_end _ _ c.if-units-at.true

pub bounds-units-w : goal.bounds-units-w
bounds-units-w c = let k = letters_in _ _ c.requires c.if-units-at.false c.field-name.ensures in omega arith

pub bounds-units-w-2 : goal.bounds-units-w-2
bounds-units-w-2 c = letters_in _ _ c.requires c.if-units-at.false c.field-name.ensures

pub returns : goal.returns
returns c =
    elim c.if-c-eq118.branch [
      | then-c-eq118 w ↦ rw w.physical-is (volume_turn _ _ c.requires c.if-units-at.false c.field-name.ensures w.if-c-eq118.true)
      | else-c-eq118+then-c-eq109 w ↦ rw w.physical-is (mass_turn _ _ c.requires c.if-units-at.false c.field-name.ensures w.if-c-eq109.true)
      | else-c-eq118+else-c-eq109+then-c-eq108 w ↦ rw w.physical-is (length_turn _ _ c.requires c.if-units-at.false c.field-name.ensures w.if-c-eq108.true)
      | else-c-eq118+else-c-eq109+else-c-eq108+then-d-eq105 w ↦ rw w.physical-is (time_turn _ _ c.requires c.if-units-at.false c.field-name.ensures w.if-d-eq105.true)
      | else-c-eq118+else-c-eq109+else-c-eq108+else-d-eq105 w ↦ rw w.physical-is (temperature_turn _ _ c.requires c.if-units-at.false c.field-name.ensures w.if-c-eq118.false w.if-c-eq109.false w.if-c-eq108.false w.if-d-eq105.false)
    ]

pub overflow_add-result : goal.overflow_add-result
overflow_add-result c = let k = (returns c).within in search rules
