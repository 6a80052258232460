use native.Mathlib.Omega.{arith}
use Rattle.relations.proofs.show_components.Goals as goal

pub show_component-requires : goal.show_component-requires
show_component-requires g c = omega (arith, c.loop-i-test.true, c.count_of-i-end.ensures)
