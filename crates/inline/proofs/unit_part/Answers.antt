use native.Mathlib.Omega.{arith}
use Rattle.inline.proofs.Names.{name_from, name_to, unit_there}
use Rattle.inline.proofs.unit_part.Goals as goal

pub overflow_add-a : goal.overflow_add-a
overflow_add-a c = omega (arith, name_from _ _ _ _ c.requires.0 c.requires.1 c.letters_start.ensures)

pub slice_bounds-end_of-count : goal.slice_bounds-end_of-count
slice_bounds-end_of-count c = name_from _ _ _ _ c.requires.0 c.requires.1 c.letters_start.ensures

pub slice_bounds-end_of-start : goal.slice_bounds-end_of-start
slice_bounds-end_of-start c = omega (arith, name_from _ _ _ _ c.requires.0 c.requires.1 c.letters_start.ensures)

pub overflow_add-result : goal.overflow_add-result
overflow_add-result c = omega (arith, name_to _ _ _ _ c.requires.0 c.requires.1 c.letters_start.ensures _ c.end_of-size.ensures)

pub returns : goal.returns
returns c = unit_there _ _ _ _ c.requires.0 c.requires.1 c.letters_start.ensures _ c.end_of-size.ensures
