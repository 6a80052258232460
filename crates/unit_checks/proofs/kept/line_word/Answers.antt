use native.Mathlib.Omega.{arith}
use Rattle.unit_checks.proofs.Codes.{up_to_five, word_absent, word_unitless, word_coded, word_placed}
use Rattle.unit_checks.proofs.kept.line_word.Goals as goal

pub place_word-requires : goal.place_word-requires
place_word-requires c = (c.unit_in.ensures.within _ c.in-At.is).0

pub returns-then-m-eq5 : goal.returns-then-m-eq5
returns-then-m-eq5 c = word_placed c.unit_in.ensures c.in-At.is _ c.part_of.ensures c.text_outer_trimmed-y.ensures c.unit_code-m.ensures c.if-m-eq5.true c.place_word.ensures

pub overflow_add-result : goal.overflow_add-result
overflow_add-result c = omega (arith, up_to_five _ _ c.unit_code-m.ensures)

pub returns-in-NoQuantity : goal.returns-in-NoQuantity
returns-in-NoQuantity c = word_absent c.unit_in.ensures _ c.in-NoQuantity.is

pub returns-in-NoUnit : goal.returns-in-NoUnit
returns-in-NoUnit c = word_unitless c.unit_in.ensures _ c.in-NoUnit.is

pub returns-else-m-eq5 : goal.returns-else-m-eq5
returns-else-m-eq5 c = word_coded c.unit_in.ensures c.in-At.is _ c.part_of.ensures c.text_outer_trimmed-y.ensures c.unit_code-m.ensures
