use Rattle.std.proofs.Common.{sym, ◌∙◌, true≢false}
use Rattle.unit_checks.proofs.After.{after_other, after_off, after_on, below_ingredient}
use Rattle.unit_checks.proofs.units_after.Goals as goal
use Rattle.unit_checks.proofs.units_after.Goals.{in-Ingredient, in_default}

pub unit_check-requires : goal.unit_check-requires
unit_check-requires c = (c.requires.0, c.requires.1, below_ingredient _ _ c.args.memory.now.held (elim c.match-matches.branch [ in-Ingredient w ↦ w.in-Ingredient.is | in_default w ↦ absurd (true≢false (sym c.if-matches.true ∙ w.matches-is)) ]) c.requires.2, c.requires.3, c.requires.4)

pub returns-then-bit-eq1-clause-done : goal.returns-then-bit-eq1-clause-done
returns-then-bit-eq1-clause-done c = after_on _ (elim c.match-matches.branch [ in-Ingredient w ↦ w.in-Ingredient.is | in_default w ↦ absurd (true≢false (sym c.if-matches.true ∙ w.matches-is)) ]) c.if-bit-eq1.true c.unit_check.ensures.done

pub returns-else-bit-eq1-clause-done : goal.returns-else-bit-eq1-clause-done
returns-else-bit-eq1-clause-done c = after_off c.args.kind c.if-bit-eq1.false

pub returns-else-matches-clause-done : goal.returns-else-matches-clause-done
returns-else-matches-clause-done c =
    after_other c.args.kind (elim c.match-matches.branch [ in-Ingredient w ↦ absurd (true≢false (sym w.matches-is ∙ c.if-matches.false)) | in_default w ↦ w.in_default.not-Ingredient ])
