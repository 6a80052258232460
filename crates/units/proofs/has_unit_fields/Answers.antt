use Rattle.std.proofs.Common.{◌∙◌}
use borrow.Author.Tests.{lt-leb}
use Rattle.units.proofs.Parts.{no_name, no_tab_lem, two_tabs, two_fields}
use Rattle.units.proofs.has_unit_fields.Goals as goal
use Rattle.units.proofs.has_unit_fields.Goals.{then-n-eq0-via-then-n-eq0, then-n-eq0-via-else-n-eq0+then-line-n}

pub returns-then-n-eq0 : goal.returns-then-n-eq0
returns-then-n-eq0 c =
    elim c.then-n-eq0.branch [
      | then-n-eq0-via-then-n-eq0 w ↦ no_name _ c.field-name.ensures w.if-n-eq0.true
      | then-n-eq0-via-else-n-eq0+then-line-n w ↦ no_tab_lem _ c.field-name.ensures w.if-line-n.true
    ]

pub returns-then-line-n-2 : goal.returns-then-line-n-2
returns-then-line-n-2 c = c.is_physical.ensures ∙ two_fields _ c.field-name.ensures c.if-line-n.false c.field-word.ensures c.if-n-eq0.false c.if-line-n-2.true

pub returns-else-line-n-2 : goal.returns-else-line-n-2
returns-else-line-n-2 c = lt-leb _ _ c.if-line-n-2.false ∙ two_tabs _ c.field-name.ensures c.if-line-n.false c.field-word.ensures c.if-line-n-2.false
