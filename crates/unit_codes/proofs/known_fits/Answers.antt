use mathlib.Core.Path.{ap, ◌∙◌}
use Rattle.unit_codes.proofs.Codes.{known_not, known_code}
use Rattle.unit_codes.specs.Codes.{code_in}
use Rattle.unit_codes.proofs.known_fits.Goals as goal

pub returns-then-both_unknown : goal.returns-then-both_unknown
returns-then-both_unknown c = known_not _ _ (c.code_in-o.ensures ∙ ap code_in c.kept_word-w.ensures) c.both_unknown.ensures c.if-both_unknown.true

pub returns : goal.returns
returns c = known_code _ _ (c.code_in-o.ensures ∙ ap code_in c.kept_word-w.ensures) c.both_unknown.ensures c.if-both_unknown.false c.code_fits.ensures
