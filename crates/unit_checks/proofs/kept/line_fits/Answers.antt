use mathlib.Core.Path.{◌∙◌}
use Rattle.unit_checks.proofs.Codes.{number_small, fits_absent, fits_written, fits_coded}
use Rattle.unit_checks.specs.Codes.{line_code}
use Rattle.unit_checks.proofs.kept.line_fits.Goals as goal

pub returns-then-o-eq8 : goal.returns-then-o-eq8
unfolding line_code
returns-then-o-eq8 c = (fits_absent _ _ _ (c.code_in-o.ensures ∙ c.row_word-w.ensures.0.is) c.if-o-eq8.true, c.row_word-w.ensures.1)

pub same_unit-requires : goal.same_unit-requires
same_unit-requires c = (c.requires.3, c.row_word-w.ensures.0.placed)

pub returns-then-both_unknown : goal.returns-then-both_unknown
unfolding line_code
returns-then-both_unknown c = (fits_written _ c.args.new.now.trims c.requires.5 _ (c.code_in-o.ensures ∙ c.row_word-w.ensures.0.is) c.both_unknown.ensures c.if-both_unknown.true c.same_unit.ensures, c.row_word-w.ensures.1)

pub code_fits-requires : goal.code_fits-requires
code_fits-requires c = number_small _ c.args.new.now.trims c.requires.5

pub returns : goal.returns
unfolding line_code
returns c = (fits_coded _ c.args.new.now.trims c.requires.5 _ (c.code_in-o.ensures ∙ c.row_word-w.ensures.0.is) c.if-o-eq8.false c.both_unknown.ensures c.if-both_unknown.false c.code_fits.ensures, c.row_word-w.ensures.1)
