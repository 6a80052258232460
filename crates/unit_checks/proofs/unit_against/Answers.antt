use Rattle.unit_checks.proofs.Units.{row_skipped}
use Rattle.units.proofs.Walks.{units_start}
use Rattle.unit_checks.proofs.unit_against.Goals as goal

pub row_fits-requires : goal.row_fits-requires
row_fits-requires c = (c.requires.3, c.requires.2, c.requires.1.code, c.requires.4)

pub returns-then-row_fits : goal.returns-then-row_fits
returns-then-row_fits c = (row_skipped c.requires.2 c.requires.4 (units_start _ c.args.units.now.indexed.list) c.requires.1 c.row_fits.ensures.0 c.if-row_fits.true, c.row_fits.ensures.1)

pub row_against-requires : goal.row_against-requires
row_against-requires c = (c.requires.0, c.requires.2, c.requires.4)

pub returns : goal.returns
returns c = (c.row_against.ensures, c.row_fits.ensures.1)
