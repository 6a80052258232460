use native.Mathlib.Omega.{arith}
use mathlib.Core.Path.{◌∙◌}
use Rattle.rules.specs.Model.{ingredient}
use Rattle.unit_checks.proofs.Rows.{row_fits, line_kind}
use Rattle.unit_checks.proofs.Codes.{number_small, fits_kept}
use Rattle.unit_checks.proofs.Units.{fits_there}
use Rattle.memory.proofs.Reading.{row_room}
use Rattle.unit_checks.proofs.row_fits.Goals as goal

pub row-r-requires : goal.row-r-requires
row-r-requires c = row_room ingredient c.args.memory.now.sound c.requires.3

pub known_fits-requires : goal.known_fits-requires
known_fits-requires c = (omega (arith, c.requires.3, c.args.memory.now.sound.room.rows ingredient), number_small _ c.args.new.now.trims c.requires.2)

pub returns-then-known_fits : goal.returns-then-known_fits
returns-then-known_fits c = (c.if-known_fits.true ∙ fits_there c.args.i c.requires.1 c.requires.3 c.row-r.ensures _ _ (fits_kept c.requires.0 c.args.i (omega (arith, c.requires.3, c.args.memory.now.sound.room.rows ingredient)) c.args.new.now.trims c.requires.2 _ _ c.known_fits.ensures c.if-known_fits.true), c.requires.0)

pub line_fits-requires : goal.line_fits-requires
line_fits-requires c = let f = row_fits c.requires.1 ingredient c.args.i c.requires.3 c.row-r.ensures in (c.requires.0, f.line.order, f.line.most, line_kind ingredient f, omega (arith, c.requires.3, c.args.memory.now.sound.room.rows ingredient), c.requires.2)

pub returns-else-known_fits : goal.returns-else-known_fits
returns-else-known_fits c = (fits_there c.args.i c.requires.1 c.requires.3 c.row-r.ensures _ _ c.line_fits.ensures.0, c.line_fits.ensures.1)
