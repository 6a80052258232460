use native.Mathlib.Omega.{arith}
use Rattle.rules.specs.Model.{ingredient, cookware}
use Rattle.recipe_components.proofs.Counts.{rows_asked, both_fit_lem, second_short_lem, first_short_lem}
use Rattle.recipe_components.proofs.recipe_counts.Goals as goal

pub own_references-i-requires : goal.own_references-i-requires
own_references-i-requires c = rows_asked ingredient c.args.stored.now.sound

pub own_references-c-requires : goal.own_references-c-requires
own_references-c-requires c =
    let asked = rows_asked cookware c.args.stored.now.sound in
    (asked.0, λ some. omega (arith, asked.1 some))

pub table_fits-requires : goal.table_fits-requires
table_fits-requires c = omega (arith, c.own_references-i.ensures.few, (rows_asked ingredient c.args.stored.now.sound).0)

pub table_fits-requires-then-table_fits : goal.table_fits-requires-then-table_fits
table_fits-requires-then-table_fits c = omega (arith, c.own_references-c.ensures.few, (rows_asked cookware c.args.stored.now.sound).0)

pub returns-then-table_fits-2 : goal.returns-then-table_fits-2
returns-then-table_fits-2 c = both_fit_lem c.args.stored.now.held c.own_references-i.ensures c.own_references-c.ensures _ _ c.table_fits.ensures c.if-table_fits.true c.table_fits-then-table_fits.ensures c.if-table_fits-2.true

pub returns-else-table_fits-2 : goal.returns-else-table_fits-2
returns-else-table_fits-2 c = second_short_lem c.args.stored.now.held c.own_references-i.ensures c.own_references-c.ensures _ _ c.table_fits.ensures c.if-table_fits.true c.table_fits-then-table_fits.ensures c.if-table_fits-2.false

pub returns-else-table_fits : goal.returns-else-table_fits
returns-else-table_fits c = first_short_lem c.args.stored.now.held c.own_references-i.ensures c.own_references-c.ensures _ _ c.table_fits.ensures c.if-table_fits.false
