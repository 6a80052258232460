use borrow.Author.Tests.{not-true, not-false}
use Rattle.lookup.proofs.Names.{fits_not_ref, fits_not_opt, fits_name}
use Rattle.lookup.proofs.row_fits.Goals.{then-row_reference-via-then-row_reference, then-row_reference-via-else-row_reference+then-not-agrees}
use Rattle.lookup.proofs.row_fits.Goals as goal

pub named-requires : goal.named-requires
named-requires c = (rw (c.row_name-from.ensures.0, c.row_name-from.ensures.1) c.requires.1.order, rw c.row_name-from.ensures.1 c.requires.1.most)

pub returns-then-row_reference : goal.returns-then-row_reference
returns-then-row_reference c =
    elim c.then-row_reference.branch [
      | then-row_reference-via-then-row_reference w ↦ fits_not_ref _ c.args.rows.now c.args.i _ _ _ c.row_reference.ensures w.if-row_reference.true
      | then-row_reference-via-else-row_reference+then-not-agrees w ↦ fits_not_opt _ c.args.rows.now c.args.i _ _ _ c.row_reference.ensures w.if-row_reference.false w.row_opt.ensures w.agrees.ensures (not-true _ w.if-not-agrees.true-raw)
    ]

pub returns : goal.returns
returns c = fits_name _ c.args.rows.now c.args.i _ _ _ c.row_reference.ensures c.if-row_reference.false c.row_opt.ensures c.agrees.ensures (not-false _ c.if-not-agrees.false-raw) c.row_name-from.ensures _ c.named.ensures
