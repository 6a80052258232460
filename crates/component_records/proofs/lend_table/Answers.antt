use mathlib.Core.Path.{◌∙◌}
use Rattle.component_records.proofs.Lent.{lent_pairs, lent_count}
use Rattle.component_records.proofs.lend_table.Goals as goal

pub returns : goal.returns
returns c =
    let e = c.lend_records.ensures in
    let z = c.clear_words.ensures in
    let l = c.link_records.ensures in (
      l.0 ∙ e,
      lent_pairs c.args.words.now c.args.from c.args.count c.args.all.now c.args.pairs.now (rw (e, z) at l.1),
      lent_count c.args.words.now c.args.from c.args.count c.args.all.now c.args.pairs.now (rw e at l.2),
    )
