use Rattle.recipe_components.proofs.Leaves.{all_left}
use Rattle.recipe_components.proofs.collect_components.Goals as goal

pub lend_tables-requires : goal.lend_tables-requires
lend_tables-requires c = (rw c.counts_of-counts.ensures.0 c.collect_rows-r.ensures.ingredients_ready, rw c.counts_of-counts.ensures.1 c.collect_rows-r.ensures.cookware_ready)

pub returns : goal.returns
returns c = all_left c.collect_rows-r.ensures (rw c.counts_of-counts.ensures.0 at c.lend_tables.ensures.0) (rw c.counts_of-counts.ensures.1 at c.lend_tables.ensures.1) c.clear_words.ensures
