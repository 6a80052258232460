use mathlib.Core.Path.{ap, sym, ◌∙◌}
use Rattle.rules.specs.Basic.{eq_list}
use Rattle.content.specs.Contents.{content_in}
use Rattle.unit_index.proofs.Searches.{linked_below, line_few, line_in, line_name}
use Rattle.unit_index.proofs.is_named.Goals as goal

pub start_at-from-requires : goal.start_at-from-requires
start_at-from-requires c = line_few c.args.units.now.indexed.filled (linked_below c.requires)

pub line_at-u-requires : goal.line_at-u-requires
line_at-u-requires c = rw c.start_at-from.ensures (line_in c.args.units.now.indexed.filled (linked_below c.requires))

pub returns : goal.returns
returns c = c.same_chars.ensures ∙ ap (eq_list (content_in c.args.name.now)) (sym (line_name c.args.units.now.indexed.filled (linked_below c.requires) c.start_at-from.ensures c.line_at-u.ensures))
