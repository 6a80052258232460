use mathlib.Core.Path.{sym}
use lib.Seq.{length-take-le}
use Rattle.entry_lines.proofs.Names.{path_most}
use Rattle.entry_lines.proofs.Names.{path_none, path_some}
use Rattle.entry_lines.proofs.put_ingredient_path.Goals as goal

pub returns-then-start-eq0 : goal.returns-then-start-eq0
returns-then-start-eq0 c = path_none c.requires.0 c.requires.1 c.if-start-eq0.true c.put_field.ensures

pub slice_bounds-put_path-end : goal.slice_bounds-put_path-end
slice_bounds-put_path-end c = sym (length-take-le _ _ (path_most c.requires.1))

pub returns : goal.returns
returns c = path_some c.requires.0 c.requires.1 c.if-start-eq0.false c.put_bytes-n.ensures c.put_path.ensures
