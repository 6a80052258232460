use Rattle.std.proofs.Common.{rules}
use Rattle.rules.specs.Page.{item_line}
use Rattle.output.proofs.Writes.{writer}
use Rattle.step_lines.specs.Lines.{item_as}
use Rattle.step_lines.proofs.put_item.Goals as goal

pub put_line-requires : goal.put_line-requires
put_line-requires c = writer (item_line 0 (item_as c.args.kind c.args.index)) (λ p e. tt) (λ n o' e. search rules)

pub returns : goal.returns
returns c = c.put_line.ensures.put (λ n o' e. search rules)
