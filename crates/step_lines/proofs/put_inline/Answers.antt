use Rattle.std.proofs.Common.{rules}
use Rattle.rules.specs.Page.{inline_line}
use Rattle.output.proofs.Writes.{writer}
use Rattle.step_lines.specs.Lines.{quantity_as}
use Rattle.step_lines.proofs.put_inline.Goals as goal

pub put_line-requires : goal.put_line-requires
put_line-requires c = writer (inline_line c.args.index (quantity_as c.args.number.now c.args.unit.now)) (λ p e. search rules) (λ n o' e. search rules)

pub returns : goal.returns
returns c = c.put_line.ensures.put (λ n o' e. search rules)
