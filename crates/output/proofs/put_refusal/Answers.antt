use Rattle.std.proofs.Common.{rules}
use Rattle.rules.specs.Sheet.{refused_line}
use Rattle.output.proofs.Writes.{writer}
use Rattle.output.proofs.put_refusal.Goals as goal

pub put_line-requires : goal.put_line-requires
put_line-requires c = writer (refused_line c.args.number c.args.line) (λ p e. tt) (λ n o' e. search rules)

pub returns : goal.returns
returns c = c.put_line.ensures.put (λ n o' e. search rules)
