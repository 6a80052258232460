use Rattle.std.proofs.Common.{rules}
use Rattle.rules.specs.Page.{finding_line}
use Rattle.output.proofs.Writes.{writer}
use Rattle.model.specs.Rows.{finding_of}
use Rattle.finding_lines.proofs.put_finding.Goals as goal

pub put_line-requires : goal.put_line-requires
put_line-requires c = writer (finding_line 0 (finding_of c.args.x)) (λ p e. tt) (λ n o' e. search rules)

pub returns : goal.returns
returns c = record { is = λ k. c.put_line.ensures.put (λ n o' e. search rules) }
