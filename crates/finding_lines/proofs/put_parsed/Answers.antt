use Rattle.std.proofs.Common.{rules}
use Rattle.rules.specs.Basic.{pick}
use Rattle.rules.specs.Words.{severe, mild}
use Rattle.rules.specs.Finding.{parsed}
use Rattle.rules.specs.Page.{finding_line}
use Rattle.output.proofs.Writes.{writer}
use Rattle.finding_lines.proofs.put_parsed.Goals as goal

pub put_line-requires : goal.put_line-requires
put_line-requires c = writer (finding_line 0 (parsed (pick c.args.error severe mild) c.args.number)) (λ p e. tt) (λ n o' e. search rules)

pub returns : goal.returns
returns c = record { is = λ k. c.put_line.ensures.put (λ n o' e. search rules) }
