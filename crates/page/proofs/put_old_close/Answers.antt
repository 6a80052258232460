use Rattle.std.proofs.Common.{rules}
use Rattle.output.proofs.Writes.{writer}
use Rattle.finding_lines.specs.Lines.{old_close}
use Rattle.page.proofs.put_old_close.Goals as goal

pub put_line-requires : goal.put_line-requires
put_line-requires c = writer old_close (λ p e. tt) (λ n o' e. search rules)

pub returns : goal.returns
returns c = c.put_line.ensures.put (λ n o' e. search rules)
