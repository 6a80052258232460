use Rattle.std.proofs.Common.{rules}
use Rattle.output.proofs.Writes.{writer}
use Rattle.following.specs.Drawn.{lead}
use Rattle.page_parts.proofs.put_lead.Goals as goal

pub put_line-requires : goal.put_line-requires
put_line-requires c = writer (lead c.args.counter c.args.b) (λ p e. tt) (λ n o' e. search rules)

pub returns : goal.returns
returns c = c.put_line.ensures.put (λ n o' e. search rules)
