use Rattle.std.proofs.Common.{rules}
use Rattle.rules.specs.Model.{text_item}
use Rattle.rules.specs.Page.{item_line}
use Rattle.output.proofs.Writes.{writer}
use Rattle.content.specs.Contents.{content_in}
use Rattle.step_lines.proofs.Splits.{text_empty, text_some}
use Rattle.step_lines.proofs.put_text.Goals as goal

pub returns-then-f-eq0 : goal.returns-then-f-eq0
returns-then-f-eq0 c = text_empty c.if-f-eq0.true c.put_bytes.ensures

pub put_line-requires : goal.put_line-requires
put_line-requires c = writer (item_line 0 (text_item (content_in c.args.f.now))) (λ p e. search rules) (λ n o' e. search rules)

pub returns : goal.returns
returns c = text_some _ c.if-f-eq0.false (c.put_line.ensures.put (λ n o' e. search rules))
