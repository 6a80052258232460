use Rattle.std.proofs.Common.{rules}
use Rattle.rules.specs.Page.{meta_line}
use Rattle.output.proofs.Writes.{writer}
use Rattle.content.specs.Contents.{content_in, kept_in}
use Rattle.meta_map.proofs.put_meta.Goals as goal

pub put_line-requires : goal.put_line-requires
put_line-requires c = writer (meta_line 0 (record { key = kept_in c.args.key.now; value = content_in c.args.value.now })) (λ p e. search rules) (λ n o' e. search rules)

pub returns : goal.returns
returns c = record { is = λ k. c.put_line.ensures.put (λ n o' e. search rules) }
