use Rattle.unit_checks.proofs.Codes.{written_same, written_trimmed}
use Rattle.unit_checks.proofs.kept.same_written.Goals as goal

pub returns-then-same_bytes : goal.returns-then-same_bytes
returns-then-same_bytes c = written_same _ _ c.same_bytes.ensures c.if-same_bytes.true

pub returns : goal.returns
returns c = written_trimmed c.text_outer_trimmed-y.ensures c.args.new.now.trims c.same_parts.ensures
