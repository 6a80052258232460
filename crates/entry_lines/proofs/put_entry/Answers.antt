use native.Mathlib.Omega.{arith}
use Rattle.output.proofs.Puts.{put_past, rest_fits, put_rest}
use Rattle.entry_lines.proofs.put_entry.Goals as goal

pub returns-then-out-at : goal.returns-then-out-at
returns-then-out-at c = put_past _ _ _ c.if-out-at.true

pub overflow_add-result-2 : goal.overflow_add-result-2
overflow_add-result-2 c = record { fits = rest_fits _ _ (omega arith) c.if-out-at.false c.entry_line.ensures }

pub returns : goal.returns
returns c = put_rest _ _ c.if-out-at.false c.entry_line.ensures
