use Rattle.finding_lines.proofs.Texts.{spans_none, spans_one, spans_two}
use Rattle.finding_lines.proofs.put_spans.Goals as goal

pub returns-then-x-eq0 : goal.returns-then-x-eq0
returns-then-x-eq0 c = spans_none c.args.x c.put_byte-a.ensures c.if-x-eq0.true

pub returns-then-x-eq1 : goal.returns-then-x-eq1
returns-then-x-eq1 c = spans_one c.args.x c.put_byte-a.ensures c.if-x-eq0.false c.put_span-b.ensures c.if-x-eq1.true

pub returns : goal.returns
returns c = spans_two c.args.x c.put_byte-a.ensures c.if-x-eq0.false c.put_span-b.ensures c.if-x-eq1.false c.put_byte-c.ensures c.put_span.ensures
