use Rattle.finding_lines.proofs.Texts.{piece_first, piece_next}
use Rattle.finding_lines.proofs.span_piece.Goals as goal

pub returns-then-first : goal.returns-then-first
returns-then-first c = piece_first c.args.s c.if-first.true c.put_span.ensures

pub returns : goal.returns
returns c = piece_next c.args.s c.if-first.false c.put_byte-a.ensures c.put_span-2.ensures
