use Rattle.page_parts.proofs.Timers.{meta_defines, meta_other, meta_first, meta_later}
use Rattle.page_parts.proofs.each_part.meta_line.Goals as goal

pub returns-then-f : goal.returns-then-f
returns-then-f c = meta_later _ _ c.args.key c.args.value c.args.f c.meta_of-m.ensures c.in-Ordinary.is c.if-f.true c.span_piece.ensures

pub returns-in-Defines : goal.returns-in-Defines
returns-in-Defines c = meta_defines _ _ c.args.key c.args.value c.args.f c.meta_of-m.ensures _ c.in-Defines.is

pub returns-else-f : goal.returns-else-f
returns-else-f c = meta_first _ _ c.args.key c.args.value c.args.f c.meta_of-m.ensures c.in-Ordinary.is c.if-f.false c.span_piece-in-Ordinary.ensures

pub returns-in-Other : goal.returns-in-Other
returns-in-Other c = meta_other _ _ c.args.key c.args.value c.args.f c.meta_of-m.ensures c.in-Other.is
