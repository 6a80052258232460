use Rattle.page_parts.proofs.Arms.{start_shown, start_first, start_dropped}
use Rattle.page_parts.proofs.start_line.Goals as goal

pub returns-then-f : goal.returns-then-f
returns-then-f c = start_shown c.args.f c.args.b c.keeps_block.ensures c.if-keeps_block.true c.if-f.true c.lead_line.ensures

pub returns-then-keeps_block : goal.returns-then-keeps_block
returns-then-keeps_block c = start_first c.args.f c.args.b c.keeps_block.ensures c.if-keeps_block.true c.if-f.false c.unnamed_section_line-n.ensures c.put_lead.ensures

pub returns : goal.returns
returns c = start_dropped c.args.f c.args.b c.keeps_block.ensures c.if-keeps_block.false
