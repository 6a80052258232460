use Rattle.unit_index.proofs.Searches.{bucket_of, seek_first, seek_below, seek_few, seek_less, line_in, content_gone, content_found, content_next}
use Rattle.unit_index.proofs.find_named.Goals as goal

pub loop-p-init : goal.loop-p-init
loop-p-init c = seek_first c.args.units.now.indexed.filled c.head_at-p.ensures (bucket_of c.hash_kept-h.ensures)

pub start_at-from-requires : goal.start_at-from-requires
start_at-from-requires c = seek_few c.args.units.now.indexed.filled c.loop-p.invariant c.loop-p-test.true

pub line_at-u-requires : goal.line_at-u-requires
line_at-u-requires c = rw c.start_at-from.ensures (line_in c.args.units.now.indexed.filled (seek_below c.args.units.now.indexed.filled c.loop-p.invariant c.loop-p-test.true))

pub returns-then-same_content : goal.returns-then-same_content
returns-then-same_content c = content_found c.args.units.now.indexed c.loop-p.invariant c.loop-p-test.true c.start_at-from.ensures c.line_at-u.ensures c.same_content.ensures c.if-same_content.true

pub next_at-p-requires : goal.next_at-p-requires
next_at-p-requires c = seek_few c.args.units.now.indexed.filled c.loop-p.invariant c.loop-p-test.true

pub loop-p-smaller : goal.loop-p-smaller
loop-p-smaller c = seek_less c.args.units.now.indexed.filled c.loop-p.invariant c.loop-p-test.true c.next_at-p.ensures

pub loop-p-preserved : goal.loop-p-preserved
loop-p-preserved c = content_next c.args.units.now.indexed c.loop-p.invariant c.loop-p-test.true c.start_at-from.ensures c.line_at-u.ensures c.same_content.ensures c.if-same_content.false c.next_at-p.ensures

pub returns : goal.returns
returns c = content_gone c.args.units.now.indexed c.loop-p.invariant c.loop-p-test.false
