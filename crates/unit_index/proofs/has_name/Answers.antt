use native.Mathlib.Omega.{arith}
use Rattle.rules.specs.Utf8.{chars}
use Rattle.unit_index.proofs.Searches.{bucket_small, seek_first, seek_below, seek_few, seek_less, line_in, name_gone, name_found, name_next}
use Rattle.unit_index.proofs.has_name.Goals as goal

pub head_at-p-requires : goal.head_at-p-requires
head_at-p-requires c = omega (arith, bucket_small (chars c.args.name.now), c.requires.2)

pub loop-p-init : goal.loop-p-init
loop-p-init c = seek_first c.requires.0 c.head_at-p.ensures c.requires.2

pub start_at-from-requires : goal.start_at-from-requires
start_at-from-requires c = seek_few c.requires.0 c.loop-p.invariant c.loop-p-test.true

pub line_at-u-requires : goal.line_at-u-requires
line_at-u-requires c = rw c.start_at-from.ensures (line_in c.requires.0 (seek_below c.requires.0 c.loop-p.invariant c.loop-p-test.true))

pub is_named-requires : goal.is_named-requires
is_named-requires c = omega (arith, c.line_at-u.ensures.named, c.line_at-u.ensures.ended, c.line_at-u.ensures.within)

pub returns-then-is_named : goal.returns-then-is_named
returns-then-is_named c = name_found c.args.name.now c.requires.0 c.requires.1 c.loop-p.invariant c.loop-p-test.true c.start_at-from.ensures c.line_at-u.ensures c.is_named.ensures c.if-is_named.true

pub next_at-p-requires : goal.next_at-p-requires
next_at-p-requires c = seek_few c.requires.0 c.loop-p.invariant c.loop-p-test.true

pub loop-p-smaller : goal.loop-p-smaller
loop-p-smaller c = seek_less c.requires.0 c.loop-p.invariant c.loop-p-test.true c.next_at-p.ensures

pub loop-p-preserved : goal.loop-p-preserved
loop-p-preserved c = name_next c.args.name.now c.requires.0 c.requires.1 c.loop-p.invariant c.loop-p-test.true c.start_at-from.ensures c.line_at-u.ensures c.is_named.ensures c.if-is_named.false c.next_at-p.ensures

pub returns : goal.returns
returns c = name_gone c.args.name.now c.requires.0 c.requires.1 c.loop-p.invariant c.loop-p-test.false
