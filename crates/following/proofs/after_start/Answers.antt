use Rattle.following.proofs.Follows.{start_shown, start_new}
use Rattle.following.proofs.after_start.Goals as goal

pub returns-then-f : goal.returns-then-f
returns-then-f c = start_shown c.args.block c.args.f c.if-f.true

pub returns-else-f : goal.returns-else-f
returns-else-f c = start_new c.args.block c.args.f c.keeps_block-kept.ensures c.if-f.false
