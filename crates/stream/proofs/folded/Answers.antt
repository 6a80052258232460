use borrow.Author.Rules.{rules}
use Rattle.text.proofs.Names.{fewer}
use Rattle.stream.proofs.folded.Goals as goal

pub loop-sum-init : goal.loop-sum-init
loop-sum-init c = tt

pub loop-sum-smaller : goal.loop-sum-smaller
loop-sum-smaller c = search (rules, fewer)

pub loop-sum-preserved : goal.loop-sum-preserved
loop-sum-preserved c = tt
