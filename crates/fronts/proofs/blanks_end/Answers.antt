use borrow.Author.Rules.{rules}
use Rattle.fronts.proofs.Ends.{blanks_none, blanks_more}
use Rattle.fronts.proofs.blanks_end.Goals as goal

pub loop-i-init : goal.loop-i-init
loop-i-init c = blanks_none _

pub loop-i-preserved : goal.loop-i-preserved
loop-i-preserved c = search (rules, blanks_more)
