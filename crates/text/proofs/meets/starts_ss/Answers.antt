use Rattle.text.proofs.Pairs.{starts_double}
use Rattle.rules.proofs.Basics.{no_truth}
use Rattle.text.proofs.meets.starts_ss.Goals as goal

pub returns-then-s-lt2 : goal.returns-then-s-lt2
returns-then-s-lt2 c = λ e. no_truth e

pub returns-then-is_s : goal.returns-then-is_s
returns-then-is_s c = λ e. starts_double _ c.if-s-lt2.false (c.is_s.ensures c.if-is_s.true) (c.is_s-then-is_s.ensures e)
