use Rattle.text.proofs.Pairs.{letter_s}
use Rattle.text.proofs.meets.is_s.Goals as goal

pub returns : goal.returns
returns c = λ e. letter_s _ e
