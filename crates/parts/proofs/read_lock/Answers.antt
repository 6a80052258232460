use Rattle.std.proofs.Common.{ℕ, List, ◌∙◌, rules}
use Rattle.rules.specs.Read.{word}
use Rattle.rules.specs.Words.{locks}
use Rattle.rules.specs.Basic.{word_in}
use Rattle.parts.proofs.Generic.{word_as, itself}
use Rattle.parts.proofs.read_lock.Goals as goal

pub returns : goal.returns
unfolding word
returns c = word_as (λ (f : List ℕ). word_in f locks) (λ v e. tt) c.read_word.ensures (λ w e. itself w ∙ search rules)
