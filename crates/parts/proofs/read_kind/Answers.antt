use Rattle.std.proofs.Common.{ℕ, List, rules}
use Rattle.rules.specs.Read.{word}
use Rattle.rules.specs.Words.{value_kinds}
use Rattle.rules.specs.Basic.{word_in}
use Rattle.parts.proofs.Generic.{word_as}
use Rattle.parts.proofs.read_kind.Goals as goal

pub returns : goal.returns
unfolding word
returns c = word_as (λ (f : List ℕ). word_in f value_kinds) (λ v e. tt) c.read_word.ensures (λ w e. search rules)
