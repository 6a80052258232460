use Rattle.std.proofs.Common.{rules}
use Rattle.rules.specs.Read.{modifiers_of, read_modifiers}
use Rattle.parts.proofs.Generic.{word_as}
use Rattle.components.proofs.read_modifiers.Goals as goal

pub returns : goal.returns
unfolding read_modifiers
returns c = word_as modifiers_of (λ v e. tt) c.read_word.ensures (λ w e. search rules)
