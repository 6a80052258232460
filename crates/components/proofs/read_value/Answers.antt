use Rattle.std.proofs.Common.{rules}
use Rattle.rules.specs.Read.{read_signed}
use Rattle.rules.specs.Sheet.{signed_of}
use Rattle.components.specs.Views.{signed_in}
use Rattle.parts.proofs.Generic.{word_as}
use Rattle.components.proofs.Leaves.{signed_most}
use Rattle.components.proofs.read_value.Goals as goal

pub returns : goal.returns
unfolding read_signed signed_in
returns c = word_as signed_of (λ v e. record { size = signed_most _ e }) c.read_word.ensures (λ w e. search rules)
