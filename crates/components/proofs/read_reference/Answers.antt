use mathlib.Core.List.{List}
use mathlib.Core.Path.{◌∙◌}
use Prim.Native.Nat.{ℕ}
use Rattle.std.proofs.Common.{rules}
use Rattle.rules.specs.Read.{word}
use Rattle.rules.specs.Words.{references}
use Rattle.rules.specs.Basic.{word_in}
use Rattle.parts.proofs.Generic.{word_as, itself}
use Rattle.components.proofs.read_reference.Goals as goal

pub returns : goal.returns
unfolding word
returns c = word_as (λ (f : List ℕ). word_in f references) (λ v e. tt) c.read_word.ensures (λ w e. itself w ∙ search rules)
