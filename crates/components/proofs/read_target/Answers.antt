use mathlib.Core.List.{List}
use Prim.Native.Nat.{ℕ}
use Rattle.std.proofs.Common.{rules}
use Rattle.rules.specs.Read.{word}
use Rattle.rules.specs.Words.{targets}
use Rattle.rules.specs.Basic.{word_in}
use Rattle.parts.proofs.Generic.{word_as}
use Rattle.components.proofs.read_target.Goals as goal

pub returns : goal.returns
unfolding word
returns c = word_as (λ (f : List ℕ). word_in f targets) (λ v e. tt) c.read_word.ensures (λ w e. search rules)
