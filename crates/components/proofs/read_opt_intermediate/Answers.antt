use Rattle.std.proofs.Common.{rules}
use mathlib.Core.Path.{refl}
use Rattle.rules.specs.Read.{read_intermediate}
use Rattle.components.specs.Views.{opt_intermediate_in, OptIntermediateWithin}
use Rattle.parts.proofs.Generic.{opt_as}
use Rattle.components.proofs.read_opt_intermediate.Goals as goal

pub returns : goal.returns
unfolding opt_intermediate_in OptIntermediateWithin
returns c = opt_as (record { none = (refl, tt, refl); some = λ v. (refl, (λ g. g), refl) }) read_intermediate c.read_opt.ensures (λ p o q e. search rules)
