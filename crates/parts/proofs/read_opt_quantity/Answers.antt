use Rattle.std.proofs.Common.{refl}
use Rattle.std.proofs.Common.{rules}
use Rattle.rules.specs.Read.{read_quantity}
use Rattle.parts.specs.Views.{opt_quantity_in, OptQuantityWithin}
use Rattle.parts.proofs.Generic.{opt_as}
use Rattle.parts.proofs.read_opt_quantity.Goals as goal

pub returns : goal.returns
unfolding opt_quantity_in OptQuantityWithin
returns c = opt_as (record { none = (refl, tt, refl); some = λ v. (refl, (λ g. g), refl) }) read_quantity c.read_opt.ensures (λ p o q e. search rules)
