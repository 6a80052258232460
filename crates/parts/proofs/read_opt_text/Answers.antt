use Rattle.std.proofs.Common.{refl}
use Rattle.std.proofs.Common.{rules}
use Rattle.rules.specs.Read.{read_text}
use Rattle.parts.specs.Views.{opt_text_in, OptTextWithin}
use Rattle.parts.proofs.Generic.{opt_as}
use Rattle.parts.proofs.read_opt_text.Goals as goal

pub returns : goal.returns
unfolding opt_text_in OptTextWithin
returns c = opt_as (record { none = (refl, tt, refl); some = λ v. (refl, (λ g. g), refl) }) read_text c.read_opt.ensures (λ p o q e. search rules)
