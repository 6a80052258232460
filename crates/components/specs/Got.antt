-- What the readers of components answer: the rules' reading of the fields that are left.
use Rattle.std.specs.Prelude.{ℕ, List, Option}
use Rattle.rules.specs.Read.{opt, read_component, read_signed, read_intermediate}
use Rattle.parts.specs.Got.{ReadAt, no_contents}
use Rattle.components.specs.declared.ComponentView.{ComponentView}
use Rattle.components.specs.declared.SignedView.{SignedView}
use Rattle.components.specs.declared.Intermediate.{Intermediate}
use Rattle.components.specs.Views.{component_in, ComponentWithin, raw_component, signed_in, SignedWithin, intermediate_in, IntermediateWithin, opt_intermediate_in, OptIntermediateWithin}

abbrev pub ComponentRead : List ℕ → ℕ → Option (ComponentView × ℕ) → Type 0
ComponentRead line at r = ReadAt (component_in line) (ComponentWithin line) (raw_component line) read_component line at r

abbrev pub SignedRead : List ℕ → ℕ → Option (SignedView × ℕ) → Type 0
SignedRead line at r = ReadAt signed_in SignedWithin no_contents read_signed line at r

abbrev pub IntermediateRead : List ℕ → ℕ → Option (Intermediate × ℕ) → Type 0
IntermediateRead line at r = ReadAt intermediate_in IntermediateWithin no_contents read_intermediate line at r

abbrev pub OptIntermediateRead : List ℕ → ℕ → Option (Option Intermediate × ℕ) → Type 0
OptIntermediateRead line at r = ReadAt opt_intermediate_in OptIntermediateWithin no_contents (opt read_intermediate) line at r
