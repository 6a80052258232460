-- What the views of components stand for, by the rules, and what holds of a view that was read.
use Rattle.std.specs.Prelude.{ℕ, ◌≤◌, ◌≡◌, List, ◌∷◌, ◌++◌, drop, Option, None, Some}
use Rattle.rules.specs.Words as words
use Rattle.rules.specs.Sheet as sheets
use Rattle.rules.specs.Event as rules
use Rattle.rules.specs.Read.{past}
use Rattle.parts.specs.Views.{span_in, SpanWithin, text_in, TextWithin, opt_text_in, OptTextWithin, opt_quantity_in, OptQuantityWithin, part_of, raw_opt_text, raw_opt_quantity}
use Rattle.components.specs.declared.Modifiers.{Modifiers}
use Rattle.components.specs.declared.ComponentView.{ComponentView}
use Rattle.components.specs.declared.SignedView.{SignedView}
use Rattle.components.specs.declared.Target.{Target}
use Rattle.components.specs.declared.Target.TheVariants as target
use Rattle.components.specs.declared.Intermediate.{Intermediate}

-- r is the place in s after the letter c, if that stands at `at`
pub record Skips (s : List ℕ) (c at r : ℕ) : Type 0 where
  pub is : drop r s ≡ past c (drop at s)

unfoldable pub modifiers_in : Modifiers → rules.Modifiers
modifiers_in m = record { recipe = m.recipe; ref = m.reference; hidden = m.hidden; opt = m.opt; new = m.new }

unfoldable pub component_in : List ℕ → ComponentView → rules.Component
component_in line v =
    record {
      span = span_in v.span;
      name = text_in line v.name;
      alias = opt_text_in line v.alias;
      quantity = opt_quantity_in line v.quantity;
      note = opt_text_in line v.note;
      modifiers = modifiers_in v.modifiers;
      modifiers_span = span_in v.modifiers_span;
    }

pub record ComponentWithin (line : List ℕ) (v : ComponentView) : Type 0 where
  pub span : SpanWithin v.span
  pub name : TextWithin line v.name
  pub alias : OptTextWithin line v.alias
  pub quantity : OptQuantityWithin line v.quantity
  pub note : OptTextWithin line v.note
  pub modifiers_span : SpanWithin v.modifiers_span

unfoldable pub signed_in : SignedView → sheets.Signed
signed_in v = record { negative = v.negative; size = v.size }

unfoldable pub target_in : Target → words.IntermediateTarget
target_in target.Step = words.target_step
target_in target.Section = words.target_section

unfoldable pub intermediate_in : Intermediate → rules.Intermediate
intermediate_in v =
    record { relative = v.relative; target = target_in v.target; value = signed_in v.value; span = span_in v.span }

pub record SignedWithin (v : SignedView) : Type 0 where
  pub size : v.size ≤ 32768

pub record IntermediateWithin (v : Intermediate) : Type 0 where
  pub value : SignedWithin v.value
  pub span : SpanWithin v.span

unfoldable pub opt_intermediate_in : Option Intermediate → Option rules.Intermediate
opt_intermediate_in None = None
opt_intermediate_in (Some v) = Some (intermediate_in v)

unfoldable pub OptIntermediateWithin : Option Intermediate → Type 0
OptIntermediateWithin None = Unit
OptIntermediateWithin (Some v) = IntermediateWithin v

-- the contents that a component holds, as they stand in the line
abbrev pub raw_component : List ℕ → ComponentView → List (List ℕ)
raw_component line v =
    part_of line v.name.content ∷ (raw_opt_text line v.alias ++ (raw_opt_quantity line v.quantity ++ raw_opt_text line v.note))
