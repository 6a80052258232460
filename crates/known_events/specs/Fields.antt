-- The contents that the view of a line holds are whole fields of the line.
use Rattle.std.specs.Prelude.{ℕ, List, None, Option, Some}
use Rattle.content.specs.Parts.{Field}
use Rattle.parts.specs.Views.{part_of}
use Rattle.parts.specs.declared.TextView.{TextView}
use Rattle.parts.specs.declared.QuantityView.{QuantityView}
use Rattle.components.specs.declared.ComponentView.{ComponentView}
use Rattle.events.specs.declared.Between.{Between}
use Rattle.events.specs.declared.Between.TheVariants as between
use Rattle.events.specs.declared.ComponentEvent.{ComponentEvent}
use Rattle.events.specs.declared.ComponentEvent.TheVariants as component
use Rattle.events.specs.declared.Inside.{Inside}
use Rattle.events.specs.declared.Inside.TheVariants as inside
use Rattle.events.specs.declared.EventView.{EventView}
use Rattle.events.specs.declared.EventView.TheVariants as event

unfoldable pub TextField : List ℕ → TextView → Type 0
TextField line v = Field (part_of line v.content)

unfoldable pub OptTextField : List ℕ → Option TextView → Type 0
OptTextField line None = Unit
OptTextField line (Some v) = TextField line v

pub record QuantityFields (line : List ℕ) (v : QuantityView) : Type 0 where
  pub value : Field (part_of line v.value)
  pub unit : OptTextField line v.unit

unfoldable pub OptQuantityFields : List ℕ → Option QuantityView → Type 0
OptQuantityFields line None = Unit
OptQuantityFields line (Some v) = QuantityFields line v

pub record ComponentFields (line : List ℕ) (v : ComponentView) : Type 0 where
  pub name : TextField line v.name
  pub alias : OptTextField line v.alias
  pub quantity : OptQuantityFields line v.quantity
  pub note : OptTextField line v.note

unfoldable pub BetweenFields : List ℕ → Between → Type 0
BetweenFields line (between.Meta k v) = TextField line k × TextField line v
BetweenFields line (between.Section n) = OptTextField line n
BetweenFields line (between.Start k) = Unit

unfoldable pub ComponentEventFields : List ℕ → ComponentEvent → Type 0
ComponentEventFields line (component.Ingredient c i) = ComponentFields line c
ComponentEventFields line (component.Cookware c) = ComponentFields line c
ComponentEventFields line (component.Timer s n q) = OptTextField line n × OptQuantityFields line q

unfoldable pub InsideFields : List ℕ → Inside → Type 0
InsideFields line (inside.End k) = Unit
InsideFields line (inside.Text t) = TextField line t
InsideFields line (inside.Component c) = ComponentEventFields line c

unfoldable pub EventFields : List ℕ → EventView → Type 0
EventFields line (event.Between b) = BetweenFields line b
EventFields line (event.Inside i) = InsideFields line i
EventFields line (event.Finding s n) = Unit
