-- What the component of a line stands for.
use Rattle.std.specs.Prelude.{ℕ, ◌≡◌, true, false, List, None, Option}
use Rattle.rules.specs.Read.{parse_line}
use Rattle.rules.specs.Model.{Kind, ingredient}
use Rattle.parts.specs.Views.{opt_quantity_in, OptQuantityWithin}
use Rattle.components.specs.declared.ComponentView.{ComponentView}
use Rattle.components.specs.Views.{component_in, ComponentWithin}
use Rattle.events.specs.declared.EventView.{EventView}
use Rattle.events.specs.declared.EventView.TheVariants as event
use Rattle.events.specs.declared.Inside.{Inside}
use Rattle.events.specs.declared.Inside.TheVariants as inside
use Rattle.events.specs.declared.ComponentEvent.{ComponentEvent}
use Rattle.events.specs.declared.ComponentEvent.TheVariants as component
use Rattle.known_events.specs.Fields.{ComponentFields}
use Rattle.model.specs.Rows.{component_of_line}
use Rattle.model.specs.Fits.{is_of_kind}
use Rattle.parts.specs.declared.QuantityView.{QuantityView}

-- the view of nothing
unfoldable pub blank_view : ComponentView
blank_view =
    record {
      span = record { start = 0; end = 0 };
      name = record { span = record { start = 0; end = 0 }; content = record { from = 0; to = 0 } };
      alias = None;
      quantity = None;
      note = None;
      modifiers = record { recipe = false; reference = false; hidden = false; opt = false; new = false };
      modifiers_span = record { start = 0; end = 0 };
    }

-- the component of an event; of an event that is none, the view of nothing
unfoldable pub view_of : ComponentEvent → ComponentView
view_of (component.Ingredient v i) = v
view_of (component.Cookware v) = v
view_of (component.Timer s n q) = blank_view

unfoldable pub view_inside : Inside → ComponentView
view_inside (inside.End k) = blank_view
view_inside (inside.Text t) = blank_view
view_inside (inside.Component c) = view_of c

unfoldable pub view_in : EventView → ComponentView
view_in (event.Between b) = blank_view
view_in (event.Inside i) = view_inside i
view_in (event.Finding s n) = blank_view

-- where the line is a component of a kind, the view stands for that component, and its contents are whole fields of the line;
-- else it is the view of nothing
pub record Recalled (line : List ℕ) (v : ComponentView) : Type 0 where
  pub is : (k : Kind) → is_of_kind k (parse_line line) ≡ true → component_in line v ≡ component_of_line k line
  pub within : (k : Kind) → is_of_kind k (parse_line line) ≡ true → ComponentWithin line v
  pub fields : (k : Kind) → is_of_kind k (parse_line line) ≡ true → ComponentFields line v
  pub nothing : ((k : Kind) → is_of_kind k (parse_line line) ≡ false) → v ≡ blank_view

-- q is the quantity of the line's ingredient
pub record QuantityRecalled (line : List ℕ) (q : Option QuantityView) : Type 0 where
  pub is : opt_quantity_in line q ≡ (component_of_line ingredient line).quantity
  pub within : OptQuantityWithin line q
