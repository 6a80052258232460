-- What the view of a line stands for, by the rules, and what holds of a view that was read.
use Rattle.std.specs.Prelude.{ℕ, ◌≤◌, List, [], ◌++◌}
use Rattle.rules.specs.Words as words
use Rattle.rules.specs.Event as rules
use Rattle.parts.specs.Views.{span_in, SpanWithin, text_in, TextWithin, opt_text_in, OptTextWithin, opt_quantity_in, OptQuantityWithin, raw_text, raw_opt_text, raw_opt_quantity}
use Rattle.components.specs.Views.{component_in, ComponentWithin, raw_component, opt_intermediate_in, OptIntermediateWithin}
use Rattle.events.specs.declared.Between.{Between}
use Rattle.events.specs.declared.Between.TheVariants as between
use Rattle.events.specs.declared.ComponentEvent.{ComponentEvent}
use Rattle.events.specs.declared.ComponentEvent.TheVariants as component
use Rattle.events.specs.declared.Inside.{Inside}
use Rattle.events.specs.declared.Inside.TheVariants as inside
use Rattle.events.specs.declared.Severity.{Severity}
use Rattle.events.specs.declared.Severity.TheVariants as severity
use Rattle.events.specs.declared.EventView.{EventView}
use Rattle.events.specs.declared.EventView.TheVariants as event
use Rattle.sheet.specs.Words.{block_in}

unfoldable pub severity_in : Severity → words.Severity
severity_in severity.Severe = words.severe
severity_in severity.Mild = words.mild

unfoldable pub between_in : List ℕ → Between → rules.Between
between_in line (between.Meta k v) = rules.meta_event (text_in line k) (text_in line v)
between_in line (between.Section n) = rules.section_event (opt_text_in line n)
between_in line (between.Start k) = rules.start_event (block_in k)

unfoldable pub component_event_in : List ℕ → ComponentEvent → rules.ComponentEvent
component_event_in line (component.Ingredient c i) = rules.ingredient_event (component_in line c) (opt_intermediate_in i)
component_event_in line (component.Cookware c) = rules.cookware_event (component_in line c)
component_event_in line (component.Timer s n q) = rules.timer_event (span_in s) (opt_text_in line n) (opt_quantity_in line q)

unfoldable pub inside_in : List ℕ → Inside → rules.Inside
inside_in line (inside.End k) = rules.end_event (block_in k)
inside_in line (inside.Text t) = rules.text_event (text_in line t)
inside_in line (inside.Component c) = rules.component_event (component_event_in line c)

unfoldable pub event_in : List ℕ → EventView → rules.Event
event_in line (event.Between b) = rules.between (between_in line b)
event_in line (event.Inside i) = rules.inside (inside_in line i)
event_in line (event.Finding s n) = rules.parser_event (severity_in s) n

-- ---- bounds

unfoldable pub BetweenWithin : List ℕ → Between → Type 0
BetweenWithin line (between.Meta k v) = TextWithin line k × TextWithin line v
BetweenWithin line (between.Section n) = OptTextWithin line n
BetweenWithin line (between.Start k) = Unit

unfoldable pub ComponentEventWithin : List ℕ → ComponentEvent → Type 0
ComponentEventWithin line (component.Ingredient c i) = ComponentWithin line c × OptIntermediateWithin i
ComponentEventWithin line (component.Cookware c) = ComponentWithin line c
ComponentEventWithin line (component.Timer s n q) = SpanWithin s × OptTextWithin line n × OptQuantityWithin line q

unfoldable pub InsideWithin : List ℕ → Inside → Type 0
InsideWithin line (inside.End k) = Unit
InsideWithin line (inside.Text t) = TextWithin line t
InsideWithin line (inside.Component c) = ComponentEventWithin line c

unfoldable pub EventWithin : List ℕ → EventView → Type 0
EventWithin line (event.Between b) = BetweenWithin line b
EventWithin line (event.Inside i) = InsideWithin line i
EventWithin line (event.Finding s n) = n ≤ 65535

-- ---- the contents that the view holds, as they stand in the line

abbrev pub raw_between : List ℕ → Between → List (List ℕ)
raw_between line (between.Meta k v) = raw_text line k ++ raw_text line v
raw_between line (between.Section n) = raw_opt_text line n
raw_between line (between.Start k) = []

abbrev pub raw_component_event : List ℕ → ComponentEvent → List (List ℕ)
raw_component_event line (component.Ingredient c i) = raw_component line c
raw_component_event line (component.Cookware c) = raw_component line c
raw_component_event line (component.Timer s n q) = raw_opt_text line n ++ raw_opt_quantity line q

abbrev pub raw_inside : List ℕ → Inside → List (List ℕ)
raw_inside line (inside.End k) = []
raw_inside line (inside.Text t) = raw_text line t
raw_inside line (inside.Component c) = raw_component_event line c

abbrev pub raw_event : List ℕ → EventView → List (List ℕ)
raw_event line (event.Between b) = raw_between line b
raw_event line (event.Inside i) = raw_inside line i
raw_event line (event.Finding s n) = []
