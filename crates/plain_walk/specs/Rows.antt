-- What the rows of work memory say, after the pass, of a component's line: what it refers to without REF, 22 and 23.
use Rattle.std.specs.Prelude.{ℕ, ◌<◌, List, Bool, true, false, eqb, Option, None, Some}
use Rattle.rules.specs.Basic.{pick}
use Rattle.rules.specs.Unicode.{fold_name}
use Rattle.rules.specs.Event.{Component, ComponentEvent, ingredient_event, cookware_event, timer_event, end_event, text_event, component_event, Event, between, inside, parser_event}
use Rattle.rules.specs.Model.{Kind, ingredient, cookware}
use Rattle.rules.specs.Modes.{is_components}
use Rattle.rules.specs.Plain.{mark_ref}
use Rattle.content.specs.Contents.{kept_in}
use Rattle.model.specs.Rows.{row_on, own_target}
use Rattle.model.specs.Memory.{rows_in}
use Rattle.model.specs.declared.Open.{Open}
use Rattle.model.specs.declared.Open.TheVariants as block
use Rattle.model.specs.declared.Held.{Held}
use Rattle.lookup.specs.Names.{name_part, same_row}
use Rattle.following.specs.declared.Follow.{Follow}
use Rattle.sheet.specs.Words.{define_of}

-- REF added where a line refers without it
unfoldable pub marked_as : Component → Option ℕ → Component
marked_as c None = c
marked_as c (Some d) = mark_ref c

-- 23, where `to` is what a line refers to without REF, and `last` the last of its name without REF
unfoldable pub fault_as : Option ℕ → Option ℕ → Option ℕ
fault_as None last = None
fault_as (Some d) None = Some 23
fault_as (Some d) (Some l) = pick (eqb d l) None (Some 23)

-- ---- the rows of a kind

module _ (rows : List ℕ) where
  -- what row n refers to, where its line has no REF
  unfoldable pub implicit_row : Bool → ℕ → Option ℕ
  implicit_row ref n = pick ref None (own_target (row_on rows n).relation.relation (row_on rows n).relation.index)

  -- the last row before row n that has its name, and no REF
  unfoldable pub last_row : List ℕ → ℕ → Option ℕ
  last_row sheet n = same_row sheet (fold_name (kept_in (name_part sheet (row_on rows n)))) true false rows n

-- ---- the rows in work memory

module _ (w : List ℕ) where
  -- what the component c in row n refers to without REF on its line
  unfoldable pub implicit_in : Kind → Component → ℕ → Option ℕ
  implicit_in k c n = implicit_row (rows_in k w) c.modifiers.ref n

  module _ (sheet : List ℕ) where
    unfoldable pub kind_fault : Kind → Component → ℕ → Option ℕ
    kind_fault k c n = fault_as (implicit_in k c n) (last_row (rows_in k w) sheet n)

    unfoldable pub mark_fault_in : ComponentEvent → Follow → Option ℕ
    mark_fault_in (ingredient_event c i) f = kind_fault ingredient c f.ingredients
    mark_fault_in (cookware_event c) f = kind_fault cookware c f.cookware
    mark_fault_in (timer_event s n q) f = None

    -- 22, then 23
    unfoldable pub component_fault_in : ComponentEvent → Open → Follow → Option ℕ
    component_fault_in c block.Nothing f = None
    component_fault_in c block.Step f = pick (is_components (define_of f.define)) (Some 22) (mark_fault_in c f)
    component_fault_in c block.Text f = None
    component_fault_in c block.TextMode f = None

    -- the fault of a line
    unfoldable pub fault_in : Event → Follow → Option ℕ
    fault_in (between b) f = None
    fault_in (inside (end_event k)) f = None
    fault_in (inside (text_event t)) f = None
    fault_in (inside (component_event c)) f = component_fault_in c f.block f
    fault_in (parser_event s n) f = None

-- ---- a component's line in a step has its row

unfoldable pub RowOf : ComponentEvent → Follow → Held → Type 0
RowOf (ingredient_event c i) f h = f.ingredients < h.counts.ingredients
RowOf (cookware_event c) f h = f.cookware < h.counts.cookware
RowOf (timer_event s n q) f h = Unit

unfoldable pub RowIn : ComponentEvent → Open → Follow → Held → Type 0
RowIn c block.Nothing f h = Unit
RowIn c block.Step f h = RowOf c f h
RowIn c block.Text f h = Unit
RowIn c block.TextMode f h = Unit

unfoldable pub RowFor : Event → Follow → Held → Type 0
RowFor (between b) f h = Unit
RowFor (inside (end_event k)) f h = Unit
RowFor (inside (text_event t)) f h = Unit
RowFor (inside (component_event c)) f h = RowIn c f.block f h
RowFor (parser_event s n) f h = Unit
