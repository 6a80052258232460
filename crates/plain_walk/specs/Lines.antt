-- What each line becomes in the plain form, by the small state and the rows of work memory after the pass.
use Rattle.std.specs.Prelude.{ℕ, ◌≡◌, List, [], ◌∷◌, ◌&&◌, Option, None, Some}
use Rattle.rules.specs.Basic.{pick}
use Rattle.rules.specs.Words.{step_kind, text_kind}
use Rattle.rules.specs.Event.{Component, Intermediate, Between, meta_event, section_event, start_event, ComponentEvent, ingredient_event, cookware_event, timer_event, Inside, end_event, text_event, component_event, Event, between, inside, parser_event}
use Rattle.rules.specs.Model.{ingredient, cookware}
use Rattle.rules.specs.Modes.{is_components, is_text, has_modes, key_of, key_text}
use Rattle.rules.specs.State.{State}
use Rattle.rules.specs.Plain.{mark_ref, is_mode_key, in_plain_text}
use Rattle.model.specs.declared.Open.{Open}
use Rattle.model.specs.declared.Open.TheVariants as block
use Rattle.following.specs.declared.Follow.{Follow}
use Rattle.following.specs.Drawn.{follow_of}
use Rattle.following.specs.Follow.{with_inline}
use Rattle.plain_walk.specs.Rows.{marked_as, implicit_in}
use Rattle.sheet.specs.Words.{define_of}

-- f is what of the state the next line's form depends on; inline quantities are not counted
pub record Behind (st : State) (f : Follow) : Type 0 where
  pub is : f ≡ with_inline 0 (follow_of st)

-- ---- lines between blocks

-- "components-mode step blocks removed"
unfoldable pub unless_dropped : Follow → Event → List Event
unless_dropped f e = pick (is_components (define_of f.define)) [] (e ∷ [])

module _ (flags : ℕ) where
  unfoldable pub between_plain : Between → Follow → List Event
  between_plain (meta_event k v) f = pick (has_modes flags && is_mode_key (key_of (key_text k))) [] (between (meta_event k v) ∷ [])
  between_plain (section_event n) f = between (section_event n) ∷ []
  between_plain (start_event text_kind) f = between (start_event text_kind) ∷ []
  between_plain (start_event step_kind) f =
      pick (is_text (define_of f.define)) (between (start_event text_kind) ∷ []) (unless_dropped f (between (start_event step_kind)))

-- ---- lines in a step

-- an ingredient that refers without REF has no intermediate reference
unfoldable pub ingredient_plain : Component → Option Intermediate → Option ℕ → ComponentEvent
ingredient_plain c i None = ingredient_event c i
ingredient_plain c i (Some d) = ingredient_event (mark_ref c) None

module _ (w : List ℕ) where
  unfoldable pub component_plain : ComponentEvent → Follow → ComponentEvent
  component_plain (ingredient_event c i) f = ingredient_plain c i (implicit_in w ingredient c f.ingredients)
  component_plain (cookware_event c) f = cookware_event (marked_as c (implicit_in w cookware c f.cookware))
  component_plain (timer_event s n q) f = timer_event s n q

  unfoldable pub step_plain : Inside → Follow → Inside
  step_plain (end_event k) f = end_event k
  step_plain (text_event t) f = text_event t
  step_plain (component_event c) f = component_event (component_plain c f)

-- ---- every line

module _ (text w : List ℕ) where
  unfoldable pub inside_plain : Inside → Open → Follow → List Event
  inside_plain i block.Nothing f = inside i ∷ []
  inside_plain i block.Step f = unless_dropped f (inside (step_plain w i f))
  inside_plain i block.Text f = inside i ∷ []
  inside_plain i block.TextMode f = inside (in_plain_text text i) ∷ []

  module _ (flags : ℕ) where
    unfoldable pub plain_in : Event → Follow → List Event
    plain_in (between b) f = between_plain flags b f
    plain_in (inside i) f = inside_plain i f.block f
    plain_in (parser_event s n) f = parser_event s n ∷ []
