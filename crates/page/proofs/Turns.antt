-- One line of the walk.
use Prim.Native.Nat.{ℕ, ◌+◌, ◌≤◌}
use mathlib.Core.Path.{◌≡◌, sym, ap, ◌∙◌, subst}
use mathlib.Core.Bool.{true}
use mathlib.Core.List.{List}
use Rattle.std.specs.Prelude.{Some}
use lib.ListN.{length}
use Rattle.rules.specs.Basic.{all}
use Rattle.rules.specs.Event.{Event, spans_of}
use Rattle.rules.specs.Units.{NamedUnit}
use Rattle.rules.specs.Answer.{is_good_span}
use Rattle.output.specs.Put.{Put}
use Rattle.events.specs.Views.{event_in}
use Rattle.events.specs.declared.EventView.{EventView}
use Rattle.known_events.specs.Known.{KnownEvent}
use Rattle.step_lines.specs.declared.TextItems.{TextItems}
use Rattle.following.specs.declared.Part.{Part}
use Rattle.following.specs.declared.Follow.{Follow}
use Rattle.following.specs.Drawn.{quantities_added, added}
use Rattle.following.specs.Follow.{next_follow, with_inline, Followed}
use Rattle.page_parts.specs.Drawing.{tracked, LineDrawn}
use Rattle.page.specs.Walk.{LineReady, LineTaken}

some_inj : {a b : Event} → Some a ≡ Some b → a ≡ b
some_inj e = cc

module _ {text : List ℕ} {units : List NamedUnit} {flags : ℕ} {p : Part} {line : List ℕ} {f : Follow} {v : EventView} (k : KnownEvent line v) where
  pub turn_spans : LineReady text units flags p line f → all (is_good_span text (length text)) (spans_of (event_in line v)) ≡ true
  turn_spans d = d.spans _ k.is

  module _ {o₀ o : List ℕ} {r : TextItems} (w : LineDrawn text units flags p line v f o₀ o r) where
    pub turn_few : LineReady text units flags p line f → f.inline + r.inline ≤ 100000
    turn_few d = rw w.inline (d.few _ k.is)

    pub turn_taken : {g : Follow} → Followed flags line v r.inline f g → LineTaken text units flags p line f o₀ o (record { count = r.count; follow = g })
    turn_taken {g} h =
        record {
          put = λ e z. subst (λ (x : Event). Put (added text units flags p x f) o₀ 0 o r.count) (some_inj (sym k.is ∙ z)) w.put;
          follow = λ e z. subst (λ (x : Event). g ≡ with_inline (f.inline + tracked p (length (quantities_added units flags x f))) (next_follow flags x f)) (some_inj (sym k.is ∙ z))
              (h.is ∙ ap (λ (n : ℕ). with_inline (f.inline + n) (next_follow flags (event_in line v) f)) w.inline);
        }
