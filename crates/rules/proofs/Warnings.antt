-- A form keeps the parser's lines, in order.
use Prim.Native.Nat.{ℕ, suc}
use mathlib.Core.Path.{◌≡◌, refl, sym, ap, ◌∙◌}
use mathlib.Core.List.{List, [], ◌∷◌, ◌++◌}
use mathlib.Core.Bool.{◌&&◌}
use Rattle.rules.specs.Input.{Context}
use Rattle.rules.specs.Words.{step_kind, text_kind}
use Rattle.rules.specs.Event.{Between, meta_event, section_event, start_event, Inside, Event, between, inside, parser_event}
use Rattle.rules.specs.Modes.{is_components, is_text, has_modes, key_text, key_of}
use Rattle.rules.specs.State.{Open, no_block, step_open, text_open, text_mode_open, State, going}
use Rattle.rules.specs.Pass.{walk}
use Rattle.rules.specs.Plain.{Traced, unless_listed, is_mode_key, plain_between, plain_inside, plain_event, plain_events, trace_from}
use Rattle.rules.specs.PlainForm.{parser_lines}
use Rattle.rules.proofs.Basics.{pick_either}
use Rattle.rules.proofs.FaultWalk.{Takes, takes, walk_on, trace_on}

parser_both : (a b : List Event) → parser_lines (a ++ b) ≡ parser_lines a ++ parser_lines b
parser_both [] b = refl
parser_both (between x ∷ a) b = parser_both a b
parser_both (inside x ∷ a) b = parser_both a b
parser_both (parser_event s n ∷ a) b = ap (λ (l : List Event). parser_event s n ∷ l) (parser_both a b)

abbrev NoParser : List Event → Type 0
NoParser l = parser_lines l ≡ []

module _ (cx : Context) where
  between_parser : (st : State) (b : Between) → NoParser (plain_between cx.flags st b)
  unfolding plain_between unless_listed
  between_parser st (meta_event k v) = pick_either NoParser (has_modes cx.flags && is_mode_key (key_of (key_text k))) _ _ (λ b. refl) (λ b. refl)
  between_parser st (section_event n) = refl
  between_parser st (start_event text_kind) = refl
  between_parser st (start_event step_kind) =
      pick_either NoParser (is_text st.modes.define) _ _ (λ b. refl) (λ b. pick_either NoParser (is_components st.modes.define) _ _ (λ c. refl) (λ c. refl))

  inside_parser : (st : State) (i : Inside) (o : Open) → NoParser (plain_inside cx st i o)
  unfolding plain_inside unless_listed
  inside_parser st i no_block = refl
  inside_parser st i (step_open is) = pick_either NoParser (is_components st.modes.define) _ _ (λ b. refl) (λ b. refl)
  inside_parser st i (text_open ts) = refl
  inside_parser st i (text_mode_open ts) = refl

  event_parser : (st : State) (e : Event) → parser_lines (plain_event cx st e) ≡ parser_lines (e ∷ [])
  unfolding plain_event
  event_parser st (between b) = between_parser st b
  event_parser st (inside i) = inside_parser st i st.place.block
  event_parser st (parser_event s n) = refl

  pub plain_parsers : (es : List Event) (line : ℕ) (st end : State) → walk cx line (going st) es ≡ going end
      → parser_lines (plain_events cx (trace_from cx line (going st) es)) ≡ parser_lines es
  unfolding plain_events
  plain_parsers [] line st end w = unfold trace_from in refl
  plain_parsers (e ∷ es) line st end w =
      let t : Takes cx line e st = takes cx line e es st end w in
      let ih = plain_parsers es (suc line) t.after end (walk_on cx line e es st end t w) in
      ap (λ (l : List Traced). parser_lines (plain_events cx l)) (trace_on cx line e es st t)
      ∙ parser_both (plain_event cx st e) (plain_events cx (trace_from cx (suc line) (going t.after) es))
      ∙ ap (λ (l : List Event). l ++ parser_lines (plain_events cx (trace_from cx (suc line) (going t.after) es))) (event_parser st e)
      ∙ ap (λ (l : List Event). parser_lines (e ∷ []) ++ l) ih ∙ sym (parser_both (e ∷ []) es)
