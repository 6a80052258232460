-- A form has no mode line that the flags heed, and so no implicit reference.
use Prim.Native.Nat.{ℕ}
use mathlib.Core.Path.{◌≡◌, refl, sym, ◌∙◌}
use mathlib.Core.List.{List, [], ◌∷◌, ◌++◌, reverse, reverse_aux}
use mathlib.Core.Bool.{Bool, true, false, ◌&&◌, ◌||◌, not}
use Rattle.std.specs.Prelude.{Option, None, Some}
use Rattle.rules.specs.Input.{Context}
use Rattle.rules.specs.Basic.{pick, is_some, word_in}
use Rattle.rules.specs.Words.{step_kind, text_kind, ConfigKey, config_keys, mode_all, duplicate_new}
use Rattle.rules.specs.Event.{Text, Component, Between, meta_event, section_event, start_event, Inside, Event, between, inside, parser_event}
use Rattle.rules.specs.Modes.{first_modes, is_components, is_steps, is_text, is_reference, has_modes, key_text, is_bracketed, key_as, key_of}
use Rattle.rules.specs.Model.{Kind}
use Rattle.rules.specs.State.{Open, no_block, step_open, text_open, text_mode_open, State}
use Rattle.rules.specs.Plain.{Traced, unless_listed, is_mode_key, plain_between, plain_inside, plain_event, plain_events}
use Rattle.rules.specs.Demand.{mode_key, is_mode_line, is_heeded, value_of, defines_by, duplicates_by, or_else, define_at, duplicate_at, EntryLine, entry_line, no_entry, Unmarked, folded_name, last_fitting, implicit_target, entry_in, unmarked, implicit_by, implicit_at}
use Rattle.rules.proofs.Basics.{pick_either, no_truth}

pub and_false : (b : Bool) → (b && false) ≡ false
and_false true = refl
and_false false = refl

-- lines of which the flags heed none
pub data Quiet (flags : ℕ) : List Event → Type 0 where
  quiet_none : Quiet flags []
  quiet_more : {e : Event} {es : List Event} → is_heeded flags e ≡ false → Quiet flags es → Quiet flags (e ∷ es)

quiet_both : {flags : ℕ} {a b : List Event} → Quiet flags a → Quiet flags b → Quiet flags (a ++ b)
quiet_both quiet_none h = h
quiet_both (quiet_more q g) h = quiet_more q (quiet_both g h)

-- the lines before one of them, newest first
quiet_onto : {flags : ℕ} (a b : List Event) (e : Event) (c : List Event) → Quiet flags (a ++ (e ∷ c)) → Quiet flags b
    → Quiet flags (reverse_aux a b) × (is_heeded flags e ≡ false)
quiet_onto [] b e c (quiet_more q h) g = (g, q)
quiet_onto (x ∷ a) b e c (quiet_more q h) g = quiet_onto a (x ∷ b) e c h (quiet_more q g)

pub quiet_before : {flags : ℕ} (a : List Event) (e : Event) (c : List Event) → Quiet flags (a ++ (e ∷ c)) → Quiet flags (reverse a) × (is_heeded flags e ≡ false)
quiet_before a e c h = quiet_onto a [] e c h quiet_none

-- ---- the form's lines

-- a line that is no `meta` line
no_mode : (flags : ℕ) (e : Event) → is_mode_line e ≡ false → is_heeded flags e ≡ false
unfolding is_heeded
no_mode flags e q = rw q (and_false (has_modes flags))

one : {flags : ℕ} {e : Event} → is_mode_line e ≡ false → Quiet flags (e ∷ [])
one {flags} {e} q = quiet_more (no_mode flags e q) quiet_none

-- the plain form's test on a key is that of a mode line
key_mode : (o : Option ConfigKey) (b : Bool) → is_mode_key (key_as o b) ≡ is_some o
unfolding key_as is_mode_key is_some
key_mode (Some k) b = refl
key_mode None true = refl
key_mode None false = refl

pub meta_heeded : (flags : ℕ) (k v : Text) → is_heeded flags (between (meta_event k v)) ≡ (has_modes flags && is_mode_key (key_of (key_text k)))
unfolding is_heeded is_mode_line mode_key key_of
meta_heeded flags k v = rw (key_mode (word_in (key_text k) config_keys) (is_bracketed (key_text k)))

module _ (cx : Context) where
  listed_quiet : (st : State) (e : Event) → is_mode_line e ≡ false → Quiet cx.flags (unless_listed st e)
  unfolding unless_listed
  listed_quiet st e q = pick_either (Quiet cx.flags) (is_components st.modes.define) _ _ (λ b. quiet_none) (λ b. one q)

  inside_quiet : (st : State) (i : Inside) (o : Open) → Quiet cx.flags (plain_inside cx st i o)
  unfolding plain_inside is_mode_line mode_key is_some
  inside_quiet st i no_block = one refl
  inside_quiet st i (step_open is) = listed_quiet st _ refl
  inside_quiet st i (text_open ts) = one refl
  inside_quiet st i (text_mode_open ts) = one refl

  between_quiet : (st : State) (b : Between) → Quiet cx.flags (plain_between cx.flags st b)
  unfolding plain_between is_mode_line mode_key is_some
  between_quiet st (meta_event k v) =
      pick_either (Quiet cx.flags) (has_modes cx.flags && is_mode_key (key_of (key_text k))) _ _ (λ b. quiet_none) (λ b. quiet_more (meta_heeded cx.flags k v ∙ b) quiet_none)
  between_quiet st (section_event n) = one refl
  between_quiet st (start_event text_kind) = one refl
  between_quiet st (start_event step_kind) =
      pick_either (Quiet cx.flags) (is_text st.modes.define) _ _ (λ b. one refl) (λ b. listed_quiet st (between (start_event step_kind)) refl)

  event_quiet : (st : State) (e : Event) → Quiet cx.flags (plain_event cx st e)
  unfolding plain_event is_mode_line mode_key is_some
  event_quiet st (between b) = between_quiet st b
  event_quiet st (inside i) = inside_quiet st i st.place.block
  event_quiet st (parser_event s n) = one refl

  -- "the form has no mode line that the flags heed"
  pub form_quiet : (ts : List Traced) → Quiet cx.flags (plain_events cx ts)
  unfolding plain_events
  form_quiet [] = quiet_none
  form_quiet (t ∷ ts) = quiet_both (event_quiet t.state t.event) (form_quiet ts)

-- ---- without heeded mode lines the modes are the first ones, and every reference is explicit

-- the mode that a line sets is none where it is not heeded
quiet_sets : {A : Type 0} (h : Bool) (o : Option ConfigKey) (v : List ℕ) (sets : Option ConfigKey → List ℕ → Option A) → (h && is_some o) ≡ false
    → sets None v ≡ None → pick h (sets o v) None ≡ None
unfolding is_some
quiet_sets false o v sets q n = refl
quiet_sets true None v sets q n = n
quiet_sets true (Some k) v sets q n = no_truth (sym q)

pub quiet_define : {flags : ℕ} {es : List Event} → Quiet flags es → define_at flags es ≡ mode_all
unfolding define_at first_modes or_else
quiet_define quiet_none = refl
quiet_define {flags} (quiet_more {e} {es} q h) = rw (sets, quiet_define h)
  where
    sets : pick (has_modes flags) (defines_by (mode_key e) (value_of e)) None ≡ None
    sets = quiet_sets (has_modes flags) (mode_key e) (value_of e) defines_by (unfold is_heeded is_mode_line in q) (unfold defines_by in refl)

pub quiet_duplicate : {flags : ℕ} {es : List Event} → Quiet flags es → duplicate_at flags es ≡ duplicate_new
unfolding duplicate_at first_modes or_else
quiet_duplicate quiet_none = refl
quiet_duplicate {flags} (quiet_more {e} {es} q h) = rw (sets, quiet_duplicate h)
  where
    sets : pick (has_modes flags) (duplicates_by (mode_key e) (value_of e)) None ≡ None
    sets = quiet_sets (has_modes flags) (mode_key e) (value_of e) duplicates_by (unfold is_heeded is_mode_line in q) (unfold duplicates_by in refl)

not_implicit : (k : Kind) (c : Component) (us : List Unmarked) → implicit_target mode_all duplicate_new k c us ≡ None
unfolding implicit_target is_steps is_reference
not_implicit k c us = go (not c.modifiers.ref) (not c.modifiers.new)
  where
    go : (a b : Bool) → pick (a && b && (is_steps mode_all || is_reference duplicate_new)) (last_fitting (folded_name k c) c.modifiers.opt us) None ≡ None
    go true true = refl
    go true false = refl
    go false true = refl
    go false false = refl

-- "every reference in it is explicit"
pub quiet_explicit : {flags : ℕ} {es : List Event} → Quiet flags es → (e : Event) → implicit_at flags es e ≡ None
unfolding implicit_at implicit_by
quiet_explicit {flags} {es} h e = go (entry_in (define_at flags es) e)
  where
    go : (x : EntryLine) → implicit_by flags es x ≡ None
    go no_entry = refl
    go (entry_line k c) = rw (quiet_define h, quiet_duplicate h) (not_implicit k c (unmarked flags k es))
