-- In every state that the pass reaches an entry without REF is a definition; so no walk is refused with 18.
use Prim.Native.Nat.{ℕ}
use mathlib.Core.Path.{◌≡◌, refl, sym, ap, ◌∙◌, subst}
use mathlib.Core.List.{List}
use mathlib.Core.Bool.{Bool, true, false}
use Rattle.std.specs.Prelude.{Option, None, Some}
use lib.Dec.{eqb}
use lib.ListN.{length}
use Rattle.rules.specs.Input.{Context}
use Rattle.rules.specs.Event.{Component, Intermediate, Event}
use Rattle.rules.specs.Modes.{Modes}
use Rattle.rules.specs.Model.{Kind, ingredient, cookware, with_ref, Relation, definition, reference, Entry, entry_with, entry_of, set_relation, set_modifiers}
use Rattle.rules.specs.Reference.{Earlier, fits, same_name_in, same_name_of, treat_as_reference, refers_to, as_referring, referred_by, set_referenced_from, is_definition, DefinedWithoutRef, defined_none, defined_more}
use Rattle.rules.specs.State.{State, first_state, table_of, Step, next, stop, going, refused}
use Rattle.rules.specs.Components.{Made, new_entry, found_same, made_with, made_by_name, made_intermediate, make_ingredient, referred, pushed, refers_to_reference}
use Rattle.rules.specs.Pass.{on_event, walk}
use Rattle.rules.proofs.Basics.{pick_either, no_some, no_truth, some_inj}
use Rattle.rules.proofs.TableSteps.{MadeBy, by_name, by_place, TablesAfter, line_stops, line_chains, event_tables, OnStep, OnWalk, walk_keeps, Onward, line_related}

fits_unmarked : (f : List ℕ) (a o : Bool) (e : Entry) → fits f a o e ≡ true → e.modifiers.ref ≡ false
unfolding fits
fits_unmarked f a o e q = go e.modifiers.ref refl
  where
    go : (b : Bool) → e.modifiers.ref ≡ b → e.modifiers.ref ≡ false
    go true p = no_truth (rw p at q)
    go false p = p

pub found_definition : {es : List Entry} (f : List ℕ) (a o : Bool) (d : Earlier) → DefinedWithoutRef es → same_name_in f a o es ≡ Some d → is_definition d.entry.relation ≡ true
unfolding same_name_in
found_definition f a o d defined_none q = no_some q
found_definition f a o d (defined_more {e} {es} h s) q = go (found_definition f a o d s) (fits f a o e) refl
  where
    go : (same_name_in f a o es ≡ Some d → is_definition d.entry.relation ≡ true) → (b : Bool) → fits f a o e ≡ b → is_definition d.entry.relation ≡ true
    go ih true p =
        let i : record { index = length es; entry = e } ≡ d = some_inj (rw p at q) in
        ap (λ (x : Earlier). is_definition x.entry.relation) (sym i) ∙ h (fits_unmarked f a o e p)
    go ih false p = ih (rw p at q)

referrer_kept : (n : ℕ) (r : Relation) → is_definition (referred_by n r) ≡ is_definition r
unfolding referred_by is_definition
referrer_kept n (definition b by) = refl
referrer_kept n (reference t j) = refl

set_sound : {es : List Entry} (i n : ℕ) → DefinedWithoutRef es → DefinedWithoutRef (set_referenced_from i n es)
unfolding set_referenced_from set_relation
set_sound i n defined_none = defined_none
set_sound i n (defined_more {e} {es} h s) =
    pick_either DefinedWithoutRef (eqb i (length es)) _ _ (λ b. defined_more (λ q. referrer_kept n e.relation ∙ h q) s) (λ b. defined_more h (set_sound i n s))

referred_sound : {es : List Entry} (o : Option Earlier) → DefinedWithoutRef es → DefinedWithoutRef (referred o es)
unfolding referred
referred_sound None s = s
referred_sound (Some d) s = set_sound d.index _ s

-- a reference goes to what the search found
pub refers_same : (m : Modes) (new : Entry) (same : Option Earlier) (d : Earlier) → refers_to m new same ≡ Some d → same ≡ Some d
unfolding refers_to
refers_same m new same d =
    pick_either (λ (o : Option Earlier). o ≡ Some d → same ≡ Some d) new.modifiers.new _ _ (λ b q. no_some q)
    (λ b. pick_either (λ (o : Option Earlier). o ≡ Some d → same ≡ Some d) (treat_as_reference m new same) _ _ (λ c q. q) (λ c q. no_some q))

-- ---- what a line makes

pub record SoundMade (m : Made) : Type 0 where
  pub entry_is : m.entry.modifiers.ref ≡ false → is_definition m.entry.relation ≡ true
  pub to_is : refers_to_reference m.refers_to ≡ false

entry_sound : (k : Kind) (new : Entry) (o : Option Earlier) → is_definition new.relation ≡ true → (as_referring k o new).modifiers.ref ≡ false
    → is_definition (as_referring k o new).relation ≡ true
unfolding as_referring set_relation set_modifiers with_ref
entry_sound k new None h q = h
entry_sound k new (Some d) h q = no_truth (sym q)

to_sound : (m : Modes) (new : Entry) (es : List Entry) (o : Option Earlier) → DefinedWithoutRef es → refers_to m new (found_same new es) ≡ o → refers_to_reference o ≡ false
unfolding refers_to_reference found_same same_name_of
to_sound m new es None s q = refl
to_sound m new es (Some d) s q = rw (found_definition _ _ _ d s (refers_same m new _ d q))

new_definition : (k : Kind) (c : Component) (st : State) → is_definition (new_entry k c st).relation ≡ true
unfolding new_entry entry_of entry_with is_definition
new_definition k c st = refl

pushed_sound : (m : Made) (es : List Entry) → SoundMade m → DefinedWithoutRef es → DefinedWithoutRef (pushed m es)
unfolding pushed
pushed_sound m es h s = defined_more h.entry_is (referred_sound m.refers_to s)

abbrev pub SoundState : State → Type 0
SoundState st = DefinedWithoutRef st.tables.ingredients × DefinedWithoutRef st.tables.cookware

-- no line is refused with 18
abbrev NotChained : ℕ → Type 0
NotChained n = eqb n 18 ≡ false

abbrev pub SoundStep : Step → Type 0
SoundStep s = OnStep SoundState NotChained s

pub state_sound : (st : State) → ((k : Kind) → DefinedWithoutRef (table_of k st)) → SoundState st
unfolding table_of
state_sound st s = (s ingredient, s cookware)

pub table_sound : (k : Kind) (st : State) → SoundState st → DefinedWithoutRef (table_of k st)
unfolding table_of
table_sound ingredient st s = s.0
table_sound cookware st s = s.1

pub first_sound : SoundState first_state
unfolding first_state
first_sound = (defined_none, defined_none)

module _ (cx : Context) where
  pub by_name_sound : (k : Kind) (c : Component) (st : State) → DefinedWithoutRef (table_of k st) → SoundMade (made_by_name cx.units cx.flags k c st)
  unfolding made_by_name made_with
  by_name_sound k c st s =
      record { entry_is = entry_sound k (new_entry k c st) _ (new_definition k c st); to_is = to_sound st.modes (new_entry k c st) (table_of k st) _ s refl }

  -- an intermediate reference has REF
  intermediate_sound : (c : Component) (i : Intermediate) (st : State) → c.modifiers.ref ≡ true → SoundMade (make_ingredient cx c (Some i) st)
  unfolding make_ingredient made_intermediate set_relation new_entry entry_of entry_with refers_to_reference
  intermediate_sound c i st r = record { entry_is = λ q. no_truth (sym q ∙ r); to_is = refl }

  made_sound : (k : Kind) (m : Made) (st : State) → MadeBy cx st k m → DefinedWithoutRef (table_of k st) → SoundMade m
  made_sound k m st h s = by st k m h s
    where
      by : (st : State) (k : Kind) (m : Made) → MadeBy cx st k m → DefinedWithoutRef (table_of k st) → SoundMade m
      by st k m (by_name x c) s = by_name_sound x c st s
      by st k m (by_place c i r) s = intermediate_sound c i st r

  -- ---- every line, and the walk

  abbrev SoundAfter : Kind → List Entry → List Entry → Type 0
  SoundAfter k es fs = DefinedWithoutRef es → DefinedWithoutRef fs

  sound_onward : Onward cx SoundAfter
  sound_onward =
      record {
        same = λ k es s. s;
        further = λ f g s. g (f s);
        more = λ k m st h n s. pushed_sound m (table_of k st) (made_sound k m st h s) s;
      }

  pub event_sound : (e : Event) (st : State) → SoundState st → SoundStep (on_event cx e st)
  event_sound e st s = go (on_event cx e st) (event_tables cx st e)
    where
      go : (a : Step) → TablesAfter cx st a → SoundStep a
      go (next after) t = state_sound after (λ k. line_related cx SoundAfter sound_onward st (next after) t k (table_sound k st s))
      go (stop n) (line_stops h) = h
      go (stop n) (line_chains k m h b) = no_truth (sym (made_sound k m st h (table_sound k st s)).to_is ∙ b)

  walk_sound : (es : List Event) → OnWalk SoundState NotChained (walk cx 1 (going first_state) es)
  walk_sound es = walk_keeps SoundState NotChained cx refl event_sound es 1 (going first_state) first_sound

  -- in every state that the pass reaches, an entry without REF is a definition
  pub pass_sound : (es : List Event) (st : State) → walk cx 1 (going first_state) es ≡ going st → (k : Kind) → DefinedWithoutRef (table_of k st)
  pass_sound es st q k = table_sound k st (subst (OnWalk SoundState NotChained) q (walk_sound es))

  -- no walk is refused with 18
  pub pass_never_18 : (es : List Event) (n l : ℕ) → walk cx 1 (going first_state) es ≡ refused n l → eqb n 18 ≡ false
  pass_never_18 es n l q = subst (OnWalk SoundState NotChained) q (walk_sound es)
