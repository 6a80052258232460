-- A line of an accepted walk: its form and its fault by the rules are those by work memory.
use Prim.Native.Nat.{ℕ, ◌+◌, ◌≤◌}
use mathlib.Core.Path.{◌≡◌, refl, sym, ap, ◌∙◌, subst}
use mathlib.Core.List.{List, [], ◌∷◌}
use mathlib.Core.Bool.{Bool, true, false}
use Rattle.std.specs.Prelude.{Option, None, Some}
use native.Mathlib.Omega.{arith}
use lib.ListN.{length, length-append}
use Rattle.rules.specs.Input.{Context}
use Rattle.rules.specs.Basic.{pick, each}
use Rattle.rules.specs.Words.{step_kind, text_kind, DefineMode}
use Rattle.rules.specs.Event.{Component, Intermediate, Between, meta_event, section_event, start_event, ComponentEvent, ingredient_event, cookware_event, timer_event, Inside, end_event, text_event, component_event, Event, between, inside, parser_event}
use Rattle.rules.specs.Model.{Kind, ingredient, cookware, Entry, Item}
use Rattle.rules.specs.Modes.{is_components, is_text}
use Rattle.rules.specs.Reference.{Earlier}
use Rattle.rules.specs.State.{Open, no_block, step_open, text_open, text_mode_open, State, table_of, next}
use Rattle.rules.specs.Components.{Made, made_by_name, make_ingredient, make_cookware, pushed}
use Rattle.rules.specs.Pass.{on_component, in_step_block, on_inside, on_event}
use Rattle.rules.specs.Plain.{implicit_of, marked_if, unless_listed, implicit_ingredient, implicit_cookware, marked_component, in_plain_step, mark_fault, component_fault, plain_fault, plain_between, plain_inside, plain_event}
use Rattle.model.specs.Blank.{blank, blank_tables}
use Rattle.model.specs.Memory.{count_of, rows_in, referrers_of, table_in}
use Rattle.model.specs.declared.Held.{Held}
use Rattle.model.proofs.Tables.{entries_length}
use Rattle.model.proofs.Windows.{table_is}
use Rattle.following.specs.declared.Follow.{Follow}
use Rattle.following.specs.Drawn.{kind_of, follow_of}
use Rattle.following.specs.Follow.{with_inline}
use Rattle.following.proofs.Grows.{mode_back}
use Rattle.plain_walk.specs.Rows.{marked_as, implicit_row, implicit_in, mark_fault_in, component_fault_in, fault_in, RowOf, RowIn, RowFor}
use Rattle.plain_walk.specs.Lines.{Behind, unless_dropped, between_plain, ingredient_plain, component_plain, step_plain, inside_plain, plain_in}
use Rattle.plain_walk.specs.Walk.{Final}
use Rattle.plain_walk.proofs.Grown.{bare, bare_length, Grown}
use Rattle.plain_walk.proofs.Added.{ingredient_pushed, ingredient_refused, ingredient_made, cookware_pushed, MadeRow, made_row}
use Rattle.plain_walk.proofs.Marks.{Named, marked_row, fault_row}

-- ---- work memory at the end

blank_table : (k : Kind) (st : State) → table_of k (blank st) ≡ table_of k st
unfolding table_of blank blank_tables
blank_table ingredient st = refl
blank_table cookware st = refl

-- no table is longer than at the end
pub table_most : (k : Kind) {sheet w : List ℕ} {h : Held} (st : State) {final : State} → Final sheet w h final → Grown (table_of k st) (table_of k final) → length (table_of k st) ≤ count_of k h
table_most k {sheet} {w} {h} st {final} z g =
    let n : length (table_of k final) ≡ count_of k h = ap length (sym (blank_table k final) ∙ (ap (table_of k) (sym z.memory) ∙ table_is k sheet w h)) ∙ entries_length k sheet (rows_in k w) (referrers_of k w h) (count_of k h) in
    let m : length (each bare (table_of k final)) ≡ length g.more + length (each bare (table_of k st)) = ap length g.is ∙ length-append g.more (each bare (table_of k st)) in
    omega (arith, n, m, bare_length (table_of k final), bare_length (table_of k st))

ingredient_alone : (c : Component) (o : Option ℕ) → ingredient_event (marked_as c o) None ≡ ingredient_plain c None o
unfolding marked_as ingredient_plain
ingredient_alone c None = refl
ingredient_alone c (Some d) = refl

module _ (cx : Context) (sheet w : List ℕ) (h : Held) (st after final : State) (z : Final sheet w h final) (g : (k : Kind) → Grown (table_of k after) (table_of k final)) where
  abbrev f : Follow
  f = with_inline 0 (follow_of st)

  abbrev Row : Kind → Made → Type 0
  Row k m = MadeRow k sheet (rows_in k w) (referrers_of k w h) (count_of k h) m (table_of k st)

  row_at_lem : (k : Kind) (m : Made) → table_of k after ≡ pushed m (table_of k st) → Row k m
  row_at_lem k m q =
      made_row k sheet (rows_in k w) (referrers_of k w h) (count_of k h) m (table_of k st)
      (subst (λ (es : List Entry). Grown es (table_in k sheet w h)) q
      (subst (λ (fs : List Entry). Grown (table_of k after) fs) (sym (blank_table k final) ∙ (ap (table_of k) (sym z.memory) ∙ table_is k sheet w h)) (g k)))

  abbrev NamedBy : Kind → Component → Option Earlier → Type 0
  NamedBy k c to = Named cx k c st sheet w (referrers_of k w h) (count_of k h) to

  -- ---- components in a step

  ingredient_named : (c : Component) (i : Option Intermediate) (items : List Item) → on_component cx (ingredient_event c i) items st ≡ next after → c.modifiers.ref ≡ false
      → NamedBy ingredient c (make_ingredient cx c i st).refers_to
  ingredient_named c None items q r =
      record { row = row_at_lem ingredient (made_by_name cx.units cx.flags ingredient c st) (ingredient_pushed cx c None items st after q r); named = unfold make_ingredient in refl }
  ingredient_named c (Some i) items q r = ingredient_refused cx c i items st after q r

  cookware_named : (c : Component) (items : List Item) → on_component cx (cookware_event c) items st ≡ next after → NamedBy cookware c (make_cookware cx.units cx.flags c st).refers_to
  cookware_named c items q =
      record { row = row_at_lem cookware (made_by_name cx.units cx.flags cookware c st) (cookware_pushed cx c items st after q); named = unfold make_cookware in refl }

  intermediate_kept : (c : Component) (i : Intermediate) (items : List Item) (to : Option Earlier) (n : ℕ) → on_component cx (ingredient_event c (Some i)) items st ≡ next after
      → ingredient_event (marked_if c (implicit_of c to)) (Some i) ≡ ingredient_plain c (Some i) (implicit_in w ingredient c n)
  intermediate_kept c i items to n q = go c.modifiers.ref refl
    where
      go : (b : Bool) → c.modifiers.ref ≡ b → ingredient_event (marked_if c (implicit_of c to)) (Some i) ≡ ingredient_plain c (Some i) (implicit_in w ingredient c n)
      go true r = unfold implicit_of marked_if implicit_in implicit_row ingredient_plain in rw r
      go false r = ingredient_refused cx c i items st after q r

  component_marked : (c : ComponentEvent) (items : List Item) → on_component cx c items st ≡ next after → marked_component cx st c ≡ component_plain w c f
  unfolding marked_component component_plain with_inline follow_of implicit_ingredient implicit_cookware
  component_marked (ingredient_event c None) items q =
      unfold table_of in
      (ap (λ (x : Component). ingredient_event x None) (marked_row cx ingredient c st sheet w (referrers_of ingredient w h) (count_of ingredient h) (make_ingredient cx c None st).refers_to (ingredient_named c None items q))
      ∙ ingredient_alone c (implicit_in w ingredient c (length (table_of ingredient st))))
  component_marked (ingredient_event c (Some i)) items q = intermediate_kept c i items (make_ingredient cx c (Some i) st).refers_to (length st.tables.ingredients) q
  component_marked (cookware_event c) items q =
      unfold table_of in
      ap (λ (x : Component). cookware_event x) (marked_row cx cookware c st sheet w (referrers_of cookware w h) (count_of cookware h) (make_cookware cx.units cx.flags c st).refers_to (λ r. cookware_named c items q))
  component_marked (timer_event s n a) items q = refl

  mark_fault_lem : (c : ComponentEvent) (items : List Item) → on_component cx c items st ≡ next after → mark_fault cx st c ≡ mark_fault_in w sheet c f
  unfolding mark_fault mark_fault_in with_inline follow_of implicit_ingredient implicit_cookware
  mark_fault_lem (ingredient_event c i) items q =
      unfold table_of in
      fault_row cx ingredient c st sheet w (referrers_of ingredient w h) (count_of ingredient h) (make_ingredient cx c i st).refers_to (ingredient_named c i items q) (z.fit.rows ingredient)
  mark_fault_lem (cookware_event c) items q =
      unfold table_of in
      fault_row cx cookware c st sheet w (referrers_of cookware w h) (count_of cookware h) (make_cookware cx.units cx.flags c st).refers_to (λ r. cookware_named c items q) (z.fit.rows cookware)
  mark_fault_lem (timer_event s n a) items q = refl

  component_row : (c : ComponentEvent) (items : List Item) → on_component cx c items st ≡ next after → RowOf c f h
  unfolding RowOf with_inline follow_of table_of
  component_row (ingredient_event c i) items q = (row_at_lem ingredient (make_ingredient cx c i st) (ingredient_made cx c i items st after q)).low
  component_row (cookware_event c) items q = (row_at_lem cookware (made_by_name cx.units cx.flags cookware c st) (cookware_pushed cx c items st after q)).low
  component_row (timer_event s n a) items q = tt

  -- ---- lines in a block

  step_plain_lem : (i : Inside) (items : List Item) → in_step_block cx i items st ≡ next after → in_plain_step cx st i ≡ step_plain w i f
  unfolding in_step_block in_plain_step step_plain
  step_plain_lem (end_event k) items q = refl
  step_plain_lem (text_event t) items q = refl
  step_plain_lem (component_event c) items q = ap component_event (component_marked c items q)

  dropped_same : (e : Event) → unless_listed st e ≡ unless_dropped f e
  unfolding unless_listed unless_dropped with_inline follow_of
  dropped_same e = ap (λ (m : DefineMode). pick (is_components m) [] (e ∷ [])) (sym (mode_back st.modes.define))

  inside_plain_lem : (i : Inside) (o : Open) → on_inside cx i o st ≡ next after → plain_inside cx st i o ≡ inside_plain cx.text w i (kind_of o) f
  unfolding on_inside plain_inside inside_plain kind_of
  inside_plain_lem i no_block q = refl
  inside_plain_lem i (step_open items) q = ap (λ (x : Inside). unless_listed st (inside x)) (step_plain_lem i items q) ∙ dropped_same (inside (step_plain w i f))
  inside_plain_lem i (text_open ts) q = refl
  inside_plain_lem i (text_mode_open ts) q = refl

  component_fault_lem : (c : ComponentEvent) (o : Open) → on_inside cx (component_event c) o st ≡ next after → component_fault cx st c o ≡ component_fault_in w sheet c (kind_of o) f
  unfolding on_inside in_step_block component_fault component_fault_in kind_of
  component_fault_lem c no_block q = refl
  component_fault_lem c (step_open items) q =
      ap (λ (x : Option ℕ). pick (is_components st.modes.define) (Some 22) x) (mark_fault_lem c items q)
      ∙ unfold with_inline follow_of in ap (λ (m : DefineMode). pick (is_components m) (Some 22) (mark_fault_in w sheet c f)) (sym (mode_back st.modes.define))
  component_fault_lem c (text_open ts) q = refl
  component_fault_lem c (text_mode_open ts) q = refl

  row_in : (c : ComponentEvent) (o : Open) → on_inside cx (component_event c) o st ≡ next after → RowIn c (kind_of o) f h
  unfolding on_inside in_step_block RowIn kind_of
  row_in c no_block q = tt
  row_in c (step_open items) q = component_row c items q
  row_in c (text_open ts) q = tt
  row_in c (text_mode_open ts) q = tt

  -- ---- every line

  between_plain_lem : (b : Between) → plain_between cx.flags st b ≡ between_plain cx.flags b f
  unfolding plain_between between_plain
  between_plain_lem (meta_event k v) = refl
  between_plain_lem (section_event n) = refl
  between_plain_lem (start_event text_kind) = refl
  between_plain_lem (start_event step_kind) =
      ap (λ (x : List Event). pick (is_text st.modes.define) (between (start_event text_kind) ∷ []) x) (dropped_same (between (start_event step_kind)))
      ∙ unfold with_inline follow_of in
      ap (λ (m : DefineMode). pick (is_text m) (between (start_event text_kind) ∷ []) (unless_dropped f (between (start_event step_kind)))) (sym (mode_back st.modes.define))

  event_plain : (e : Event) → on_event cx e st ≡ next after → plain_event cx st e ≡ plain_in cx.text w cx.flags e f
  unfolding on_event plain_event plain_in with_inline follow_of
  event_plain (between b) q = between_plain_lem b
  event_plain (inside i) q = inside_plain_lem i st.place.block q
  event_plain (parser_event s n) q = refl

  event_fault : (e : Event) → on_event cx e st ≡ next after → plain_fault cx st e ≡ fault_in w sheet e f
  unfolding on_event plain_fault fault_in with_inline follow_of
  event_fault (between b) q = refl
  event_fault (inside (end_event k)) q = refl
  event_fault (inside (text_event t)) q = refl
  event_fault (inside (component_event c)) q = component_fault_lem c st.place.block q
  event_fault (parser_event s n) q = refl

  event_row : (e : Event) → on_event cx e st ≡ next after → RowFor e f h
  unfolding on_event RowFor with_inline follow_of
  event_row (between b) q = tt
  event_row (inside (end_event k)) q = tt
  event_row (inside (text_event t)) q = tt
  event_row (inside (component_event c)) q = row_in c st.place.block q
  event_row (parser_event s n) q = tt

  module _ {r : Follow} (b : Behind st r) (e : Event) (q : on_event cx e st ≡ next after) where
    pub plain_same : plain_event cx st e ≡ plain_in cx.text w cx.flags e r
    plain_same = event_plain e q ∙ ap (plain_in cx.text w cx.flags e) (sym b.is)

    pub fault_same : plain_fault cx st e ≡ fault_in w sheet e r
    fault_same = event_fault e q ∙ ap (fault_in w sheet e) (sym b.is)

    pub row_there : RowFor e r h
    row_there = subst (λ (x : Follow). RowFor e x h) (sym b.is) (event_row e q)
