-- A sheet that was read writes back as its own bytes, and its plain form reads back as the form's events.
use Prim.Native.Nat.{ℕ, suc, ◌+◌, ◌≤◌}
use mathlib.Core.Path.{◌≡◌, refl, sym, ap, ◌∙◌, subst}
use mathlib.Core.List.{List, [], ◌∷◌, ◌++◌, append_assoc}
use mathlib.Core.Bool.{true, false, ◌&&◌}
use Rattle.std.specs.Prelude.{Option, None, Some}
use native.Mathlib.Omega.{arith}
use lib.Dec.{eqb, ltb}
use lib.ListN.{length}
use borrow.Author.Tests.{eqb-true, ltb-false, le-ltb}
use Rattle.rules.specs.Input.{Context}
use Rattle.rules.specs.Basic.{lf, is_empty, all}
use Rattle.rules.specs.Sheet.{Lines, last, more, on_line, lines, Without}
use Rattle.rules.specs.Words.{step_kind, text_kind}
use Rattle.rules.specs.Event.{Span, Component, Intermediate, ComponentEvent, ingredient_event, cookware_event, timer_event, Between, meta_event, section_event, start_event, Inside, end_event, text_event, component_event, Event, between, inside, parser_event, component_span, named_spans, component_spans, spans_of}
use Rattle.rules.specs.Read.{parse_line}
use Rattle.rules.specs.Write.{component_fields, event_fields, write_line}
use Rattle.rules.specs.Modes.{is_components, is_text, has_modes, key_text, key_of}
use Rattle.rules.specs.Reference.{Earlier}
use Rattle.rules.specs.State.{Open, no_block, step_open, text_open, text_mode_open, State, first_state, Walk, going, failed, refused}
use Rattle.rules.specs.Pass.{step}
use Rattle.rules.specs.Plain.{traced, mark_ref, marked_if, unless_listed, marked_component, in_plain_step, is_mode_key, plain_between, in_plain_text, plain_inside, plain_event, plain_events, trace_from, sheet_of}
use Rattle.rules.specs.Answer.{Reading, events, unread, with_event, is_good_span, read_line, read_from, read_sheet}
use Rattle.rules.proofs.Basics.{pick_either, and_left, and_both}
use Rattle.rules.proofs.Fields.{EachLine, each_more, lines_without, lines_line}
use Rattle.rules.proofs.Given.{raw, Good}
use Rattle.rules.proofs.TakenLine.{empty_is}
use Rattle.rules.proofs.TakenEvent.{GoodParts, GoodInside, GoodEvent}
use Rattle.rules.proofs.Parsed.{Parsed, parse_taken, parse_writes, parse_written}
use Rattle.rules.proofs.Rewritten.{Readable, ingredient_marked, cookware_marked, source_readable, start_readable, end_readable}

-- ---- the lines of a sheet

pub bytes_of : Lines → List ℕ
bytes_of (last l) = l
bytes_of (more l ls) = l ++ (lf ∷ bytes_of ls)

on_bytes : (b : ℕ) (ls : Lines) → bytes_of (on_line b ls) ≡ b ∷ bytes_of ls
unfolding on_line bytes_of
on_bytes b (last l) = refl
on_bytes b (more l ls) = refl

lines_bytes : (bs : List ℕ) → bytes_of (lines bs) ≡ bs
unfolding lines bytes_of
lines_bytes [] = refl
lines_bytes (b ∷ bs) =
    pick_either (λ (ls : Lines). bytes_of ls ≡ b ∷ bs) (eqb b lf) _ _
    (λ e. ap (λ (l : List ℕ). lf ∷ l) (lines_bytes bs) ∙ ap (λ (x : ℕ). x ∷ bs) (sym (eqb-true b 10 e)))
    (λ e. on_bytes b (lines bs) ∙ ap (λ (l : List ℕ). b ∷ l) (lines_bytes bs))

-- ---- what is read is good, and writes back

module _ (text : List ℕ) (n : ℕ) where
  -- events that were read
  pub data ReadLines : List Event → Type 0 where
    read_none : ReadLines []
    read_more : {e : Event} {es : List Event} → Readable e → GoodEvent e → Good (raw (event_fields e)) → all (is_good_span text n) (spans_of e) ≡ true → ReadLines es
        → ReadLines (e ∷ es)

  no_events : {P : Type 0} {a b : ℕ} {es : List Event} → unread a b ≡ events es → P
  no_events q = absurd (let z : ◌≡◌ {A = ℕ} 0 1 = cc in omega arith)

  pub record ReadAs (line : ℕ) (ls : Lines) (es : List Event) : Type 0 where
    pub lines_good : ReadLines es
    pub few : line + length es ≤ 4097
    pub writes : sheet_of es ≡ bytes_of ls

  read_good : (line : ℕ) (ls : Lines) (es : List Event) → line ≤ 4097 → EachLine (Without lf) ls → read_from text n line ls ≡ events es → ReadAs line ls es
  unfolding read_from read_line with_event sheet_of bytes_of
  read_good line (last l) es h k q =
      pick_either (λ (r : Reading). r ≡ events es → ReadAs line (last l) es) (is_empty l) _ _
      (λ b p. let e : [] ≡ es = cc in subst (ReadAs line (last l)) e (record { lines_good = read_none; few = omega arith; writes = sym (empty_is l b) }))
      (λ b p. no_events p) q
  read_good line (more l ls) es h (each_more k ks) q = go (λ xs g p. read_good (suc line) ls xs g ks p) (parse_line l) refl q
    where
      P : Reading → Type 0
      P r = r ≡ events es → ReadAs line (more l ls) es

      IH : Type 0
      IH = (xs : List Event) → suc line ≤ 4097 → read_from text n (suc line) ls ≡ events xs → ReadAs (suc line) ls xs

      with_good : IH → (e : Event) → parse_line l ≡ Some e → all (is_good_span text n) (spans_of e) ≡ true → suc line ≤ 4097 → (r : Reading)
          → read_from text n (suc line) ls ≡ r → P (with_event e r)
      with_good ih e g s m (unread a b) k2 p = no_events p
      with_good ih e g s m (events xs) k2 p =
          let t : ReadAs (suc line) ls xs = ih xs m k2 in
          let z : (e ∷ xs) ≡ es = cc in
          let d : Parsed l e = parse_taken l e k g in
          subst (ReadAs line (more l ls)) z
          (record {
            lines_good = read_more (parse_written l e k g) d.parts d.good s t.lines_good;
            few = omega (arith, t.few);
            writes = ap (λ (x : List ℕ). x ++ sheet_of xs) (parse_writes l e k g) ∙ append_assoc l (lf ∷ []) (sheet_of xs)
                ∙ ap (λ (x : List ℕ). l ++ (lf ∷ x)) t.writes;
          })

      go : IH → (o : Option Event) → parse_line l ≡ o → P (read_line text n line o (read_from text n (suc line) ls))
      go ih None e p = no_events p
      go ih (Some x) e p =
          pick_either P (ltb 4096 line) _ _ (λ b r. no_events r)
          (λ b. pick_either P (all (is_good_span text n) (spans_of x)) _ _
          (λ s. with_good ih x e s (let m : line ≤ 4096 = ltb-false 4096 line b in omega arith) (read_from text n (suc line) ls) refl) (λ s r. no_events r)) p

-- every line of a sheet that was read is what is written of its event
pub sheet_writes : (text sheet : List ℕ) (es : List Event) → read_sheet text sheet ≡ events es → sheet_of es ≡ sheet
unfolding read_sheet
sheet_writes text sheet es q = (read_good text (length text) 1 (lines sheet) es (omega arith) (lines_without sheet) q).writes ∙ lines_bytes sheet

-- ---- what is readable reads back

module _ (text : List ℕ) (n : ℕ) where
  pub data Written : List Event → Type 0 where
    written_none : Written []
    written_more : {e : Event} {es : List Event} → Readable e → all (is_good_span text n) (spans_of e) ≡ true → Written es → Written (e ∷ es)

  written_reads : {es : List Event} (line : ℕ) → Written es → line + length es ≤ 4097 → read_from text n line (lines (sheet_of es)) ≡ events es
  unfolding sheet_of read_from lines is_empty write_line
  written_reads line written_none h = refl
  written_reads line (written_more {e} {es} g s r) h =
      ap (read_from text n line) (lines_line (event_fields e) (sheet_of es))
      ∙ ap (λ (o : Option Event). read_line text n line o (read_from text n (suc line) (lines (sheet_of es)))) g
      ∙ ap (read_line text n line (Some e)) (written_reads (suc line) r (omega arith))
      ∙ taken (le-ltb 4096 line (omega arith))
    where
      taken : ltb 4096 line ≡ false → read_line text n line (Some e) (events es) ≡ events (e ∷ es)
      taken q = unfold read_line with_event in rw (q, s)

-- ---- the form's events are readable

ingredient_spans : (c : Component) (x : Option Earlier) (i : Option Intermediate)
    → component_spans (ingredient_event (marked_if c x) i) ≡ component_spans (ingredient_event c i)
unfolding marked_if mark_ref component_spans named_spans
ingredient_spans c None i = refl
ingredient_spans c (Some d) i = refl

cookware_spans : (c : Component) (x : Option Earlier) → component_spans (cookware_event (marked_if c x)) ≡ component_spans (cookware_event c)
unfolding marked_if mark_ref component_spans named_spans
cookware_spans c None = refl
cookware_spans c (Some d) = refl

marked_spans : (cx : Context) (st : State) (c : ComponentEvent) → component_spans (marked_component cx st c) ≡ component_spans c
unfolding marked_component
marked_spans cx st (ingredient_event c i) = ingredient_spans c _ i
marked_spans cx st (cookware_event c) = cookware_spans c _
marked_spans cx st (timer_event s n q) = refl

ingredient_readable : (c : Component) (x : Option Earlier) (i : Option Intermediate) → Readable (inside (component_event (ingredient_event c i)))
    → GoodParts (ingredient_event c i) → Good (raw (component_fields (ingredient_event c i)))
    → Readable (inside (component_event (ingredient_event (marked_if c x) i)))
unfolding marked_if
ingredient_readable c None i r p g = r
ingredient_readable c (Some d) i r p g = ingredient_marked c i p g

cookware_readable : (c : Component) (x : Option Earlier) → Readable (inside (component_event (cookware_event c))) → GoodParts (cookware_event c)
    → Good (raw (component_fields (cookware_event c)))
    → Readable (inside (component_event (cookware_event (marked_if c x))))
unfolding marked_if
cookware_readable c None r p g = r
cookware_readable c (Some d) r p g = cookware_marked c p g

marked_readable : (cx : Context) (st : State) (c : ComponentEvent) → Readable (inside (component_event c)) → GoodParts c
    → Good (raw (component_fields c))
    → Readable (inside (component_event (marked_component cx st c)))
unfolding marked_component
marked_readable cx st (ingredient_event c i) r p g = ingredient_readable c _ i r p g
marked_readable cx st (cookware_event c) r p g = cookware_readable c _ r p g
marked_readable cx st (timer_event s n q) r p g = r

module _ (text : List ℕ) (n : ℕ) where
  first_span : (x : Span) (l : List Span) → all (is_good_span text n) (x ∷ l) ≡ true → all (is_good_span text n) (x ∷ []) ≡ true
  unfolding all
  first_span x l s = and_both (is_good_span text n x) true (and_left (is_good_span text n x) (all (is_good_span text n) l) s) refl

  -- a component's own span is its line's first
  own_span : (c : ComponentEvent) → all (is_good_span text n) (component_spans c) ≡ true → all (is_good_span text n) (component_span c ∷ []) ≡ true
  unfolding component_spans named_spans component_span
  own_span (ingredient_event c i) s = first_span c.span _ s
  own_span (cookware_event c) s = first_span c.span _ s
  own_span (timer_event a x q) s = first_span a _ s

  -- none or one readable line
  data AtMostOne : List Event → Type 0 where
    piece_none : AtMostOne []
    piece_one : {e : Event} → Readable e → all (is_good_span text n) (spans_of e) ≡ true → AtMostOne (e ∷ [])

  piece_lines : {a b : List Event} → AtMostOne a → Written text n b → Written text n (a ++ b)
  piece_lines piece_none h = h
  piece_lines (piece_one g s) h = written_more g s h

  piece_count : {a : List Event} (b : List Event) → AtMostOne a → length (a ++ b) ≤ suc (length b)
  piece_count b piece_none = omega arith
  piece_count b (piece_one g s) = omega arith

  module _ (cx : Context) where
    listed_piece : (st : State) (e : Event) → Readable e → all (is_good_span text n) (spans_of e) ≡ true → AtMostOne (unless_listed st e)
    unfolding unless_listed
    listed_piece st e g s = pick_either AtMostOne (is_components st.modes.define) _ _ (λ b. piece_none) (λ b. piece_one g s)

    between_piece : (st : State) (b : Between) → Readable (between b) → all (is_good_span text n) (spans_of (between b)) ≡ true → AtMostOne (plain_between cx.flags st b)
    unfolding plain_between spans_of all
    between_piece st (meta_event k v) r s = pick_either AtMostOne (has_modes cx.flags && is_mode_key (key_of (key_text k))) _ _ (λ b. piece_none) (λ b. piece_one r s)
    between_piece st (section_event x) r s = piece_one r s
    between_piece st (start_event text_kind) r s = piece_one r s
    between_piece st (start_event step_kind) r s =
        pick_either AtMostOne (is_text st.modes.define) _ _ (λ b. piece_one start_readable refl) (λ b. listed_piece st (between (start_event step_kind)) r s)

    step_piece : (st : State) (i : Inside) → Readable (inside i) → GoodInside i → Good (raw (event_fields (inside i)))
        → all (is_good_span text n) (spans_of (inside i)) ≡ true
        → AtMostOne (unless_listed st (inside (in_plain_step cx st i)))
    unfolding in_plain_step spans_of event_fields
    step_piece st (end_event x) r p g s = listed_piece st (inside (end_event x)) r s
    step_piece st (text_event x) r p g s = listed_piece st (inside (text_event x)) r s
    step_piece st (component_event c) r p g s =
        listed_piece st (inside (component_event (marked_component cx st c))) (marked_readable cx st c r p g)
        (ap (all (is_good_span text n)) (marked_spans cx st c) ∙ s)

    text_piece_lem : (i : Inside) → Readable (inside i) → GoodInside i → Good (raw (event_fields (inside i))) → all (is_good_span text n) (spans_of (inside i)) ≡ true
        → AtMostOne (inside (in_plain_text cx.text i) ∷ [])
    unfolding in_plain_text spans_of event_fields
    text_piece_lem (end_event x) r p g s = piece_one end_readable s
    text_piece_lem (text_event x) r p g s = piece_one r s
    text_piece_lem (component_event c) r p g s = piece_one (source_readable cx.text c p g) (own_span c s)

    event_piece : (st : State) (e : Event) → Readable e → GoodEvent e → Good (raw (event_fields e)) → all (is_good_span text n) (spans_of e) ≡ true
        → AtMostOne (plain_event cx st e)
    unfolding plain_event
    event_piece st (between b) r p g s = between_piece st b r s
    event_piece st (parser_event x y) r p g s = piece_one r s
    event_piece st (inside i) r p g s = by st.place.block
      where
        by : (o : Open) → AtMostOne (plain_inside cx st i o)
        by no_block = unfold plain_inside in piece_one r s
        by (step_open is) = unfold plain_inside in step_piece st i r p g s
        by (text_open ts) = unfold plain_inside in piece_one r s
        by (text_mode_open ts) = unfold plain_inside in text_piece_lem i r p g s

    pub record FormLines (es ps : List Event) : Type 0 where
      pub lines_good : Written text n ps
      pub few : length ps ≤ length es

    trace_good : {es : List Event} → ReadLines text n es → (line : ℕ) (w : Walk) → FormLines es (plain_events cx (trace_from cx line w es))
    unfolding trace_from traced plain_events
    trace_good read_none line w = record { lines_good = written_none; few = omega arith }
    trace_good (read_more {e} {es} r p g s h) line (going st) =
        let t : FormLines es (plain_events cx (trace_from cx (suc line) (step cx line e (going st)) es)) = trace_good h
        (suc line) (step cx line e (going st)) in
        let q : AtMostOne (plain_event cx st e) = event_piece st e r p g s in
        record {
          lines_good = piece_lines q t.lines_good;
          few = omega
              (arith, piece_count (plain_events cx (trace_from cx (suc line) (step cx line e (going st)) es)) q, t.few);
        }
    trace_good (read_more {e} {es} r p g s h) line (failed fs) =
        let t : FormLines es (plain_events cx (trace_from cx (suc line) (step cx line e (failed fs)) es)) = trace_good h
        (suc line) (step cx line e (failed fs)) in
        record { lines_good = t.lines_good; few = omega (arith, t.few) }
    trace_good (read_more {e} {es} r p g s h) line (refused a b) =
        let t : FormLines es (plain_events cx (trace_from cx (suc line) (step cx line e (refused a b)) es)) = trace_good h
        (suc line) (step cx line e (refused a b)) in
        record { lines_good = t.lines_good; few = omega (arith, t.few) }

-- the form's bytes read back as the form's events
pub form_reads : (text sheet : List ℕ) (cx : Context) (es : List Event) → read_sheet text sheet ≡ events es
    → read_sheet text (sheet_of (plain_events cx (trace_from cx 1 (going first_state) es))) ≡ events
    (plain_events cx (trace_from cx 1 (going first_state) es))
unfolding read_sheet
form_reads text sheet cx es q =
    let r : ReadAs text (length text) 1 (lines sheet) es = read_good text (length text) 1 (lines sheet) es (omega arith) (lines_without sheet) q in
    let t : FormLines text (length text) cx es (plain_events cx (trace_from cx 1 (going first_state) es)) = trace_good text
    (length text) cx r.lines_good 1 (going first_state) in
    written_reads text (length text) 1 t.lines_good (omega (arith, r.few, t.few))
