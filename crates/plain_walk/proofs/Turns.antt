-- The turns of the loop that writes the plain form.
use Prim.Native.Nat.{ℕ, suc, ◌+◌, ◌-◌, ◌≤◌, ◌<◌}
use mathlib.Core.Path.{◌≡◌, refl, sym, ap, ◌∙◌, subst}
use mathlib.Core.List.{List}
use mathlib.Core.Bool.{Bool, true, false}
use Rattle.std.specs.Prelude.{Option, None, Some, Result, Ok, Err}
use native.Mathlib.Omega.{arith}
use lib.Dec.{ltb}
use lib.ListN.{length, take, drop}
use Rattle.rules.specs.Basic.{pick, is_some, all, lf}
use Rattle.rules.specs.Sheet.{Lines, lines, Without}
use Rattle.rules.specs.Event.{Event, spans_of}
use Rattle.rules.specs.Input.{Context}
use Rattle.rules.specs.Read.{parse_line}
use Rattle.rules.specs.Model.{Kind, ingredient, cookware}
use Rattle.rules.specs.State.{State}
use Rattle.rules.specs.Plain.{sheet_of}
use Rattle.rules.specs.Answer.{Reading, events, unread, with_event, events_or, is_good_span, read_line, read_from, read_sheet}
use Rattle.refusals.specs.Told.{number_of, number_told}
use Rattle.refusals.specs.declared.Reason.{Reason}
use Rattle.output.proofs.Puts.{keeps}
use Rattle.output.proofs.Texts.{text_is}
use Rattle.sheet.specs.Lines.{lines_from, LineAt}
use Rattle.content.proofs.Lines.{line_without}
use Rattle.events.specs.Views.{component_event_in, inside_in, event_in}
use Rattle.events.specs.declared.ComponentEvent.{ComponentEvent}
use Rattle.events.specs.declared.ComponentEvent.TheVariants as component
use Rattle.events.specs.declared.Inside.TheVariants as inside
use Rattle.events.specs.declared.EventView.{EventView}
use Rattle.events.specs.declared.EventView.TheVariants as event
use Rattle.reading.proofs.Passes.{Rest, rest_some}
use Rattle.known_events.specs.Known.{KnownEvent}
use Rattle.model.specs.Memory.{rows_in, count_of}
use Rattle.model.specs.declared.Open.{Open}
use Rattle.model.specs.declared.Open.TheVariants as block
use Rattle.model.specs.declared.Held.{Held}
use Rattle.model.proofs.Windows.{has_row}
use Rattle.memory.proofs.Reading.{rows_there}
use Rattle.lookup.proofs.Names.{names_inside}
use Rattle.following.specs.declared.Follow.{Follow}
use Rattle.following.specs.Drawn.{first_follow}
use Rattle.following.specs.Follow.{Followed, Room}
use Rattle.plain_walk.specs.Rows.{RowOf, RowIn, RowFor}
use Rattle.plain_walk.specs.Lines.{plain_in}
use Rattle.plain_walk.specs.Faults.{RowNamed, ComponentReady, BlockReady, InsideReady, EventReady, LineFault}
use Rattle.plain_walk.specs.Becomes.{PlainFit, Few, EventTold, PlainWritten}
use Rattle.plain_walk.specs.Walk.{Final, Left, PassDone, FormedAs, FormWritten}
use Rattle.plain_walk.specs.declared.Plain.{Plain}
use Rattle.plain_walk.proofs.Behinds.{behind_none}
use Rattle.plain_walk.proofs.Forming.{Forming, forming_starts, forming_room, forming_form, forming_clear, forming_cut, forming_row, forming_few, forming_front, forming_fault, forming_next}
use Rattle.plain_walk.proofs.Writes.{put_none}

-- ---- a component's line in a step has its row

module _ {sheet w : List ℕ} {h : Held} {final : State} (z : Final sheet w h final) where
  ready_row : (k : Kind) {n : ℕ} → n < count_of k h → RowNamed sheet (rows_in k w) n
  ready_row k l = record { row = has_row (rows_there k z.sound) l; names = names_inside (record { at = λ i x. (z.fit.rows k).at i (omega (arith, x, l)) }) }

  ready_component : (line : List ℕ) (c : ComponentEvent) (f : Follow) → RowOf (component_event_in line c) f h → ComponentReady sheet w c f
  unfolding RowOf component_event_in ComponentReady
  ready_component line (component.Ingredient v i) f l = ready_row ingredient l
  ready_component line (component.Cookware v) f l = ready_row cookware l
  ready_component line (component.Timer s n q) f l = tt

  ready_block : (line : List ℕ) (c : ComponentEvent) (b : Open) (f : Follow) → RowIn (component_event_in line c) b f h → BlockReady sheet w c b f
  unfolding RowIn BlockReady
  ready_block line c block.Nothing f l = tt
  ready_block line c block.Step f l = ready_component line c f l
  ready_block line c block.Text f l = tt
  ready_block line c block.TextMode f l = tt

  ready_event : (line : List ℕ) (v : EventView) (f : Follow) → RowFor (event_in line v) f h → EventReady sheet w v f
  unfolding RowFor event_in inside_in EventReady InsideReady
  ready_event line (event.Between b) f l = tt
  ready_event line (event.Inside (inside.End k)) f l = tt
  ready_event line (event.Inside (inside.Text t)) f l = tt
  ready_event line (event.Inside (inside.Component c)) f l = ready_block line c f.block f l
  ready_event line (event.Finding s n) f l = tt

-- ---- spans of a line

no_events : {P : Type 0} {n l : ℕ} {es : List Event} → unread n l ≡ events es → P
no_events e = absurd (let z : ◌≡◌ {A = ℕ} 0 1 = cc in omega arith)

chosen : (s t : Bool) (e : Event) (number : ℕ) (rest : Reading) (es : List Event) → pick s (unread 9 number) (pick t (with_event e rest) (unread 10 number)) ≡ events es → t ≡ true
chosen true t e number rest es q = no_events q
chosen false true e number rest es q = refl
chosen false false e number rest es q = no_events q

spans_of_lem : (text : List ℕ) (number : ℕ) (e : Event) (rest : Reading) {es : List Event} → read_line text (length text) number (Some e) rest ≡ events es → all (is_good_span text (length text)) (spans_of e) ≡ true
unfolding read_line
spans_of_lem text number e rest q = chosen (ltb 4096 number) (all (is_good_span text (length text)) (spans_of e)) e number rest _ q

module _ {text bytes : List ℕ} {at number : ℕ} {es : List Event} (w : Rest text bytes at number es) {r : Option ℕ} (l : LineAt bytes at r) {end : ℕ} (q : r ≡ Some end) where
  split : read_line text (length text) number (parse_line (take (end - at) (drop at bytes))) (read_from text (length text) (suc number) (lines (drop (end + 1) bytes))) ≡ events es
  unfolding read_from lines_from
  split = sym (ap (λ (ls : Lines). read_from text (length text) number ls) (sym l.is ∙ ap (lines_from bytes at) q)) ∙ w.is

  line_spans : (e : Event) → parse_line (take (end - at) (drop at bytes)) ≡ Some e → all (is_good_span text (length text)) (spans_of e) ≡ true
  line_spans e k = spans_of_lem text number e _ (rw k at split)

  no_lf_lem : Without lf (take (end - at) (drop at bytes))
  unfolding lines_from
  no_lf_lem = line_without (drop at bytes) (sym (sym (ap (lines_from bytes at) q) ∙ l.is))

-- ---- the loop

-- what it carries: in the context that is known, and in every one
pub record Looping (text : List ℕ) (flags : ℕ) (sheet w : List ℕ) (h : Held) (o₀ : List ℕ) (at number : ℕ) (f : Follow) (o : List ℕ) (n : ℕ) : Type 0 where
  pub context : Context
  pub here : Forming text context sheet w h o₀ at number f o n
  pub by : (cx : Context) → cx.text ≡ text → cx.flags ≡ flags → Left cx text sheet w h → Forming text cx sheet w h o₀ at number f o n
  pub same_text : context.text ≡ text
  pub same_flags : context.flags ≡ flags

pub form_starts : {text : List ℕ} {flags : ℕ} {sheet w : List ℕ} {h : Held} {o₀ : List ℕ} {f : Follow} → f ≡ first_follow → PassDone text flags sheet w h
    → read_sheet text sheet ≡ events (events_or (read_sheet text sheet)) → Looping text flags sheet w h o₀ 0 1 f o₀ 0
form_starts {text} {flags} {sheet} {w} {h} {o₀} {f} e c q =
    record { context = c.context; here = start c.context c.left; by = λ cx a b x. start cx x; same_text = c.same_text; same_flags = c.same_flags }
  where
    start : (cx : Context) → Left cx text sheet w h → Forming text cx sheet w h o₀ 0 1 f o₀ 0
    start cx x = subst (λ (y : Follow). Forming text cx sheet w h o₀ 0 1 y o₀ 0) (sym e) (forming_starts text cx sheet w h x q (put_none o₀))

module _ {text : List ℕ} {flags : ℕ} {sheet w : List ℕ} {h : Held} {o₀ : List ℕ} {at number : ℕ} {f : Follow} {o : List ℕ} {n : ℕ} (d : Looping text flags sheet w h o₀ at number f o n) where
  pub form_ends : length sheet ≤ at → FormWritten text flags sheet w h o₀ o (Ok n)
  unfolding FormedAs
  form_ends m = record { is = λ cx a b x. let g = d.by cx a b x in (forming_clear text cx sheet w h g m, forming_form text cx sheet w h g m) }

  pub form_kept : length o ≡ length o₀
  form_kept = keeps d.here.put

  pub form_number : number ≤ at + 1
  form_number = d.here.low

  pub form_room : at < 100000 → Room f
  form_room m = forming_room text d.context sheet w h d.here m

  pub form_inline : f.inline + 0 ≤ 100000
  form_inline = behind_none d.here.behind

  pub form_few : Few f
  form_few = forming_few text d.context sheet w h d.here

  module _ {r : Option ℕ} (l : LineAt sheet at r) where
    pub form_cut : {P : Type 0} → at < length sheet → r ≡ None → P
    form_cut t q = forming_cut text d.context sheet w h d.here l t q

    module _ {end : ℕ} (q : r ≡ Some end) where
      pub form_line : (is_some (parse_line (take (end - at) (drop at sheet))) ≡ true) × Without lf (take (end - at) (drop at sheet))
      form_line = (rest_some d.here.rest l q, no_lf_lem d.here.rest l q)

      module _ {v : EventView} (k : KnownEvent (take (end - at) (drop at sheet)) v) where
        pub form_ready : EventReady sheet w v f
        form_ready = ready_event d.here.memory (take (end - at) (drop at sheet)) v f (forming_row text d.context sheet w h d.here l q k)

        pub form_fit : {p : Plain} → EventTold flags w (take (end - at) (drop at sheet)) v f p → PlainFit text (take (end - at) (drop at sheet)) p
        form_fit t = t.fit text k.fields (line_spans d.here.rest l q (event_in (take (end - at) (drop at sheet)) v) k.is)

        module _ {x : Result (Unit {0}) Reason} (g : LineFault sheet w v f x) where
          pub form_fault : {m : Reason} → x ≡ Err m → FormWritten text flags sheet w h o₀ o (Err (record { reason = m; line = number }))
          unfolding FormedAs
          form_fault {m} e =
              record {
                is = λ cx a b y.
                    let z = d.by cx a b y in
                    (forming_fault text cx sheet w h z l q k (number_of m) (sym (g.at (take (end - at) (drop at sheet))) ∙ ap number_told e), forming_front text cx sheet w h z);
              }

          module _ {u : Unit {0}} (m : x ≡ Ok u) {p : Plain} {y : Follow} {o' : List ℕ} {n' : ℕ} (t : EventTold flags w (take (end - at) (drop at sheet)) v f p)
              (p' : PlainWritten text (take (end - at) (drop at sheet)) p o n o' n') (z : Followed flags (take (end - at) (drop at sheet)) v 0 f y) where
            -- in a context of the text and the flags
            next_in : (cx : Context) → cx.text ≡ text → cx.flags ≡ flags → Forming text cx sheet w h o₀ at number f o n → Forming text cx sheet w h o₀ (end + 1) (number + 1) y o' n'
            next_in cx a b g' =
                forming_next text cx sheet w h g' l q k (l.inside end q).0
                (sym (g.at (take (end - at) (drop at sheet))) ∙ ap number_told m)
                (rw (a, b)
                (text_is (sheet_of (plain_in text w flags (event_in (take (end - at) (drop at sheet)) v) f)) (ap sheet_of (sym (t.at text))) (p'.put (event_in (take (end - at) (drop at sheet)) v) k.is (no_lf_lem d.here.rest l q))))
                (rw b z)

            pub form_next : Looping text flags sheet w h o₀ (end + 1) (number + 1) y o' n'
            form_next =
                record {
                  context = d.context;
                  here = next_in d.context d.same_text d.same_flags d.here;
                  by = λ cx a b y. next_in cx a b (d.by cx a b y);
                  same_text = d.same_text;
                  same_flags = d.same_flags;
                }
