-- The walk over the lines of a sheet.
use Prim.Native.Nat.{ℕ, suc, ◌+◌, ◌-◌, ◌≤◌, ◌<◌}
use mathlib.Core.Path.{◌≡◌, refl, sym, ap, ◌∙◌, subst}
use mathlib.Core.List.{List, [], ◌∷◌, ◌++◌}
use mathlib.Core.Bool.{true, false}
use Rattle.std.specs.Prelude.{Some, None, Option, Result, Ok, Err}
use native.Mathlib.Omega.{arith}
use native.Mathlib.Numerals.{add-one}
use lib.ListN.{length, get_or, take, drop, length-drop}
use lib.Seq.{get_or-drop, length-take-le}
use Rattle.rules.specs.Basic.{is_some, lf}
use Rattle.rules.specs.Sheet.{more, lines, Without}
use Rattle.rules.specs.Event.{Event}
use Rattle.rules.specs.Read.{parse_line}
use Rattle.rules.specs.Input.{Context, Agrees, TextAgrees}
use Rattle.rules.specs.Finding.{Finding, only_parsed}
use Rattle.rules.specs.Answer.{events, events_or, read_from, read_sheet}
use Rattle.rules.specs.State.{State, first_state, over_limits, Walk, going, failed, refused}
use Rattle.rules.specs.Pass.{parser_findings, is_error_event, step, walk, finish, parse_events}
use Rattle.rules.proofs.Chained as chained
use Rattle.refusals.specs.Told.{number_of}
use Rattle.refusals.specs.declared.Reason.{Reason}
use Rattle.refusals.specs.declared.Refusal.{Refusal}
use Rattle.sheet.specs.Lines.{lines_from, LineAt}
use Rattle.content.proofs.Lines.{line_without, line_ends}
use Rattle.events.specs.Views.{event_in}
use Rattle.events.specs.declared.EventView.{EventView}
use Rattle.reading.proofs.Passes.{Rest, First, rest_ends, rest_ended, rest_some, rest_parsed}
use Rattle.known_events.specs.Known.{KnownEvent}
use Rattle.model.specs.Blank.{blank, blank_walk}
use Rattle.model.specs.Memory.{state_in, first_held, Sound}
use Rattle.model.specs.declared.Held.{Held}
use Rattle.model.specs.Writes.{Writes}
use Rattle.model.proofs.Blanks.{blank_step_lem, over_blank}
use Rattle.model.proofs.Writes.{writes_none, writes_on, writes_past}
use Rattle.memory.proofs.Smalls.{first_state_lem}
use Rattle.memory.proofs.Bounds.{first_fit}
use Rattle.lookup.proofs.Names.{part_slice}
use Rattle.component_lines.specs.Lines.{Kept}
use Rattle.pass.specs.Walks.{EventHere, Counted, Running, WentOn, WalkedAs, StepDone, EndedAs, Finished, RanBy, Ran, RanAs}
use Rattle.pass.proofs.Counts.{first_counted, counted_blank, counted_more}
use Rattle.pass.proofs.Rooms.{bounded}
use Rattle.pass.proofs.Steps.{sound_blank}

-- ---- the rules' walk where it has failed or was refused

module _ (cx : Context) where
  pub record Fails (w : Walk) : Type 0 where
    pub findings : List Finding
    pub is : w ≡ failed findings

  walk_failed : (es : List Event) (line : ℕ) (fs : List Finding) → Fails (walk cx line (failed fs) es)
  unfolding walk step
  walk_failed [] line fs = record { findings = fs; is = refl }
  walk_failed (e ∷ es) line fs = walk_failed es (suc line) (parser_findings e ++ fs)

  walk_refused : (es : List Event) (line n l : ℕ) → walk cx line (refused n l) es ≡ refused n l
  unfolding walk step
  walk_refused [] line n l = refl
  walk_refused (e ∷ es) line n l = walk_refused es (suc line) n l

-- the walk that a blank one stands for
pub record Goes (w : Walk) (x : State) : Type 0 where
  pub state : State
  pub is : w ≡ going state
  pub blanks : x ≡ blank state

going_inj : {a b : State} → going a ≡ going b → a ≡ b
going_inj e = cc

not_going : {P : Type 0} {fs : List Finding} {x : State} → failed fs ≡ going x → P
not_going e = absurd (let z : ◌≡◌ {A = ℕ} 0 1 = cc in omega arith)

not_refused : {P : Type 0} {n l : ℕ} {x : State} → refused n l ≡ going x → P
not_refused e = absurd (let z : ◌≡◌ {A = ℕ} 0 1 = cc in omega arith)

failed_refused : {P : Type 0} {fs : List Finding} {n l : ℕ} → failed fs ≡ refused n l → P
failed_refused e = absurd (let z : ◌≡◌ {A = ℕ} 0 1 = cc in omega arith)

goes_on : (w : Walk) (x : State) → blank_walk w ≡ going x → Goes w x
unfolding blank_walk
goes_on (going st) x e = record { state = st; is = refl; blanks = sym (going_inj e) }
goes_on (failed fs) x e = not_going e
goes_on (refused n l) x e = not_refused e

is_refused : (w : Walk) (n l : ℕ) → blank_walk w ≡ refused n l → w ≡ refused n l
unfolding blank_walk
is_refused (going st) n l e = not_refused (sym e)
is_refused (failed fs) n l e = failed_refused e
is_refused (refused m k) n l e = e

-- ---- the loop: from `at` on, where the line `number` starts, `left` are the events

-- what the walk has come to in a context
pub record Come (cx : Context) (sheet : List ℕ) (es : List Event) (w : List ℕ) (h : Held) (number : ℕ) (left : List Event) : Type 0 where
  pub state : State
  pub walked : walk cx 1 (going first_state) es ≡ walk cx number (going state) left
  pub memory : state_in sheet w h ≡ blank state

-- w₀ before the first line
pub record Passing (units : List ℕ) (flags : ℕ) (sheet text w₀ w : List ℕ) (h : Held) (at number : ℕ) : Type 0 where
  pub from : at ≤ length sheet
  pub begins : get_or (lf ∷ sheet) at 0 ≡ lf
  pub short : length sheet ≤ 65536
  pub few : number ≤ at + 1
  pub left : List Event
  pub rest : Rest text sheet at number left
  pub come : (cx : Context) → TextAgrees text units flags cx → Come cx sheet (events_or (read_sheet text sheet)) w h number left
  pub running : Running sheet w h at
  pub writes : Writes w₀ w false

first_limits : over_limits first_state ≡ false
unfolding over_limits first_state
first_limits = refl

first_kept : (sheet w : List ℕ) → Sound w first_held → Kept sheet w first_held
first_kept sheet w l =
    let s = subst chained.SoundState (sym (first_state_lem sheet w)) (sound_blank first_state chained.first_sound) in
    record {
      sound = l;
      fit = first_fit sheet w;
      definitions = λ k. chained.table_sound k (state_in sheet w first_held) s;
      limits = ap over_limits (first_state_lem sheet w) ∙ over_blank first_state ∙ first_limits;
    }

pub passing_starts : {units : List ℕ} {flags : ℕ} {sheet text w : List ℕ} {h : Held} → h ≡ first_held → length sheet ≤ 65536 → Sound w h → read_sheet text sheet ≡ events (events_or (read_sheet text sheet)) → Passing units flags sheet text w w h 0 1
unfolding read_sheet
passing_starts {sheet = sheet} {text = text} {w = w} e s l q =
    rw e
    record {
      from = omega arith;
      begins = refl;
      short = s;
      few = omega arith;
      left = events_or (read_sheet text sheet);
      rest = record { is = q };
      come = λ cx x. record { state = first_state; walked = refl; memory = first_state_lem sheet w };
      running = record { kept = first_kept sheet w (rw e at l); counted = subst (Counted 0) (sym (first_state_lem sheet w)) (counted_blank first_state (first_counted 0)) };
      writes = writes_none;
    }

-- ---- a line

module _ {sheet : List ℕ} {at end : ℕ} {text : List ℕ} {number : ℕ} {es : List Event} (w : Rest text sheet at number es) {r : Option ℕ} (l : LineAt sheet at r) (q : r ≡ Some end) where
  first_line_lem : lines (drop at sheet) ≡ more (take (end - at) (drop at sheet)) (lines (drop (end + 1) sheet))
  unfolding lines_from
  first_line_lem = sym (sym (ap (lines_from sheet at) q) ∙ l.is)

  no_lf_lem : Without lf (take (end - at) (drop at sheet))
  no_lf_lem = line_without (drop at sheet) first_line_lem

  lf_after : get_or sheet end 0 ≡ lf
  lf_after =
      let i = l.inside end q in
      let n : length (take (end - at) (drop at sheet)) ≡ end - at = length-take-le (end - at) (drop at sheet) (omega (arith, i.0, i.1, length-drop at sheet)) in
      let d : get_or sheet (at + (end - at)) 0 ≡ lf = sym (get_or-drop at sheet (end - at) 0) ∙ ap (λ (k : ℕ). get_or (drop at sheet) k 0) (sym n) ∙ line_ends (drop at sheet) first_line_lem in
      let e : at + (end - at) ≡ end = omega (arith, i.0) in
      ap (λ (k : ℕ). get_or sheet k 0) (sym e) ∙ d

module _ {units : List ℕ} {flags : ℕ} {sheet text w₀ w : List ℕ} {h : Held} {at number : ℕ} (p : Passing units flags sheet text w₀ w h at number) where
  pub passing_room : (h.counts.sections ≤ 128) × (h.counts.findings ≤ 1024)
  passing_room = let b = bounded p.running (omega (arith, p.from, p.short)) in (b.sections, b.findings)

  module _ {r : Option ℕ} (l : LineAt sheet at r) where
    -- every line is ended
    pub passing_cut : {P : Type 0} → at < length sheet → r ≡ None → P
    passing_cut t q = rest_ended p.rest l t q

    module _ {end : ℕ} (q : r ≡ Some end) where
      pub line_ready : (is_some (parse_line (take (end - at) (drop at sheet))) ≡ true) × Without lf (take (end - at) (drop at sheet))
      line_ready = (rest_some p.rest l q, no_lf_lem p.rest l q)

      module _ {v : EventView} (k : KnownEvent (take (end - at) (drop at sheet)) v) where
        pub event_here : EventHere sheet (take (end - at) (drop at sheet)) at end v
        event_here =
            let i = l.inside end q in
            let e = part_slice at end sheet i.0 in
            record {
              part = e;
              here = record {
                whole = record {
                  order = i.0;
                  most = omega (arith, i.1);
                  begins = p.begins;
                  no_lf = subst (Without lf) e (no_lf_lem p.rest l q);
                  ends = lf_after p.rest l q;
                };
                short = p.short;
                is = subst (λ (x : List ℕ). parse_line x ≡ Some (event_in (take (end - at) (drop at sheet)) v)) e k.is;
              };
              within = k.within;
              fields = k.fields;
            }

        first : First (event_in (take (end - at) (drop at sheet)) v) (read_from text (length text) (number + 1) (lines (drop (end + 1) sheet))) p.left
        first = rest_parsed p.rest l q k.is

        module _ (cx : Context) (x : TextAgrees text units flags cx) where
          here : Come cx sheet (events_or (read_sheet text sheet)) w h number p.left
          here = p.come cx x

          abbrev stepped : State → Walk
          stepped st = step cx number (event_in (take (end - at) (drop at sheet)) v) (going st)

          whole : walk cx 1 (going first_state) (events_or (read_sheet text sheet)) ≡ walk cx (number + 1) (stepped here.state) first.others
          unfolding walk
          whole =
              here.walked ∙ ap (λ (es : List Event). walk cx number (going here.state) es) first.is
              ∙ ap (λ (n : ℕ). walk cx n (stepped here.state) first.others) (sym (add-one number))

          -- memory stands for the state
          like : blank_walk (stepped here.state) ≡ blank_walk (stepped (state_in sheet w h))
          unfolding blank_walk
          like =
              blank_step_lem cx number (event_in (take (end - at) (drop at sheet)) v) (going here.state)
              ∙ ap (λ (y : State). blank_walk (stepped y)) (sym here.memory)

        module _ {w₁ : List ℕ} {s : Result (Option Held) Reason} (d : StepDone units flags sheet (take (end - at) (drop at sheet)) end v w h w₁ s) where
          written : Writes w₀ w₁ false
          written = writes_on p.writes (writes_past d.writes)

          failed_at : s ≡ Ok None → is_error_event (event_in (take (end - at) (drop at sheet)) v) ≡ true
          unfolding WalkedAs
          failed_at e = rw e at d.is

          step_fails : s ≡ Ok None → (cx : Context) (st : State) → step cx number (event_in (take (end - at) (drop at sheet)) v) (going st) ≡ failed (parser_findings (event_in (take (end - at) (drop at sheet)) v) ++ only_parsed st.findings)
          unfolding step
          step_fails e cx st = rw (failed_at e)

          pub passing_failed : s ≡ Ok None → Ran text units flags sheet (events_or (read_sheet text sheet)) w₀ w₁ (Ok None)
          passing_failed e = record { at = by; writes = written }
            where
              by : (cx : Context) → TextAgrees text units flags cx → RanBy cx sheet (events_or (read_sheet text sheet)) w₁ (Ok None)
              by cx x =
                  unfold RanBy parse_events finish in
                  (let f = walk_failed cx first.others (number + 1) _ in
                  record {
                    findings = f.findings;
                    is = ap finish (whole cx x ∙ ap (λ (y : Walk). walk cx (number + 1) y first.others) (step_fails e cx (here cx x).state) ∙ f.is);
                  })

          refused_at : (m : Reason) → s ≡ Err m → (cx : Context) → Agrees units flags cx
              → blank_walk (step cx number (event_in (take (end - at) (drop at sheet)) v) (going (state_in sheet w h))) ≡ refused (number_of m) number
          unfolding WalkedAs
          refused_at m e cx a = (rw e at d.is) cx a number

          pub passing_refused : (m : Reason) → s ≡ Err m → Ran text units flags sheet (events_or (read_sheet text sheet)) w₀ w₁ (Err (record { reason = m; line = number }))
          passing_refused m e = record { at = by; writes = written }
            where
              by : (cx : Context) → TextAgrees text units flags cx → RanBy cx sheet (events_or (read_sheet text sheet)) w₁ (Err (record { reason = m; line = number }))
              by cx x =
                  unfold RanBy parse_events finish in
                  ap finish
                  (whole cx x
                  ∙ ap (λ (y : Walk). walk cx (number + 1) y first.others) (is_refused _ (number_of m) number (like cx x ∙ refused_at m e cx x.rest))
                  ∙ walk_refused cx first.others (number + 1) (number_of m) number)

          went_on : (m : Held) → s ≡ Ok (Some m) → WentOn units flags sheet (take (end - at) (drop at sheet)) end v w h w₁ m
          unfolding WalkedAs
          went_on m e = rw e at d.is

          come_on : (m : Held) → s ≡ Ok (Some m) → (cx : Context) → TextAgrees text units flags cx → Come cx sheet (events_or (read_sheet text sheet)) w₁ m (number + 1) first.others
          come_on m e cx x =
              let o = goes_on (stepped cx x (here cx x).state) (state_in sheet w₁ m) (like cx x ∙ (went_on m e).is cx x.rest number) in
              record {
                state = o.state;
                walked = whole cx x ∙ ap (λ (y : Walk). walk cx (number + 1) y first.others) o.is;
                memory = o.blanks;
              }

          pub passing_on : (m : Held) → s ≡ Ok (Some m) → Passing units flags sheet text w₀ w₁ m (end + 1) (number + 1)
          passing_on m e =
              let i = l.inside end q in
              record {
                from = omega (arith, i.1);
                begins = rw (add-one end) (lf_after p.rest l q);
                short = p.short;
                few = omega (arith, i.0, p.few);
                left = first.others;
                rest = record { is = first.next };
                come = come_on m e;
                running = (went_on m e).running;
                writes = written;
              }

  -- ---- the end

  module _ (t : length sheet ≤ at) where
    module _ (cx : Context) (x : TextAgrees text units flags cx) where
      last : Come cx sheet (events_or (read_sheet text sheet)) w h number p.left
      last = p.come cx x

      walked_all : walk cx 1 (going first_state) (events_or (read_sheet text sheet)) ≡ going last.state
      unfolding walk
      walked_all = last.walked ∙ ap (λ (es : List Event). walk cx number (going last.state) es) (rest_ends p.rest t)

      finished : parse_events cx (events_or (read_sheet text sheet)) ≡ finish (going last.state)
      unfolding parse_events
      finished = ap finish walked_all

      ran_by : (s : Result (Option Held) Refusal) → EndedAs h s → RanBy cx sheet (events_or (read_sheet text sheet)) w s
      unfolding EndedAs RanBy
      ran_by (Ok (Some m)) d =
          rw d.0
          record {
            state = last.state;
            walked = walked_all;
            is = finished ∙ d.1 sheet w last.state last.memory;
            memory = last.memory;
            kept = p.running.kept;
            counted = counted_more (state_in sheet w h) p.from p.running.counted;
          }
      ran_by (Ok None) d = absurd d
      ran_by (Err f) d = finished ∙ d sheet w last.state last.memory

    pub passing_done : {s : Result (Option Held) Refusal} → Finished h s → Ran text units flags sheet (events_or (read_sheet text sheet)) w₀ w s
    passing_done {s} d = record { at = λ cx x. ran_by cx x s d.is; writes = p.writes }

-- ---- what was lent is what the pass has written

pub ran_as : {text units : List ℕ} {flags : ℕ} {sheet w₀ w₁ w : List ℕ} {es : List Event} {s : Result (Option Held) Refusal} → length w ≡ length w₀ → w ≡ w₁
    → Ran text units flags sheet es w₀ w₁ s → RanAs text units flags sheet es w₀ w s
ran_as {text} {units} {flags} {sheet} {w₀} {es = es} {s = s} n e b = record { is = subst (λ (x : List ℕ). Ran text units flags sheet es w₀ x s) (sym e) b; long = n }
