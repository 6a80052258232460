-- The loop over an accepted sheet that writes its plain form: what it carries from line to line, and what it ends with.
use Prim.Native.Nat.{ℕ, suc, ◌+◌, ◌-◌, ◌≤◌, ◌<◌}
use mathlib.Core.Path.{◌≡◌, refl, sym, ap, ◌∙◌, subst}
use mathlib.Core.List.{List, [], ◌∷◌, ◌++◌, append_assoc, append-nil}
use Rattle.std.specs.Prelude.{Option, None, Some}
use native.Mathlib.Omega.{arith}
use native.Mathlib.Numerals.{add-one}
use lib.ListN.{length, take, drop, length-append}
use lib.Seq.{take_at}
use Rattle.rules.specs.Input.{Context}
use Rattle.rules.specs.Sheet.{lines}
use Rattle.rules.specs.Event.{Event}
use Rattle.rules.specs.Write.{write_line}
use Rattle.rules.specs.Model.{Kind}
use Rattle.rules.specs.State.{State, first_state, table_of, next, going}
use Rattle.rules.specs.Plain.{Traced, trace_from, plain_event, plain_events, plain_fault, sheet_of}
use Rattle.rules.specs.Answer.{Answer, declined, fault_or, unless_faulty, events, events_or, read_from, read_sheet}
use Rattle.rules.proofs.FaultWalk.{Takes, takes, trace_on}
use Rattle.output.specs.Put.{Put}
use Rattle.output.proofs.Puts.{put_seq}
use Rattle.output.proofs.Texts.{text_is}
use Rattle.sheet.specs.Lines.{LineAt}
use Rattle.events.specs.declared.EventView.{EventView}
use Rattle.events.specs.Views.{event_in}
use Rattle.reading.proofs.Passes.{Rest, First, rest_ends, rest_ended, rest_parsed}
use Rattle.known_events.specs.Known.{KnownEvent}
use Rattle.model.specs.declared.Held.{Held}
use Rattle.following.specs.declared.Follow.{Follow}
use Rattle.following.specs.Drawn.{first_follow}
use Rattle.following.specs.Follow.{Followed, Room}
use Rattle.following.proofs.Walking.{Walking, Went, walking_first, walking_next}
use Rattle.plain_walk.specs.Rows.{fault_in, RowFor}
use Rattle.plain_walk.specs.Lines.{Behind, plain_in}
use Rattle.plain_walk.specs.Becomes.{Few}
use Rattle.plain_walk.specs.Walk.{Final, Left, FormFront}
use Rattle.plain_walk.proofs.Grown.{Grown, walk_grown}
use Rattle.plain_walk.proofs.Same.{plain_same, fault_same, row_there, table_most}
use Rattle.plain_walk.proofs.Behinds.{behind_first, behind_next, behind_room, behind_few}

-- ---- bytes of lines

sheet_both : (es fs : List Event) → sheet_of (es ++ fs) ≡ sheet_of es ++ sheet_of fs
unfolding sheet_of
sheet_both [] fs = refl
sheet_both (e ∷ es) fs = ap (λ (x : List ℕ). write_line e ++ x) (sheet_both es fs) ∙ sym (append_assoc (write_line e) (sheet_of es) (sheet_of fs))

events_both : (cx : Context) (ts us : List Traced) → plain_events cx (ts ++ us) ≡ plain_events cx ts ++ plain_events cx us
unfolding plain_events
events_both cx [] us = refl
events_both cx (t ∷ ts) us =
    ap (λ (x : List Event). plain_event cx t.state t.event ++ x) (events_both cx ts us)
    ∙ sym (append_assoc (plain_event cx t.state t.event) (plain_events cx ts) (plain_events cx us))

next_inj : {a b : State} → next a ≡ next b → a ≡ b
next_inj q = cc

module _ (text : List ℕ) (cx : Context) (sheet w : List ℕ) (h : Held) where
  abbrev trace : ℕ → State → List Event → List Traced
  trace number st es = trace_from cx number (going st) es

  abbrev whole : List Traced
  whole = trace 1 first_state (events_or (read_sheet text sheet))

  -- the bytes of some lines' form
  abbrev form : List Traced → List ℕ
  form ts = sheet_of (plain_events cx ts)

  form_both : (ts us : List Traced) → form (ts ++ us) ≡ form ts ++ form us
  form_both ts us = ap sheet_of (events_both cx ts us) ∙ sheet_both (plain_events cx ts) (plain_events cx us)

  -- the lines before `at`, one fewer than `number`, have no fault, and their form is written in a buffer that held o₀; f follows the walk
  pub record Forming (o₀ : List ℕ) (at number : ℕ) (f : Follow) (o : List ℕ) (n : ℕ) : Type 0 where
    pub final : State
    pub memory : Final sheet w h final
    pub st : State
    pub es : List Event
    pub rest : Rest text sheet at number es
    pub walking : Walking cx number st final es
    pub low : number ≤ at + 1
    pub behind : Behind st f
    pub before : List Traced
    pub split : whole ≡ before ++ trace number st es
    pub count : length before + 1 ≡ number
    pub put : Put (form before) o₀ 0 o n
    pub clear : (a : Answer) → unless_faulty cx a whole ≡ unless_faulty cx a (trace number st es)

  pub forming_starts : {o₀ : List ℕ} → Left cx text sheet w h → read_sheet text sheet ≡ events (events_or (read_sheet text sheet)) → Put [] o₀ 0 o₀ 0 → Forming o₀ 0 1 first_follow o₀ 0
  unfolding read_sheet sheet_of plain_events
  forming_starts c q p =
      record {
        final = c.final;
        memory = c.memory;
        st = first_state;
        es = events_or (read_sheet text sheet);
        rest = record { is = q };
        walking = walking_first cx c.walked;
        low = omega arith;
        behind = behind_first;
        before = [];
        split = refl;
        count = refl;
        put = p;
        clear = λ a. refl;
      }

  module _ {o₀ : List ℕ} {at number : ℕ} {f : Follow} {o : List ℕ} {n : ℕ} (d : Forming o₀ at number f o n) where
    pub forming_room : at < 100000 → Room f
    forming_room m = behind_room cx d.walking d.behind (omega (arith, d.low))

    -- there are no more components yet than at the end
    pub forming_few : Few f
    forming_few =
        behind_few h d.behind (λ k. table_most k d.st d.memory (walk_grown cx d.es number d.st d.final d.walking.goes k)) d.memory.ingredients d.memory.cookware

    -- no line is left
    none_left : length sheet ≤ at → trace number d.st d.es ≡ []
    unfolding trace_from
    none_left m = ap (trace number d.st) (rest_ends d.rest m)

    pub forming_form : length sheet ≤ at → Put (form whole) o₀ 0 o n
    forming_form m =
        text_is (form whole) (ap form (d.split ∙ (ap (λ (ts : List Traced). d.before ++ ts) (none_left m) ∙ append-nil d.before))) d.put

    lines_before : take (number - 1) whole ≡ d.before
    lines_before = ap (take (number - 1)) d.split ∙ take_at d.before (trace number d.st d.es) (number - 1) (omega (arith, d.count))

    -- what is written is the front of the form up to the line at `at`
    pub forming_front : FormFront cx text sheet number o₀ o
    forming_front = record { count = n; put = text_is _ (ap form lines_before) d.put }

    pub forming_clear : length sheet ≤ at → (a : Answer) → unless_faulty cx a whole ≡ a
    unfolding unless_faulty
    forming_clear m a = d.clear a ∙ ap (unless_faulty cx a) (none_left m)

    module _ {r : Option ℕ} (l : LineAt sheet at r) where
      -- every line has its LF
      pub forming_cut : {P : Type 0} → at < length sheet → r ≡ None → P
      forming_cut t q = rest_ended d.rest l t q

      module _ {end : ℕ} (q : r ≡ Some end) {v : EventView} (k : KnownEvent (take (end - at) (drop at sheet)) v) where
        abbrev event : Event
        event = event_in (take (end - at) (drop at sheet)) v

        abbrev line : Traced
        line = record { line = number; state = d.st; event = event }

        first : First event (read_from text (length text) (number + 1) (lines (drop (end + 1) sheet))) d.es
        first = rest_parsed d.rest l q k.is

        walking : Walking cx number d.st d.final (event ∷ first.others)
        walking = subst (λ (es : List Event). Walking cx number d.st d.final es) first.is d.walking

        went : Went cx number event d.st d.final first.others
        went = walking_next cx walking

        grown : (x : Kind) → Grown (table_of x went.after) (table_of x d.final)
        grown x = walk_grown cx first.others (number + 1) went.after d.final went.then.goes x

        -- the line and the others in the trace
        trace_next : trace number d.st d.es ≡ line ∷ trace (number + 1) went.after first.others
        trace_next =
            let t : Takes cx number event d.st = takes cx number event first.others d.st d.final walking.goes in
            let e : t.after ≡ went.after = next_inj (sym t.event ∙ went.event) in
            ap (trace number d.st) first.is
            ∙ (trace_on cx number event first.others d.st t
            ∙ rw (add-one number) (ap (λ (s : State). line ∷ trace (suc number) s first.others) e))

        fault_is : plain_fault cx d.st event ≡ fault_in w sheet event f
        fault_is = fault_same cx sheet w h d.st went.after d.final d.memory grown d.behind event went.event

        -- the line's component has its row
        pub forming_row : RowFor event f h
        forming_row = row_there cx sheet w h d.st went.after d.final d.memory grown d.behind event went.event

        -- the first fault
        pub forming_fault : (m : ℕ) → fault_in w sheet event f ≡ Some m → (a : Answer) → unless_faulty cx a whole ≡ declined m number
        unfolding unless_faulty fault_or
        forming_fault m e a =
            d.clear a ∙ (ap (unless_faulty cx a) trace_next
            ∙ ap (λ (x : Option ℕ). fault_or number x (unless_faulty cx a (trace (number + 1) went.after first.others))) (fault_is ∙ e))

        line_form : form (line ∷ []) ≡ sheet_of (plain_in cx.text w cx.flags event f)
        unfolding plain_events
        line_form = ap sheet_of (append-nil (plain_event cx d.st event) ∙ plain_same cx sheet w h d.st went.after d.final d.memory grown d.behind event went.event)

        -- one line on
        pub forming_next : {g : Follow} {o' : List ℕ} {n' : ℕ} → at ≤ end → fault_in w sheet event f ≡ None → Put (sheet_of (plain_in cx.text w cx.flags event f)) o n o' n'
            → Followed cx.flags (take (end - at) (drop at sheet)) v 0 f g → Forming o₀ (end + 1) (number + 1) g o' n'
        forming_next {g} {o'} {n'} m e p z =
            record {
              final = d.final;
              memory = d.memory;
              st = went.after;
              es = first.others;
              rest = record { is = first.next };
              walking = went.then;
              low = omega (arith, d.low);
              behind = behind_next cx went.event d.behind z;
              before = d.before ++ (line ∷ []);
              split =
                  d.split ∙ (ap (λ (ts : List Traced). d.before ++ ts) trace_next
                  ∙ sym (append_assoc d.before (line ∷ []) (trace (number + 1) went.after first.others)));
              count = omega (arith, d.count, length-append d.before (line ∷ []));
              put = text_is _ (form_both d.before (line ∷ [])) (put_seq d.put (text_is _ line_form p));
              clear = λ a. d.clear a ∙ (ap (unless_faulty cx a) trace_next ∙ unfold unless_faulty fault_or in ap (λ (x : Option ℕ). fault_or number x (unless_faulty cx a (trace (number + 1) went.after first.others))) (fault_is ∙ e));
            }
