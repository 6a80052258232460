-- The events of a sheet that is good, one line after the other.
use Prim.Native.Nat.{ℕ, suc, ◌+◌, ◌-◌, ◌≤◌, ◌<◌}
use mathlib.Core.Path.{◌≡◌, refl, ap, sym, ◌∙◌}
use mathlib.Core.Bool.{Bool, true, false}
use mathlib.Core.List.{List, [], ◌∷◌}
use Rattle.std.specs.Prelude.{Option, None, Some}
use native.Mathlib.Numerals.{add-one}
use native.Mathlib.Omega.{arith}
use lib.Dec.{ltb}
use lib.ListN.{length, take, drop, drop_of_length-le}
use lib.Seq.{drop-cons}
use Rattle.rules.specs.Basic.{pick, is_empty, is_some, all}
use Rattle.rules.specs.Sheet.{Lines, last, lines}
use Rattle.rules.specs.Event.{Event, spans_of}
use Rattle.rules.specs.Read.{parse_line}
use Rattle.rules.specs.Answer.{Reading, events, unread, with_event, is_good_span, read_line, read_from}
use Rattle.sheet.specs.Lines.{lines_from, LineAt}
use Rattle.events.specs.declared.EventView.{EventView}
use Rattle.events.specs.Views.{event_in}
use Rattle.reading.specs.Answers.{LineOf}
use Rattle.reading.proofs.Lines.{line_none, line_event}

-- es are the events from `at` on, where the line `number` starts
pub record Rest (text bytes : List ℕ) (at number : ℕ) (es : List Event) : Type 0 where
  pub is : read_from text (length text) number (lines (drop at bytes)) ≡ events es

-- what cannot be
no_events : {P : Type 0} {n l : ℕ} {es : List Event} → unread n l ≡ events es → P
no_events e = absurd (let z : ◌≡◌ {A = ℕ} 0 1 = cc in omega arith)

events_inj : {es fs : List Event} → events es ≡ events fs → es ≡ fs
events_inj e = cc

-- e is the first of es, and the others are read in `rest`
pub record First (e : Event) (rest : Reading) (es : List Event) : Type 0 where
  pub others : List Event
  pub is : es ≡ e ∷ others
  pub next : rest ≡ events others

first_of : (e : Event) (rest : Reading) (es : List Event) → with_event e rest ≡ events es → First e rest es
unfolding with_event
first_of e (events fs) es q = record { others = fs; is = sym (events_inj q); next = refl }
first_of e (unread n l) es q = no_events q

chosen : (s t : Bool) (e : Event) (number : ℕ) (rest : Reading) (es : List Event) → pick s (unread 9 number) (pick t (with_event e rest) (unread 10 number)) ≡ events es → First e rest es
chosen true t e number rest es q = no_events q
chosen false true e number rest es q = first_of e rest es q
chosen false false e number rest es q = no_events q

line_first : (text : List ℕ) (number : ℕ) (e : Event) (rest : Reading) {es : List Event} → read_line text (length text) number (Some e) rest ≡ events es → First e rest es
unfolding read_line
line_first text number e rest q = chosen (ltb 4096 number) (all (is_good_span text (length text)) (spans_of e)) e number rest _ q

none_first : {P : Type 0} (text : List ℕ) (number : ℕ) (rest : Reading) {es : List Event} → read_line text (length text) number None rest ≡ events es → P
unfolding read_line
none_first text number rest q = no_events q

cut_short : {P : Type 0} (text : List ℕ) (number : ℕ) (l : List ℕ) {es : List Event} → is_empty l ≡ false → read_from text (length text) number (last l) ≡ events es → P
unfolding read_from
cut_short text number l k q = no_events (simp k at q)

module _ {text bytes : List ℕ} {at number : ℕ} {es : List Event} (w : Rest text bytes at number es) where
  pub rest_ends : length bytes ≤ at → es ≡ []
  unfolding read_from lines is_empty
  rest_ends h = sym (events_inj (rw (drop_of_length-le bytes h) at w.is))

  module _ {r : Option ℕ} (l : LineAt bytes at r) where
    -- the last line is ended
    pub rest_ended : {P : Type 0} → at < length bytes → r ≡ None → P
    unfolding lines_from is_empty
    rest_ended h q =
        let e : lines (drop at bytes) ≡ last (drop at bytes) = sym l.is ∙ ap (lines_from bytes at) q in
        cut_short text number (drop at bytes) (rw (drop-cons bytes at 0 h)) (rw e at w.is)

    module _ {end : ℕ} (q : r ≡ Some end) where
      split : read_line text (length text) number (parse_line (take (end - at) (drop at bytes))) (read_from text (length text) (suc number) (lines (drop (end + 1) bytes))) ≡ events es
      unfolding read_from lines_from
      split = sym (ap (λ (ls : Lines). read_from text (length text) number ls) (sym l.is ∙ ap (lines_from bytes at) q)) ∙ w.is

      -- each line is well formed
      pub rest_some : is_some (parse_line (take (end - at) (drop at bytes))) ≡ true
      unfolding is_some
      rest_some = go (parse_line (take (end - at) (drop at bytes))) split
        where
          go : (o : Option Event) → read_line text (length text) number o (read_from text (length text) (suc number) (lines (drop (end + 1) bytes))) ≡ events es → is_some o ≡ true
          go (Some e) k = refl
          go None k = none_first text number _ k

      -- and its event is the first
      pub rest_parsed : {e : Event} → parse_line (take (end - at) (drop at bytes)) ≡ Some e → First e (read_from text (length text) (number + 1) (lines (drop (end + 1) bytes))) es
      rest_parsed k = rw (add-one number) (line_first text number _ _ (rw k at split))

      module _ {a : Option EventView} (p : LineOf (take (end - at) (drop at bytes)) a) where
        pub rest_read : {P : Type 0} → a ≡ None → P
        rest_read k = none_first text number _ (rw (line_none (rw k at p)) at split)

        pub rest_event : {v : EventView} → a ≡ Some v → First (event_in (take (end - at) (drop at bytes)) v) (read_from text (length text) (number + 1) (lines (drop (end + 1) bytes))) es
        rest_event k = rest_parsed (line_event (rw k at p))
