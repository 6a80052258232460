-- A line of a sheet that is good: it is well formed, and its spans are good.
use Prim.Native.Nat.{ℕ, suc, ◌+◌, ◌-◌}
use mathlib.Core.Path.{◌≡◌, refl, sym, ap, ◌∙◌}
use mathlib.Core.List.{List}
use mathlib.Core.Bool.{Bool, true, false}
use Rattle.std.specs.Prelude.{Option, None, Some}
use native.Mathlib.Omega.{arith}
use lib.Dec.{ltb}
use lib.ListN.{length, take, drop}
use Rattle.rules.specs.Basic.{pick, all, is_some, lf}
use Rattle.rules.specs.Sheet.{Lines, lines, Without}
use Rattle.rules.specs.Event.{Event, spans_of}
use Rattle.rules.specs.Read.{parse_line}
use Rattle.rules.specs.Answer.{Reading, events, unread, with_event, is_good_span, read_line, read_from}
use Rattle.sheet.specs.Lines.{lines_from, LineAt}
use Rattle.rules.proofs.Basics.{no_truth}
use Rattle.content.proofs.Lines.{line_without}
use Rattle.reading.proofs.Passes.{Rest, First}
use native.Mathlib.Numerals.{add-one}

no_events : {P : Type 0} {n l : ℕ} {es : List Event} → unread n l ≡ events es → P
no_events e = absurd (let z : ◌≡◌ {A = ℕ} 0 1 = cc in omega arith)

known_of : (text : List ℕ) (number : ℕ) (o : Option Event) (rest : Reading) {es : List Event} → read_line text (length text) number o rest ≡ events es → is_some o ≡ true
unfolding read_line is_some
known_of text number None rest q = no_events q
known_of text number (Some e) rest q = refl

chosen : (s t : Bool) (e : Event) (number : ℕ) (rest : Reading) (es : List Event) → pick s (unread 9 number) (pick t (with_event e rest) (unread 10 number)) ≡ events es → t ≡ true
chosen true t e number rest es q = no_events q
chosen false true e number rest es q = refl
chosen false false e number rest es q = no_events q

spans_of_lem : (text : List ℕ) (number : ℕ) (e : Event) (rest : Reading) {es : List Event} → read_line text (length text) number (Some e) rest ≡ events es → all (is_good_span text (length text)) (spans_of e) ≡ true
unfolding read_line
spans_of_lem text number e rest q = chosen (ltb 4096 number) (all (is_good_span text (length text)) (spans_of e)) e number rest _ q

events_inj : {es fs : List Event} → events es ≡ events fs → es ≡ fs
events_inj e = cc

first_of : (e : Event) (rest : Reading) (es : List Event) → with_event e rest ≡ events es → First e rest es
unfolding with_event
first_of e (events fs) es q = record { others = fs; is = sym (events_inj q); next = refl }
first_of e (unread n l) es q = no_events q

first_chosen : (s t : Bool) (e : Event) (number : ℕ) (rest : Reading) (es : List Event) → pick s (unread 9 number) (pick t (with_event e rest) (unread 10 number)) ≡ events es → First e rest es
first_chosen true t e number rest es q = no_events q
first_chosen false true e number rest es q = first_of e rest es q
first_chosen false false e number rest es q = no_events q

first_read : (text : List ℕ) (number : ℕ) (e : Event) (rest : Reading) {es : List Event} → read_line text (length text) number (Some e) rest ≡ events es → First e rest es
unfolding read_line
first_read text number e rest q = first_chosen (ltb 4096 number) (all (is_good_span text (length text)) (spans_of e)) e number rest _ q

module _ {text bytes : List ℕ} {at number : ℕ} {es : List Event} (w : Rest text bytes at number es) {r : Option ℕ} (l : LineAt bytes at r) {end : ℕ} (q : r ≡ Some end) where
  split : read_line text (length text) number (parse_line (take (end - at) (drop at bytes))) (read_from text (length text) (suc number) (lines (drop (end + 1) bytes))) ≡ events es
  unfolding read_from lines_from
  split = sym (ap (λ (ls : Lines). read_from text (length text) number ls) (sym l.is ∙ ap (lines_from bytes at) q)) ∙ w.is

  pub line_known : is_some (parse_line (take (end - at) (drop at bytes))) ≡ true
  line_known = known_of text number (parse_line (take (end - at) (drop at bytes))) _ split

  pub line_spans : (e : Event) → parse_line (take (end - at) (drop at bytes)) ≡ Some e → all (is_good_span text (length text)) (spans_of e) ≡ true
  line_spans e k = spans_of_lem text number e _ (rw k at split)

  -- its event is the first
  pub line_first : (e : Event) → parse_line (take (end - at) (drop at bytes)) ≡ Some e → First e (read_from text (length text) (number + 1) (lines (drop (end + 1) bytes))) es
  line_first e k = rw (add-one number) (first_read text number e _ (rw k at split))

  pub line_whole : Without lf (take (end - at) (drop at bytes))
  unfolding lines_from
  line_whole = line_without (drop at bytes) {ls = lines (drop (end + 1) bytes)} (sym l.is ∙ ap (lines_from bytes at) q)

-- the event of a line that has one
pub record EventIs (o : Option Event) : Type 0 where
  pub event : Event
  pub is : o ≡ Some event

pub event_is : (o : Option Event) → is_some o ≡ true → EventIs o
unfolding is_some
event_is None h = no_truth h
event_is (Some e) h = record { event = e; is = refl }
