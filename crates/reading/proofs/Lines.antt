-- A line's first word, what follows it, and that nothing follows then.
use Prim.Native.Nat.{ℕ, ◌+◌, ◌≤◌, ◌<◌}
use mathlib.Core.Path.{◌≡◌, refl, ap, sym, ◌∙◌}
use mathlib.Core.List.{List, [], ◌∷◌}
use Rattle.std.specs.Prelude.{Option, None, Some}
use native.Mathlib.Omega.{arith}
use borrow.Author.Tests.{le-leb, lt-leb, leb-true, leb-false}
use lib.Dec.{leb, ltb}
use lib.ListN.{length}
use Rattle.rules.specs.Basic.{all, is_some, on_some}
use Rattle.rules.proofs.Basics.{pick_either}
use Rattle.rules.specs.Utf8.{is_utf8, first_fault}
use Rattle.rules.specs.Sheet.{fields_of}
use Rattle.rules.specs.Event.{Event, spans_of}
use Rattle.rules.specs.Read.{Fields, Reader, go_on, ◌>>=◌, give, saying, field, word, no_more, read_after, read_event, first_read, parse_line}
use Rattle.rules.specs.Answer.{Reading, events, with_event, is_good_span, read_line, fault_of, number_if}
use Rattle.sheet.specs.declared.EventWord.{EventWord}
use Rattle.sheet.specs.Words.{event_word_in}
use Rattle.sheet.specs.Lines.{fields_from, field_at}
use Rattle.parts.specs.Got.{Among, among_past}
use Rattle.parts.proofs.Sequence.{step, stop, good_of, whole_of}
use Rattle.parts.proofs.Leaves.{no_fields, field_here}
use Rattle.events.specs.declared.EventView.{EventView}
use Rattle.events.specs.Views.{event_in, raw_event}
use Rattle.events.specs.Got.{EventRead}
use Rattle.reading.specs.Answers.{WordRead, ended_as, event_as, event_number, eight_of, EightAs, IfEvent, IfWhole, EventOf, LineOf}

-- ---- nothing follows
abbrev at_end : Event → Reader Event
at_end e = no_more >>= (λ (u : Unit {0}). give e)

end_more : (e : Event) {fs : Fields} {f : List ℕ} {gs : Fields} → fs ≡ f ∷ gs → at_end e fs ≡ None
unfolding ◌>>=◌ go_on no_more
end_more e q = rw q

end_is : (e : Event) {fs : Fields} → fs ≡ [] → at_end e fs ≡ Some (e, [])
unfolding ◌>>=◌ go_on no_more give
end_is e q = rw q

-- ---- a whole line
first_fields : (line : List ℕ) → fields_of line ≡ field_at line 0 ∷ fields_from line (length (field_at line 0) + 1)
unfolding fields_from
first_fields line =
    let k : 0 + length (field_at line 0) + 1 ≡ length (field_at line 0) + 1 = omega arith in
    sym (rw (le-leb 0 (length line) (omega arith)) refl) ∙ rw k at (field_here line 0 (omega arith) refl)

-- ---- its number
eight_here : (line text : List ℕ) (n : ℕ) (r : Option EventView) → event_number r ≡ eight_of (fault_of (read_line text (length text) n (event_as line r) (events [])))
unfolding event_number eight_of event_as fault_of read_line with_event number_if
eight_here line text n None = refl
eight_here line text n (Some v) =
    pick_either (λ (x : Reading). None ≡ eight_of (fault_of x)) (ltb 4096 n) _ _ (λ _. refl)
    (λ _. pick_either (λ (x : Reading). None ≡ eight_of (fault_of x)) (all (is_good_span text (length text)) (spans_of (event_in line v))) _ _ (λ _. refl) (λ _. refl))

module _ {line : List ℕ} where
  eight_as : {r : Option EventView} → event_as line r ≡ parse_line line → EightAs line r
  eight_as {r} q = record { is = λ text n. rw q at (eight_here line text n r) }

  pub line_made : {r : Option EventView} → event_as line r ≡ parse_line line → IfEvent line r → IfWhole line r → LineOf line r
  line_made q w h = record { is = q; number = eight_as q; within = w; whole = h }

  event_made : {r : Option EventView} → event_as line r ≡ first_read (read_event (fields_of line)) → IfEvent line r → IfWhole line r → EventOf line r
  unfolding parse_line
  event_made q w h = record { is = q; number = λ u. eight_as (rw u q); within = w; whole = h }

pub in_unknown : {line : List ℕ} → WordRead line None → EventOf line None
unfolding event_as IfEvent IfWhole first_read read_event word field saying ◌>>=◌ go_on on_some
in_unknown {line} o = event_made (rw (first_fields line, ← o.word) refl) tt tt

-- after the first word
module _ {line : List ℕ} {k : EventWord} {n : ℕ} (o : WordRead line (Some (k, n))) where
  split : read_event (fields_of line) ≡ (read_after (event_word_in k) >>= at_end) (fields_from line n)
  unfolding read_event word field saying ◌>>=◌ go_on on_some
  split = rw (o.next k n refl, first_fields line, ← o.word) refl

  in_ill : EventRead (read_after (event_word_in k)) line n None → EventOf line None
  unfolding event_as IfEvent IfWhole first_read
  in_ill p = event_made (sym (ap first_read (split ∙ stop p _))) tt tt

  module _ {v : EventView} {m : ℕ} (p : EventRead (read_after (event_word_in k)) line n (Some (v, m))) where
    in_more : m ≤ length line → EventOf line None
    unfolding event_as IfEvent IfWhole first_read
    in_more h = event_made (sym (ap first_read (split ∙ step p _ (end_more (event_in line v) (field_here line m h refl))))) tt tt

    in_whole : length line < m → Among (raw_event line v) (fields_of line) []
    in_whole h = rw (first_fields line, ← o.next k n refl) (among_past (rw (no_fields line m h) at (whole_of p)))

    in_got : length line < m → EventOf line (Some v)
    unfolding event_as IfEvent IfWhole first_read
    in_got h = event_made (sym (ap first_read (split ∙ step p _ (end_is (event_in line v) (no_fields line m h))))) (good_of p) (in_whole h)

  -- the same of what `ended` makes of it
  got_ended : (g : Option (EventView × ℕ)) → EventRead (read_after (event_word_in k)) line n g → EventOf line (ended_as (length line) g)
  unfolding ended_as
  got_ended (Some (v, m)) p = pick_either (EventOf line) (leb m (length line)) _ _ (λ h. in_more p (leb-true _ _ h)) (λ h. in_got p (leb-false _ _ h))
  got_ended None p = in_ill p

  pub in_ended : (g : Option (EventView × ℕ)) {r : Option EventView} → EventRead (read_after (event_word_in k)) line n g → r ≡ ended_as (length line) g → EventOf line r
  in_ended g p q = rw q (got_ended g p)

pub ended_ill : (l : ℕ) {g : Option (EventView × ℕ)} → g ≡ None → None ≡ ended_as l g
unfolding ended_as
ended_ill l q = rw q

module _ (l : ℕ) {g : Option (EventView × ℕ)} {v : EventView} {m : ℕ} (q : g ≡ Some (v, m)) where
  pub ended_more : m ≤ l → None ≡ ended_as l g
  unfolding ended_as
  ended_more h = rw (q, le-leb m l h)

  pub ended_got : l < m → Some v ≡ ended_as l g
  unfolding ended_as
  ended_got h = rw (q, lt-leb m l h)

-- ---- UTF-8
module _ {line : List ℕ} where
  pub line_valid : None ≡ first_fault line → {r : Option EventView} → EventOf line r → LineOf line r
  unfolding parse_line is_utf8 is_some
  line_valid t p = line_made (rw (sym t) p.is) p.within p.whole

  pub line_fault : {n : ℕ} → Some n ≡ first_fault line → LineOf line None
  unfolding parse_line is_utf8 is_some event_as IfEvent IfWhole
  line_fault t = line_made (rw (sym t)) tt tt

-- ---- what a line's answer says
pub line_none : {line : List ℕ} → LineOf line None → parse_line line ≡ None
unfolding event_as
line_none p = sym p.is

pub line_event : {line : List ℕ} {v : EventView} → LineOf line (Some v) → parse_line line ≡ Some (event_in line v)
unfolding event_as
line_event p = sym p.is
