-- The refusals of a line, and of a sheet line by line.
use Prim.Native.Nat.{ℕ, suc, ◌+◌, ◌-◌, ◌≤◌, ◌<◌}
use mathlib.Core.Path.{◌≡◌, refl, ap, sym, ◌∙◌}
use mathlib.Core.Bool.{Bool, true, false}
use mathlib.Core.List.{List, []}
use Rattle.std.specs.Prelude.{Option, None, Some, Ok, Err}
use native.Mathlib.Numerals.{add-one}
use native.Mathlib.Omega.{arith}
use borrow.Author.Tests.{lt-ltb, le-ltb, ltb-false}
use lib.Dec.{ltb}
use lib.ListN.{length, take, drop, drop_of_length-le}
use lib.Seq.{drop-cons}
use Rattle.rules.specs.Basic.{pick, on_some, is_empty, all}
use Rattle.rules.specs.Sheet.{Lines, last, lines}
use Rattle.rules.specs.Event.{Event, spans_of}
use Rattle.rules.specs.Read.{parse_line}
use Rattle.rules.specs.Answer.{Reading, events, unread, with_event, is_good_span, read_line, read_from, read_sheet, fault_of}
use Rattle.rules.proofs.Basics.{no_some}
use Rattle.sheet.specs.Lines.{lines_from, LineAt}
use Rattle.events.specs.declared.EventView.{EventView}
use Rattle.events.specs.Views.{event_in}
use Rattle.spans.specs.Goods.{Goods}
use Rattle.refusals.specs.declared.Reason.{Reason}
use Rattle.refusals.specs.declared.Reason.TheVariants.{IllLine, ManyLines, BadSpan}
use Rattle.reading.specs.Answers.{LineOf, LineChecked, SheetChecked}
use Rattle.reading.proofs.Lines.{line_none, line_event}

-- ---- one line
module _ {text : List ℕ} {number : ℕ} {line : List ℕ} where
  pub line_ill : LineOf line None → LineChecked text number line (Err IllLine)
  unfolding fault_of read_line on_some
  line_ill p = record { is = rw (line_none p) }

  module _ {v : EventView} (p : LineOf line (Some v)) where
    pub line_late : 4096 < number → LineChecked text number line (Err ManyLines)
    unfolding fault_of read_line on_some
    line_late h = record { is = rw (line_event p, lt-ltb 4096 number h) }

    module _ (h : number ≤ 4096) {t : Bool} (g : Goods text (spans_of (event_in line v)) t) where
      pub line_bad : t ≡ false → LineChecked text number line (Err BadSpan)
      unfolding fault_of read_line on_some
      line_bad k = record { is = rw (line_event p, le-ltb 4096 number h, sym g.is ∙ k) }

      pub line_good : t ≡ true → LineChecked text number line (Ok tt)
      unfolding fault_of read_line with_event on_some
      line_good k = record { is = rw (line_event p, le-ltb 4096 number h, sym g.is ∙ k) }

-- ---- and what comes after it
with_fault : (e : Event) (rest : Reading) → fault_of (with_event e rest) ≡ fault_of rest
unfolding fault_of with_event
with_fault e (events es) = refl
with_fault e (unread n l) = refl

module _ (text : List ℕ) (number : ℕ) (rest : Reading) where
  late_fault : (s t : Bool) (e : Event) {x : ℕ × ℕ} → fault_of (pick s (unread 9 number) (pick t (with_event e (events [])) (unread 10 number))) ≡ Some x
      → fault_of (pick s (unread 9 number) (pick t (with_event e rest) (unread 10 number))) ≡ Some x
  unfolding fault_of with_event
  late_fault true t e q = q
  late_fault false false e q = q
  late_fault false true e q = no_some q

  late_none : (s t : Bool) (e : Event) → fault_of (pick s (unread 9 number) (pick t (with_event e (events [])) (unread 10 number))) ≡ None
      → fault_of (pick s (unread 9 number) (pick t (with_event e rest) (unread 10 number))) ≡ fault_of rest
  unfolding fault_of
  late_none true t e q = no_some (sym q)
  late_none false false e q = no_some (sym q)
  late_none false true e q = with_fault e rest

  early : (s t : Bool) (e : Event) → fault_of (pick s (unread 9 number) (pick t (with_event e (events [])) (unread 10 number))) ≡ None → s ≡ false
  unfolding fault_of
  early true t e q = no_some (sym q)
  early false t e q = refl

  rest_fault : (o : Option Event) {x : ℕ × ℕ} → fault_of (read_line text (length text) number o (events [])) ≡ Some x → fault_of (read_line text (length text) number o rest) ≡ Some x
  unfolding read_line
  rest_fault None q = q
  rest_fault (Some e) q = late_fault (ltb 4096 number) (all (is_good_span text (length text)) (spans_of e)) e q

  rest_none : (o : Option Event) → fault_of (read_line text (length text) number o (events [])) ≡ None → fault_of (read_line text (length text) number o rest) ≡ fault_of rest
  unfolding read_line fault_of
  rest_none None q = no_some (sym q)
  rest_none (Some e) q = late_none (ltb 4096 number) (all (is_good_span text (length text)) (spans_of e)) e q

  rest_early : (o : Option Event) → fault_of (read_line text (length text) number o (events [])) ≡ None → number ≤ 4096
  unfolding read_line fault_of
  rest_early None q = no_some (sym q)
  rest_early (Some e) q = ltb-false 4096 number (early (ltb 4096 number) (all (is_good_span text (length text)) (spans_of e)) e q)

-- ---- the sheet: what is read from `at` on, the line `number` first, is what is read of all of it
pub record Walking (text bytes : List ℕ) (at number : ℕ) : Type 0 where
  pub from : at ≤ length bytes
  pub most : number ≤ 4097
  pub is : fault_of (read_from text (length text) number (lines (drop at bytes))) ≡ fault_of (read_sheet text bytes)

pub walk_starts : (text bytes : List ℕ) → Walking text bytes 0 1
unfolding read_sheet
walk_starts text bytes = record { from = omega arith; most = omega arith; is = refl }

from_last : (text : List ℕ) (number : ℕ) (l : List ℕ) → is_empty l ≡ false → fault_of (read_from text (length text) number (last l)) ≡ Some (8, number)
unfolding read_from fault_of
from_last text number l q = rw q

module _ {text bytes : List ℕ} {at number : ℕ} (w : Walking text bytes at number) where
  pub walk_done : length bytes ≤ at → SheetChecked text bytes (Ok tt)
  unfolding fault_of read_from lines is_empty
  walk_done h = record { is = rw (drop_of_length-le bytes h) at w.is }

  pub walk_cut : LineAt bytes at None → at < length bytes → SheetChecked text bytes (Err (record { reason = IllLine; line = number }))
  unfolding lines_from is_empty
  walk_cut l h =
      let e : lines (drop at bytes) ≡ last (drop at bytes) = sym l.is in
      let k : is_empty (drop at bytes) ≡ false = rw (drop-cons bytes at 0 h) in
      record { is = sym (from_last text number (drop at bytes) k) ∙ rw e at w.is }

  module _ {end : ℕ} (l : LineAt bytes at (Some end)) where
    next : fault_of (read_from text (length text) number (lines (drop at bytes)))
        ≡ fault_of (read_line text (length text) number (parse_line (take (end - at) (drop at bytes))) (read_from text (length text) (suc number) (lines (drop (end + 1) bytes))))
    unfolding read_from lines_from
    next = ap (λ (ls : Lines). fault_of (read_from text (length text) number ls)) (sym l.is)

    pub walk_fault : {r : Reason} → LineChecked text number (take (end - at) (drop at bytes)) (Err r) → SheetChecked text bytes (Err (record { reason = r; line = number }))
    unfolding on_some
    walk_fault p = record { is = sym (sym w.is ∙ next ∙ rest_fault text number _ _ (sym p.is)) }

    pub walk_on : LineChecked text number (take (end - at) (drop at bytes)) (Ok tt) → Walking text bytes (end + 1) (number + 1)
    unfolding on_some
    walk_on p =
        let z = sym p.is in
        let h = rest_early text number (events []) _ z in
        let i = l.inside end refl in
        record {
          from = omega arith;
          most = omega arith;
          is = rw (add-one number) (sym (rest_none text number _ _ z) ∙ sym next ∙ w.is);
        }
