-- The first `error` line, line by line.
use Rattle.std.specs.Prelude.{None, Option, Some}
use Prim.Native.Nat.{ℕ, ◌+◌, ◌-◌, ◌≤◌, ◌<◌}
use mathlib.Core.Path.{◌≡◌, refl, ap, sym, ◌∙◌}
use mathlib.Core.Bool.{Bool, true, false}
use mathlib.Core.List.{List, ◌∷◌}
use native.Mathlib.Numerals.{add-one}
use native.Mathlib.Omega.{arith}
use lib.ListN.{length, take, drop}
use Rattle.rules.specs.Basic.{pick}
use Rattle.rules.specs.Event.{Event}
use Rattle.rules.specs.Pass.{is_error_event}
use Rattle.rules.specs.Answer.{events, events_or, read_sheet, error_line}
use Rattle.sheet.specs.Lines.{LineAt}
use Rattle.reading.proofs.Passes.{Rest, rest_ends, rest_ended, rest_parsed}
use Rattle.events.specs.declared.EventView.{EventView}
use Rattle.known_events.specs.Known.{KnownEvent}
use Rattle.pass.specs.Walks.{ErrorView}

-- no line before `at` is an `error` line; from there on es are read
pub record Seeking (text sheet : List ℕ) (at number : ℕ) : Type 0 where
  pub es : List Event
  pub rest : Rest text sheet at number es
  pub is : error_line number es ≡ error_line 1 (events_or (read_sheet text sheet))
  pub low : number ≤ at + 1

pub seeking_starts : {text sheet : List ℕ} → read_sheet text sheet ≡ events (events_or (read_sheet text sheet)) → Seeking text sheet 0 1
unfolding read_sheet
seeking_starts q = record { es = _; rest = record { is = q }; is = refl; low = omega arith }

error_here : (b : Bool) (e : Event) (es : List Event) (number : ℕ) → is_error_event e ≡ b → error_line number (e ∷ es) ≡ pick b number (error_line (number + 1) es)
unfolding error_line
error_here b e es number q = rw (q, add-one number)

module _ {text sheet : List ℕ} {at number : ℕ} (s : Seeking text sheet at number) where
  pub seeking_ends : length sheet ≤ at → 0 ≡ error_line 1 (events_or (read_sheet text sheet))
  unfolding error_line
  seeking_ends h = ap (error_line number) (sym (rest_ends s.rest h)) ∙ s.is

  module _ {r : Option ℕ} (l : LineAt sheet at r) where
    pub seeking_cut : {P : Type 0} → at < length sheet → r ≡ None → P
    seeking_cut h q = rest_ended s.rest l h q

    module _ {end : ℕ} (q : r ≡ Some end) {v : EventView} (k : KnownEvent (take (end - at) (drop at sheet)) v) {b : Bool} (p : ErrorView v b) where
      pub seeking_found : b ≡ true → number ≡ error_line 1 (events_or (read_sheet text sheet))
      seeking_found t =
          let f = rest_parsed s.rest l q k.is in
          sym (error_here true _ f.others number (sym (p.is (take (end - at) (drop at sheet))) ∙ t)) ∙ ap (error_line number) (sym f.is) ∙ s.is

      pub seeking_on : b ≡ false → Seeking text sheet (end + 1) (number + 1)
      seeking_on t =
          let f = rest_parsed s.rest l q k.is in
          record {
            es = f.others;
            rest = record { is = f.next };
            is = sym (error_here false _ f.others number (sym (p.is (take (end - at) (drop at sheet))) ∙ t)) ∙ ap (error_line number) (sym f.is) ∙ s.is;
            low = omega (arith, s.low, (l.inside end q).0);
          }
