-- One law for each way through the checks.
use Prim.Native.Nat.{ℕ, suc, ◌≤◌, ◌<◌}
use mathlib.Core.Path.{◌≡◌, refl, ap, sym, ◌∙◌}
use mathlib.Core.Bool.{Bool, true, false}
use mathlib.Core.List.{List, [], ◌∷◌}
use Rattle.std.specs.Prelude.{Option, None, Some, Result, Ok, Err}
use borrow.Author.Tests.{lt-ltb, le-ltb}
use native.Mathlib.Omega.{arith}
use lib.Dec.{ltb}
use lib.ListN.{length}
use Rattle.rules.specs.Basic.{pick, all, is_empty}
use Rattle.rules.specs.Utf8.{first_fault}
use Rattle.rules.specs.Sheet.{Lines, last, more, lines}
use Rattle.rules.specs.Event.{Event, spans_of}
use Rattle.rules.specs.Read.{parse_line}
use Rattle.rules.specs.Units.{NamedUnit, name_twice}
use Rattle.rules.specs.Input.{Input, input_of}
use Rattle.rules.specs.Answer.{Reading, events, unread, with_event, is_good_span, read_line, read_from, read_sheet, fault_of, first_some, number_if, units_refused, before_flags, in_no_line, from_flags, before_pass, is_short, words_needed, bytes_needed}
use Rattle.rules.proofs.Basics.{pick_either, no_some, some_inj}
use Rattle.rules.proofs.Order.{some_only}
use Rattle.refusals.specs.declared.Reason.{Reason}
use Rattle.refusals.specs.declared.Reason.TheVariants as reason
use Rattle.refusals.specs.declared.Refusal.{Refusal}
use Rattle.refusals.specs.Told.{number_of, number_told, told}
use Rattle.utf8.proofs.Steps.{valid_utf8, fault_utf8}
use Rattle.unit_index.specs.Index.{UnitsIndexed}
use Rattle.reading.specs.Answers.{SheetChecked}
use Rattle.inputs.specs.Inputs.{number_in, early_fault, EarlyChecked, LateChecked, InputsChecked, ContentsChecked, UnitsReady}
use Rattle.model.specs.declared.layout.TheConstants.{WORDS}

-- ---- 7, then 8 to 10

module _ {sheet text : List ℕ} {flags : ℕ} where
  pub flags_over : 7 < flags → LateChecked sheet text flags (Err (record { reason = reason.UnknownFlags; line = 0 }))
  unfolding from_flags first_some in_no_line number_if
  flags_over h = record { at = λ units. rw (lt-ltb 7 flags h) }

  pub flags_known : flags ≤ 7 → {r : Result (Unit {0}) Refusal} → SheetChecked text sheet r → LateChecked sheet text flags r
  unfolding from_flags first_some in_no_line number_if
  flags_known h p = record { at = λ units. rw (le-ltb 7 flags h) (p.is ∙ sym (some_only _)) }

-- ---- 4, then 5 and 6

module _ {text units : List ℕ} {a : Option ℕ} (p : a ≡ first_fault text) where
  pub text_fault : {n : ℕ} → a ≡ Some n → ContentsChecked text units (Err reason.TextNotUtf8)
  unfolding first_some number_if
  text_fault q = record { is = rw (fault_utf8 text _ (sym p ∙ q)) }

  pub units_checked : a ≡ None → {index₀ index : List ℕ} {r : Result (Unit {0}) Reason} → UnitsIndexed units index₀ index r → ContentsChecked text units r
  unfolding first_some number_if
  units_checked v q = record { is = rw (valid_utf8 text (sym p ∙ v)) (q.is ∙ sym (some_only _)) }

-- ---- what is refused from the flags on: 7 to 10

record AfterUnits (o : Option (ℕ × ℕ)) : Type 0 where
  after : (n l : ℕ) → o ≡ Some (n, l) → 6 < n

module _ (text : List ℕ) (size : ℕ) where
  after_by : (n l : ℕ) → 6 < n → AfterUnits (fault_of (unread n l))
  unfolding fault_of
  after_by n l h = record { after = λ m k q. omega (arith, h, ap (λ (p : ℕ × ℕ). p.0) (some_inj q)) }

  with_after : (e : Event) (r : Reading) → AfterUnits (fault_of r) → AfterUnits (fault_of (with_event e r))
  unfolding fault_of with_event
  with_after e (events es) h = h
  with_after e (unread n l) h = h

  line_after : (line : ℕ) (o : Option Event) (rest : Reading) → AfterUnits (fault_of rest) → AfterUnits (fault_of (read_line text size line o rest))
  unfolding read_line
  line_after line None rest h = after_by _ _ (omega arith)
  line_after line (Some e) rest h =
      pick_either (λ (r : Reading). AfterUnits (fault_of r)) (ltb 4096 line) _ _ (λ _. after_by _ _ (omega arith))
      (λ _. pick_either (λ (r : Reading). AfterUnits (fault_of r)) (all (is_good_span text size) (spans_of e)) _ _ (λ _. with_after e rest h) (λ _. after_by _ _ (omega arith)))

  read_after : (line : ℕ) (ls : Lines) → AfterUnits (fault_of (read_from text size line ls))
  unfolding read_from
  read_after line (last l) =
      pick_either (λ (r : Reading). AfterUnits (fault_of r)) (is_empty l) _ _ (λ _. unfold fault_of in record { after = λ n k q. no_some q }) (λ _. after_by _ _ (omega arith))
  read_after line (more l ls) = line_after line (parse_line l) _ (read_after (suc line) ls)

either_after : (b : Bool) {o : Option (ℕ × ℕ)} → AfterUnits o → AfterUnits (first_some (in_no_line (number_if 7 b) ∷ o ∷ []))
unfolding first_some in_no_line number_if
either_after true h = record { after = λ n l q. omega (arith, ap (λ (p : ℕ × ℕ). p.0) (some_inj q)) }
either_after false h = record { after = λ n l q. h.after n l (sym (some_only _) ∙ q) }

flags_after : (i : Input) → AfterUnits (from_flags i)
unfolding from_flags read_sheet
flags_after i = either_after (ltb 7 i.flags) (read_after i.text (length i.text) 1 (lines i.sheet))

-- ---- the index

err_inj : {E : Type 0} {a b : E} → ◌≡◌ {A = Result (Unit {0}) E} (Err a) (Err b) → a ≡ b
err_inj e = cc

-- nothing was written yet
pub refused_ready : {units index : List ℕ} {r : Reason} → length index ≡ 2305 → UnitsReady number_of units index index (Err r)
refused_ready h = record { long = h; kept = λ f q l. refl; indexed = λ q. absurd (cc) }

-- units are refused by 5 or 6
units_by : (o : Option (List NamedUnit)) {n : ℕ} → Some n ≡ units_refused o → n ≤ 5 → Some n ≡ Some 5
unfolding units_refused number_if
units_by None e l = e
units_by (Some us) {n} e l = go (name_twice us) e
  where
    go : (b : Bool) → Some n ≡ pick b (Some 6) None → Some n ≡ Some 5
    go true q = absurd (omega (arith, l, some_inj q))
    go false q = no_some (sym q)

module _ {units index₀ index : List ℕ} where
  pub units_ready : {r : Result (Unit {0}) Reason} → UnitsIndexed units index₀ index r → UnitsReady number_of units index₀ index r
  units_ready x = record { long = x.long; kept = λ f q l. x.ill (ap number_told q ∙ units_by _ (ap number_told (sym q) ∙ x.is) l); indexed = x.indexed }

  module _ {a : Result (Unit {0}) Reason} (x : UnitsReady number_of units index₀ index a) where
    -- the same reason, in no line
    pub ready_refused : {r : Reason} → a ≡ Err r → UnitsReady number_in units index₀ index (Err (record { reason = r; line = 0 }))
    ready_refused {r} e =
        record {
          long = x.long;
          kept = λ f q l. x.kept r e (omega (arith, l, ap number_in (err_inj q)));
          indexed = λ q. absurd (cc);
        }

    -- what is refused after the units is 7 to 10
    pub ready_on : {sheet text : List ℕ} {flags : ℕ} {r : Result (Unit {0}) Refusal} → a ≡ Ok tt → LateChecked sheet text flags r → UnitsReady number_in units index₀ index r
    ready_on {sheet} {text} {flags} e p =
        record {
          long = x.long;
          kept = λ f q l. absurd (omega (arith, l, (flags_after (input_of sheet text units flags)).after (number_in f) f.line (sym (p.at units) ∙ ap told q)));
          indexed = λ _. x.indexed e;
        }

-- work memory has the words that the rules ask for
pub words_as_needed : WORDS ≡ words_needed
unfolding words_needed
words_as_needed = refl

-- ---- 1 to 3

module _ {sheet text units : List ℕ} {words bytes : ℕ} where
  pub words_short : words < WORDS → EarlyChecked sheet text units words bytes (Err reason.Lengths)
  unfolding early_fault first_some number_if is_short words_needed
  words_short h = record { at = λ flags. rw (lt-ltb words WORDS h) }

  module _ (w : WORDS ≤ words) where
    pub bytes_short : bytes < 65536 → EarlyChecked sheet text units words bytes (Err reason.Lengths)
    unfolding early_fault first_some number_if is_short words_needed bytes_needed
    bytes_short h = record { at = λ flags. rw (le-ltb words WORDS w, lt-ltb bytes 65536 h) }

    module _ (b : 65536 ≤ bytes) where
      pub sheet_long : 65536 < length sheet → EarlyChecked sheet text units words bytes (Err reason.Lengths)
      unfolding early_fault before_flags first_some number_if is_short words_needed bytes_needed
      sheet_long h = record { at = λ flags. rw (le-ltb words WORDS w, le-ltb bytes 65536 b, lt-ltb 65536 (length sheet) h) }

      module _ (s : length sheet ≤ 65536) where
        pub text_long : 65535 < length text → EarlyChecked sheet text units words bytes (Err reason.LongText)
        unfolding early_fault before_flags first_some number_if is_short words_needed bytes_needed
        text_long h =
            record { at = λ flags. rw (le-ltb words WORDS w, le-ltb bytes 65536 b, le-ltb 65536 (length sheet) s, lt-ltb 65535 (length text) h) }

        module _ (t : length text ≤ 65535) where
          pub units_long : 16384 < length units → EarlyChecked sheet text units words bytes (Err reason.LongUnits)
          unfolding early_fault before_flags first_some number_if is_short words_needed bytes_needed
          units_long h =
              record { at = λ flags. rw (le-ltb words WORDS w, le-ltb bytes 65536 b, le-ltb 65536 (length sheet) s, le-ltb 65535 (length text) t, lt-ltb 16384 (length units) h) }

          pub lengths_good : length units ≤ 16384 → {r : Result (Unit {0}) Reason} → ContentsChecked text units r → EarlyChecked sheet text units words bytes r
          unfolding early_fault before_flags first_some number_if is_short words_needed bytes_needed
          lengths_good u c =
              record {
                at = λ flags. rw (le-ltb words WORDS w, le-ltb bytes 65536 b, le-ltb 65536 (length sheet) s, le-ltb 65535 (length text) t, le-ltb 16384 (length units) u)
                    (c.is ∙ sym (some_only _));
              }

-- ---- one check after the other

early_told : (a b : Option ℕ) (l : Option (ℕ × ℕ)) {n : ℕ} → Some n ≡ first_some (a ∷ b ∷ [])
    → Some (n, 0) ≡ first_some (in_no_line a ∷ first_some (in_no_line b ∷ in_no_line None ∷ l ∷ []) ∷ [])
unfolding first_some in_no_line
early_told None None l e = no_some (sym e)
early_told None (Some m) l e = ap (λ (x : ℕ). Some (x, 0)) (some_inj e)
early_told (Some m) b l e = ap (λ (x : ℕ). Some (x, 0)) (some_inj e)

late_told : (a b : Option ℕ) (l : Option (ℕ × ℕ)) → ◌≡◌ {A = Option ℕ} None (first_some (a ∷ b ∷ []))
    → l ≡ first_some (in_no_line a ∷ first_some (in_no_line b ∷ in_no_line None ∷ l ∷ []) ∷ [])
unfolding first_some in_no_line
late_told None None None e = refl
late_told None None (Some p) e = refl
late_told None (Some m) l e = no_some e
late_told (Some m) b l e = no_some e

module _ {sheet text units : List ℕ} {words bytes : ℕ} {a : Result (Unit {0}) Reason} (p : EarlyChecked sheet text units words bytes a) (flags : ℕ) where
  pub early_refused : {r : Reason} → a ≡ Err r → InputsChecked (input_of sheet text units flags) words bytes (Err (record { reason = r; line = 0 }))
  unfolding before_pass early_fault
  early_refused {r} e = record { is = early_told _ _ (from_flags (input_of sheet text units flags)) (rw e at p.at flags) }

  pub early_passed : {u : Unit {0}} → a ≡ Ok u → {r : Result (Unit {0}) Refusal} → LateChecked sheet text flags r → InputsChecked (input_of sheet text units flags) words bytes r
  unfolding before_pass early_fault
  early_passed e q = record { is = q.at units ∙ late_told _ _ _ (rw e at p.at flags) }
