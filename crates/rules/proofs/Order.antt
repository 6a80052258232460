-- What is refused before the pass, test by test; and that without a fault the collection is the pass.
use Prim.Native.Nat.{ℕ}
use mathlib.Core.Path.{◌≡◌, refl, sym, ap, ◌∙◌}
use mathlib.Core.List.{List, [], ◌∷◌}
use mathlib.Core.Bool.{Bool, true, false, not}
use Rattle.std.specs.Prelude.{Option, None, Some}
use lib.Dec.{ltb}
use lib.ListN.{length}
use Rattle.rules.specs.Utf8.{is_utf8}
use Rattle.rules.specs.Event.{Event}
use Rattle.rules.specs.Units.{NamedUnit, read_units, name_twice, units_or}
use Rattle.rules.specs.Input.{Input, with_sheet, context_of}
use Rattle.rules.specs.State.{refusal}
use Rattle.rules.specs.Pass.{parse_events}
use Rattle.rules.specs.Answer.{Reading, events, unread, fault_of, events_or, events_of, read_sheet, first_some, number_if, units_refused, before_flags, in_no_line, from_flags, before_pass, refused_or, collection_with, collection}
use Rattle.rules.specs.Demand.{is_accepted}
use Rattle.rules.proofs.Basics.{no_some, no_truth}

-- ---- one test

pub if_none : (n : ℕ) (b : Bool) → number_if n b ≡ None → b ≡ false
unfolding number_if
if_none n true e = no_some (sym e)
if_none n false e = refl

none_if : (n : ℕ) {b : Bool} → b ≡ false → number_if n b ≡ None
unfolding number_if
none_if n e = rw e

pub not_false : (b : Bool) → not b ≡ false → b ≡ true
not_false true e = refl
not_false false e = no_truth (sym e)

pub no_line_none : (o : Option ℕ) → in_no_line o ≡ None → o ≡ None
unfolding in_no_line
no_line_none None e = refl
no_line_none (Some n) e = no_some (sym e)

pub some_none : {A : Type 0} (o : Option A) (os : List (Option A)) → first_some (o ∷ os) ≡ None → (o ≡ None) × (first_some os ≡ None)
unfolding first_some
some_none None os e = (refl, e)
some_none (Some a) os e = no_some (sym e)

none_some : {A : Type 0} {o : Option A} (os : List (Option A)) → o ≡ None → first_some os ≡ None → first_some (o ∷ os) ≡ None
unfolding first_some
none_some os p q = rw p q

pub some_only : {A : Type 0} (o : Option A) → first_some (o ∷ []) ≡ o
unfolding first_some
some_only None = refl
some_only (Some a) = refl

some_end : {A : Type 0} → first_some {A = A} [] ≡ None
unfolding first_some
some_end = refl

pub units_none : (o : Option (List NamedUnit)) → units_refused o ≡ None → (o ≡ Some (units_or o)) × (name_twice (units_or o) ≡ false)
unfolding units_refused units_or
units_none None e = no_some (sym e)
units_none (Some us) e = (refl, if_none 6 (name_twice us) e)

none_units : (o : Option (List NamedUnit)) → o ≡ Some (units_or o) → name_twice (units_or o) ≡ false → units_refused o ≡ None
unfolding units_refused units_or
none_units None e q = no_some e
none_units (Some us) e q = none_if 6 q

pub reading_none : (r : Reading) → fault_of r ≡ None → r ≡ events (events_or r)
unfolding fault_of events_or
reading_none (events es) e = refl
reading_none (unread n l) e = no_some (sym e)

none_reading : {r : Reading} {es : List Event} → r ≡ events es → fault_of r ≡ None
unfolding fault_of
none_reading e = rw e

-- ---- all of them

-- none of 1 to 10 arises
pub record InOrder (i : Input) : Type 0 where
  pub sheet_short : ltb 65536 (length i.sheet) ≡ false
  pub text_short : ltb 65535 (length i.text) ≡ false
  pub units_short : ltb 16384 (length i.units) ≡ false
  pub utf8 : is_utf8 i.text ≡ true
  pub known : read_units i.units ≡ Some (units_or (read_units i.units))
  pub once : name_twice (units_or (read_units i.units)) ≡ false
  pub flags_good : ltb 7 i.flags ≡ false
  pub read : read_sheet i.text i.sheet ≡ events (events_of i)

pub in_order : (i : Input) → before_pass None i ≡ None → InOrder i
unfolding before_pass before_flags from_flags
in_order i e =
    let a = some_none _ _ e in
    let b = some_none _ _ a.1 in
    let c = some_none _ _ b.1 in
    let p1 = some_none _ _ (no_line_none _ a.0) in
    let p2 = some_none _ _ p1.1 in
    let p3 = some_none _ _ p2.1 in
    let p4 = some_none _ _ p3.1 in
    let p5 = some_none _ _ p4.1 in
    let us = units_none (read_units i.units) p5.0 in
    let f = some_none _ _ c.0 in
    let r = some_none _ _ f.1 in
    record {
      sheet_short = if_none _ _ p1.0;
      text_short = if_none _ _ p2.0;
      units_short = if_none _ _ p3.0;
      utf8 = not_false _ (if_none _ _ p4.0);
      known = us.0;
      once = us.1;
      flags_good = if_none _ _ (no_line_none _ f.0);
      read = reading_none _ r.0;
    }

no_line : {o : Option ℕ} → o ≡ None → in_no_line o ≡ None
unfolding in_no_line
no_line e = rw e

pub none_before : (i : Input) → InOrder i → before_pass None i ≡ None
unfolding before_pass before_flags from_flags
none_before i x =
    none_some _
    (no_line
    (none_some _ (none_if _ x.sheet_short)
    (none_some _ (none_if _ x.text_short)
    (none_some _ (none_if _ x.units_short)
    (none_some _ (none_if _ (rw x.utf8)) (none_some _ (none_units (read_units i.units) x.known x.once) some_end))))))
    (none_some _ (no_line refl)
    (none_some _ (none_some _ (no_line (none_if _ x.flags_good)) (none_some _ (none_reading x.read) some_end)) some_end))

-- ---- the collection

-- without a fault it is the pass
pub collected_pass : (i : Input) → before_pass None i ≡ None → collection i ≡ parse_events (context_of i) (events_of i)
unfolding collection collection_with refused_or
collected_pass i e = rw e

-- with one it is that refusal
pub collected_refused : (i : Input) {n l : ℕ} → before_pass None i ≡ Some (n, l) → collection i ≡ refusal n l
unfolding collection collection_with refused_or
collected_refused i e = rw e

pub collected_is : (i : Input) → InOrder i → collection i ≡ parse_events (context_of i) (events_of i)
collected_is i x = collected_pass i (none_before i x)

pub collected : (i : Input) → is_accepted (collection i) ≡ true → InOrder i
unfolding collection collection_with refused_or is_accepted
collected i q = by (before_pass None i) refl q
  where
    by : (o : Option (ℕ × ℕ)) → before_pass None i ≡ o → is_accepted (refused_or o (parse_events (context_of i) (events_of i))) ≡ true → InOrder i
    by None e q = in_order i e
    by (Some p) e q = no_truth q

-- another sheet, short and read, beside the same inputs
pub form_order : (form : List ℕ) {i : Input} → InOrder i → ltb 65536 (length form) ≡ false → (es : List Event) → read_sheet i.text form ≡ events es
    → InOrder (with_sheet form i)
unfolding events_or
form_order form {i} x s es r =
    record {
      sheet_short = s;
      text_short = x.text_short;
      units_short = x.units_short;
      utf8 = x.utf8;
      known = x.known;
      once = x.once;
      flags_good = x.flags_good;
      read = r ∙ ap (λ (y : Reading). events (events_or y)) (sym r);
    }
