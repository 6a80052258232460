-- What the answer of `check_inputs` says of the collection and of the plain form.
use Prim.Native.Nat.{ℕ, ◌≤◌}
use mathlib.Core.Path.{◌≡◌, refl, ap, sym, ◌∙◌}
use mathlib.Core.List.{[], ◌∷◌}
use mathlib.Core.Bool.{Bool, true, false}
use Rattle.std.specs.Prelude.{None, Some, Ok, Err}
use lib.Dec.{ltb}
use lib.ListN.{length}
use borrow.Author.Tests.{ltb-false}
use Rattle.rules.specs.Basic.{pick}
use Rattle.rules.specs.Utf8.{is_utf8}
use Rattle.rules.specs.Input.{Input, context_of}
use Rattle.rules.specs.State.{refusal}
use Rattle.rules.specs.Pass.{parse_events}
use Rattle.rules.specs.Answer.{declined, events, events_of, read_sheet, first_some, number_if, in_no_line, before_pass, collection, Lent, words_needed, bytes_needed, is_short, written, collect_answer, plain_of, plain_answer}
use Rattle.rules.proofs.Basics.{some_inj, or_left, or_right}
use Rattle.rules.proofs.Order.{if_none, no_line_none, some_none, some_only, InOrder, in_order, collected_pass, collected_refused}
use Rattle.refusals.specs.declared.Refusal.{Refusal}
use Rattle.refusals.specs.Told.{told_of}
use Rattle.inputs.specs.Inputs.{lent, InputsChecked, GoodInputs}

-- ---- refused

module _ (i : Input) (m : Lent) where
  short_lent : is_short m ≡ is_short (lent m.words m.bytes)
  unfolding is_short
  short_lent = refl

  -- 1 where too little is lent, and else what the rules refuse
  refused_as : {X : Type 0} (f : ℕ → ℕ → X) (a : X) → ((n l : ℕ) → before_pass None i ≡ Some (n, l) → a ≡ f n l)
      → {r : Refusal} → InputsChecked i m.words m.bytes (Err r) → pick (is_short m) (f 1 0) a ≡ f (told_of r).0 (told_of r).1
  unfolding number_if in_no_line first_some
  refused_as {X} f a g {r} p = by (is_short m) (rw (sym short_lent) at p.is)
    where
      by : (b : Bool) → Some (told_of r) ≡ first_some (in_no_line (number_if 1 b) ∷ before_pass None i ∷ []) → pick b (f 1 0) a ≡ f (told_of r).0 (told_of r).1
      by true q = ap (λ (p : ℕ × ℕ). f p.0 p.1) (sym (some_inj q))
      by false q = g _ _ (sym (q ∙ some_only (before_pass None i)))

  -- what the whole comes to
  pub refused_outcome : {r : Refusal} → InputsChecked i m.words m.bytes (Err r) → pick (is_short m) (refusal 1 0) (collection i) ≡ refusal (told_of r).0 (told_of r).1
  refused_outcome p = refused_as refusal _ (λ n l q. collected_refused i q) p

  pub refused_collect : {r : Refusal} → InputsChecked i m.words m.bytes (Err r) → collect_answer i m ≡ declined (told_of r).0 (told_of r).1
  unfolding collect_answer written
  refused_collect p = refused_as declined _ (λ n l q. rw (collected_refused i q)) p

  pub refused_plain : {r : Refusal} → InputsChecked i m.words m.bytes (Err r) → plain_answer i m ≡ declined (told_of r).0 (told_of r).1
  unfolding plain_answer plain_of
  refused_plain p = refused_as declined _ (λ n l q. rw (collected_refused i q)) p

-- ---- good

pub told_good : {i : Input} {words bytes : ℕ} → InputsChecked i words bytes (Ok tt) → GoodInputs i words bytes
told_good p =
    let a = some_none _ _ (sym p.is) in
    record { enough = if_none _ _ (no_line_none _ a.0); no_fault = (some_none _ _ a.1).0 }

-- what follows from it
module _ {i : Input} {words bytes : ℕ} (g : GoodInputs i words bytes) where
  pub good_order : InOrder i
  good_order = in_order i g.no_fault

  pub good_words : words_needed ≤ words
  unfolding is_short
  good_words = ltb-false words words_needed (or_left _ _ g.enough)

  pub good_bytes : bytes_needed ≤ bytes
  unfolding is_short
  good_bytes = ltb-false bytes bytes_needed (or_right (ltb words words_needed) _ g.enough)

  pub good_short : length i.sheet ≤ 65536
  good_short = ltb-false 65536 (length i.sheet) good_order.sheet_short

  pub good_text : is_utf8 i.text ≡ true
  good_text = good_order.utf8

  pub good_read : read_sheet i.text i.sheet ≡ events (events_of i)
  good_read = good_order.read

  pub good_collects : collection i ≡ parse_events (context_of i) (events_of i)
  good_collects = collected_pass i g.no_fault

module _ (i : Input) (m : Lent) (g : GoodInputs i m.words m.bytes) where
  pub good_collect : collect_answer i m ≡ written m.room (parse_events (context_of i) (events_of i))
  unfolding collect_answer
  good_collect = rw (short_lent i m ∙ g.enough, good_collects g)

  pub good_plain : plain_answer i m ≡ plain_of i m.room (events_of i) (parse_events (context_of i) (events_of i))
  unfolding plain_answer
  good_plain = rw (short_lent i m ∙ g.enough, good_collects g)
