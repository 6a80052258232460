-- An answer's variants, and an answer as one number.
use Prim.Native.Nat.{ℕ, ◌+◌, ◌*◌, ◌≤◌, ◌<◌, min}
use mathlib.Core.Path.{◌≡◌, refl, sym}
use mathlib.Core.List.{List}
use native.Mathlib.Omega.{arith}
use Rattle.std.specs.Prelude.{Result, Ok, Err}
use Rattle.std.specs.Result.{result_unwrap_or}
use borrow.Author.Tests.{leb-true, leb-false, le-leb, lt-leb}
use lib.Dec.{leb}
use lib.ListN.{length}
use lib.Seq.{length-take-le}
use Rattle.rules.proofs.Basics.{pick_either}
use Rattle.refusals.specs.Told.{number_of}
use Rattle.refusals.specs.declared.Reason.TheVariants.{NoRoom}
use Rattle.refusals.specs.declared.Refusal.{Refusal}
use Rattle.answers.specs.Answers.{answer_of, used_of, code_of, answer_code, usable_of, page_or20}

pub used_is : (r : Result ℕ Refusal) → result_unwrap_or r 0 ≡ used_of r
unfolding used_of
used_is (Ok n) = refl
used_is (Err f) = refl

module _ {r : Result ℕ Refusal} where
  pub code_page : {n : ℕ} → r ≡ Ok n → n ≡ answer_code r
  unfolding answer_code
  code_page q = rw q

  pub code_refused : {f : Refusal} {a : ℕ} → r ≡ Err f → a ≡ number_of f.reason → a * 4294967296 + f.line ≡ answer_code r
  unfolding answer_code
  code_refused q e = rw (q, e)

pub page_fits : (n room : ℕ) → n ≤ room → Ok n ≡ page_or20 n room
unfolding page_or20
page_fits n room h = rw (le-leb n room h)

pub page_long : (n room : ℕ) → room < n → Err (record { reason = NoRoom; line = 0 }) ≡ page_or20 n room
unfolding page_or20
page_long n room h = rw (lt-leb n room h)

-- ---- as one number
pub code_is : (o : List ℕ) (r : Result ℕ Refusal) → used_of r ≤ length o → answer_code r ≡ code_of (answer_of r o)
unfolding answer_code used_of code_of answer_of
code_is o (Ok n) h = sym (length-take-le n o h)
code_is o (Err f) h = refl

pub usable_most : (room : ℕ) → usable_of room ≤ room
unfolding usable_of
usable_most room = pick_either (λ (n : ℕ). n ≤ room) (leb room 4294967295) _ _ (λ h. omega arith) (λ h. let l : 4294967295 < room = leb-false room 4294967295 h in omega arith)

pub usable_short : (room : ℕ) → usable_of room < 4294967296
unfolding usable_of
usable_short room = pick_either (λ (n : ℕ). n < 4294967296) (leb room 4294967295) _ _ (λ h. let l : room ≤ 4294967295 = leb-true room 4294967295 h in omega arith) (λ h. omega arith)

pub usable_least : (room : ℕ) → min room 4294967295 ≡ usable_of room
unfolding usable_of
usable_least room =
    pick_either (λ (n : ℕ). min room 4294967295 ≡ n) (leb room 4294967295) _ _
    (λ h. let l : room ≤ 4294967295 = leb-true room 4294967295 h in omega arith)
    (λ h. let l : 4294967295 < room = leb-false room 4294967295 h in omega arith)
