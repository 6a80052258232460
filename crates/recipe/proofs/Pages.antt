-- A page or a form that was written at the front of the output, handed out; a refusal.
use Prim.Native.Nat.{ℕ, ◌+◌, ◌≤◌, ◌<◌}
use mathlib.Core.Path.{◌≡◌, ap, sym, ◌∙◌}
use mathlib.Core.List.{List}
use native.Mathlib.Omega.{arith}
use Rattle.std.specs.Prelude.{Result, Err}
use borrow.Author.Tests.{le-leb, lt-leb}
use lib.ListN.{length, take, drop}
use lib.Seq.{take_at}
use Rattle.rules.specs.Answer as rules
use Rattle.rules.specs.Answer.{answered, declined, hand_out}
use Rattle.rules.proofs.Basics.{by_order}
use Rattle.output.specs.Put.{Put}
use Rattle.output.proofs.Puts.{keeps, put_room, put_no_room, put_fits}
use Rattle.refusals.specs.Told.{number_of}
use Rattle.refusals.specs.declared.Refusal.{Refusal}
use Rattle.answers.specs.Answers.{answer_of, used_of, page_or20}
use Rattle.answers.proofs.Answers.{page_fits, page_long}
use Rattle.recipe.specs.Answers.{Answered}

-- a refusal, whatever stands in the output
pub refused_as : {a : rules.Answer} {room : ℕ} {f : Refusal} (o : List ℕ) → length o ≡ room → a ≡ declined (number_of f.reason) f.line → Answered a room o (Err f)
unfolding answer_of used_of
refused_as o e q = record { is = sym q; fits = omega arith; long = e }

-- what stands in the output o of a page w, with the answer r
pub record Handed (w o₀ o : List ℕ) (r : Result ℕ Refusal) : Type 0 where
  pub is : answer_of r o ≡ hand_out (length o₀) w
  pub fits : used_of r ≤ length o₀
  pub long : length o ≡ length o₀

module _ {w o₀ o : List ℕ} {n : ℕ} (p : Put w o₀ 0 o n) where
  fit : length w ≤ length o₀ → Handed w o₀ o (page_or20 n (length o))
  unfolding answer_of used_of hand_out
  fit h =
      let z : 0 + length w ≤ length o₀ = omega arith in
      let e : n ≡ length w = omega (arith, put_room p z) in
      let l : n ≤ length o₀ = omega arith in
      let k : n ≤ length o = omega (arith, keeps p) in
      rw (← page_fits n (length o) k)
      record {
        is = rw (le-leb (length w) (length o₀) h) (ap answered (ap (take n) (put_fits p l) ∙ take_at w (drop (0 + length w) o₀) n (sym e)));
        fits = l;
        long = keeps p;
      }

  misfit : length o₀ < length w → Handed w o₀ o (page_or20 n (length o))
  unfolding answer_of used_of hand_out
  misfit h =
      let z : length o₀ < 0 + length w = omega arith in
      let k : length o < n = omega (arith, put_no_room p z, keeps p) in
      rw (← page_long n (length o) k)
      record { is = rw (lt-leb (length w) (length o₀) h); fits = omega arith; long = keeps p }

  pub page_handed : {r : Result ℕ Refusal} → r ≡ page_or20 n (length o) → Handed w o₀ o r
  page_handed {r} e = rw e (by_order (length w) (length o₀) fit misfit)
