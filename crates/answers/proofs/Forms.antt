-- What a form is told whose collection passed a limit.
use Prim.Native.Nat.{ℕ}
use native.Mathlib.Omega.{arith}
use mathlib.Core.Path.{◌≡◌, refl, sym, ◌∙◌}
use mathlib.Core.Bool.{Bool, true, false}
use Rattle.std.specs.Prelude.{Option, Result, Ok, Err}
use borrow.Author.Tests.{ne_eqb}
use Rattle.rules.specs.Basic.{pick}
use Rattle.refusals.specs.Told.{number_of}
use Rattle.refusals.specs.declared.Reason.TheVariants.{OverLimits, LongForm}
use Rattle.refusals.specs.declared.Refusal.{Refusal}
use Rattle.refusals.proofs.Told.{same_reason}
use Rattle.model.specs.declared.Held.{Held}
use Rattle.answers.specs.Forms.{tells17, form_checked}

-- ---- whether a pass gives 17
module _ {r : Result (Option Held) Refusal} where
  pub tells_none : {o : Option Held} → r ≡ Ok o → false ≡ tells17 r
  unfolding tells17
  tells_none q = rw q

  pub tells_over : {f : Refusal} → r ≡ Err f → f.reason ≡ OverLimits → true ≡ tells17 r
  unfolding tells17
  tells_over q e = rw (q, e)

  -- no other reason is told by 17
  pub tells_other : {f : Refusal} → r ≡ Err f → (f.reason ≡ OverLimits → ⊥) → false ≡ tells17 r
  unfolding tells17
  tells_other {f} q n = rw (q, ne_eqb (number_of f.reason) 17 (λ e. n (same_reason f.reason OverLimits e)))

-- ---- what is told then
module _ (r : Result (Option Held) Refusal) {b : Bool} (e : b ≡ tells17 r) where
  pub checked_over : b ≡ true → Err (record { reason = LongForm; line = 0 }) ≡ form_checked r
  unfolding form_checked
  checked_over t = rw (sym e ∙ t)

  pub checked_well : b ≡ false → Ok tt ≡ form_checked r
  unfolding form_checked
  checked_well t = rw (sym e ∙ t)

-- a form is refused as too long alone
pub record Over (r : Result (Option Held) Refusal) (f : Refusal) : Type 0 where
  pub over : tells17 r ≡ true
  pub is : f ≡ record { reason = LongForm; line = 0 }

module _ (r : Result (Option Held) Refusal) where
  pub checked_err : {f : Refusal} → form_checked r ≡ Err f → Over r f
  unfolding form_checked
  checked_err {f} q = go (tells17 r) refl q
    where
      go : (t : Bool) → tells17 r ≡ t → pick {X = Result (Unit {0}) Refusal} t (Err (record { reason = LongForm; line = 0 })) (Ok tt) ≡ Err f → Over r f
      go true h k = record { over = h; is = cc }
      go false h k = absurd (let z : ◌≡◌ {A = ℕ} 0 1 = cc in omega arith)

  pub checked_ok : {u : Unit {0}} → form_checked r ≡ Ok u → tells17 r ≡ false
  unfolding form_checked
  checked_ok {u} q = go (tells17 r) refl q
    where
      go : (t : Bool) → tells17 r ≡ t → pick {X = Result (Unit {0}) Refusal} t (Err (record { reason = LongForm; line = 0 })) (Ok tt) ≡ Ok u → tells17 r ≡ false
      go true h k = absurd (let z : ◌≡◌ {A = ℕ} 0 1 = cc in omega arith)
      go false h k = h
