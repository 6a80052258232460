-- Names that are folded as they are read.
use Rattle.std.specs.Prelude.{None, Option, Some}
use Prim.Native.Nat.{ℕ, ◌≤◌, ◌<◌, ◌+◌}
use mathlib.Core.Path.{◌≡◌, refl, sym, ap, ◌∙◌}
use mathlib.Core.Bool.{true, false}
use mathlib.Core.List.{List, ◌++◌}
use native.Mathlib.Omega.{arith}
use borrow.Author.Tests.{eq-eqb, ne_eqb}
use lib.ListN.{length}
use Rattle.rules.specs.Basic.{eq_list}
use Rattle.rules.specs.Unicode.{fold, fold_name, same_name}
use Rattle.content.specs.Contents.{kept_in}
use Rattle.content.specs.Kept.{KeptStep}
use Rattle.content.proofs.Kept.{kept_none}
use Rattle.letters.specs.declared.Folded.{Folded}
use Rattle.letters.specs.declared.Folded.TheVariants as folded
use Rattle.letters.specs.Folded.{folded_of}
use Rattle.utf8.specs.declared.Char.{Char}
use Rattle.text.specs.declared.Pending.TheVariants.{Nothing, One, Two}
use Rattle.text.specs.declared.Cursor.{Cursor}
use Rattle.text.specs.Names.{pending_of, fold_from, rest, told, start_cursor, step_of}

-- the cursor at the front has the whole folding yet to give
pub rest_start : (s : List ℕ) → rest s start_cursor ≡ fold_name (kept_in s)
unfolding rest pending_of fold_from
rest_start s = refl

told_step : (s : List ℕ) (f : Folded) (at : ℕ) → told s (step_of f at) ≡ folded_of f ++ fold_from s at
unfolding told step_of rest pending_of folded_of
told_step s (folded.One a) at = refl
told_step s (folded.Two a b) at = refl
told_step s (folded.Three a b c) at = refl

module _ (f : Folded) (at : ℕ) where
  pub emit_1 : (a : ℕ) → f ≡ folded.One a → Some (a, (record { at = at; pending = Nothing })) ≡ step_of f at
  unfolding step_of
  emit_1 a e = rw e

  pub emit_2 : (a b : ℕ) → f ≡ folded.Two a b → Some (a, (record { at = at; pending = One b })) ≡ step_of f at
  unfolding step_of
  emit_2 a b e = rw e

  pub emit_3 : (a b c : ℕ) → f ≡ folded.Three a b c → Some (a, (record { at = at; pending = Two b c })) ≡ step_of f at
  unfolding step_of
  emit_3 a b c e = rw e

pub fresh_end : (s : List ℕ) (at : ℕ) → length s ≤ at → told s None ≡ fold_from s at
unfolding told fold_from fold_name
fresh_end s at h = rw (kept_none s at h)

pub fresh_on : {s : List ℕ} {at : ℕ} {ch : Char} → KeptStep s at ch → (f : Folded) → folded_of f ≡ fold ch.code → (r : Option (ℕ × Cursor)) → r ≡ step_of f (at + ch.size) → told s r ≡ fold_from s at
unfolding fold_from fold_name
fresh_on {s} {at} {ch} k f ef r er = ap (told s) er ∙ told_step s f (at + ch.size) ∙ rw (ef) (sym (ap fold_name k.reads))

module _ (s : List ℕ) (c : Cursor) where
  pub next_0 : c.pending ≡ Nothing → (r : Option (ℕ × Cursor)) → told s r ≡ fold_from s c.at → told s r ≡ rest s c
  unfolding rest pending_of
  next_0 e r f = rw e f

  pub next_1 : (x : ℕ) → c.pending ≡ One x → told s (Some (x, (record { at = c.at; pending = Nothing }))) ≡ rest s c
  unfolding told rest pending_of
  next_1 x e = rw e

  pub next_2 : (x y : ℕ) → c.pending ≡ Two x y → told s (Some (x, (record { at = c.at; pending = One y }))) ≡ rest s c
  unfolding told rest pending_of
  next_2 x y e = rw e

pub same_start : (a b : List ℕ) (i j : Cursor) → i ≡ start_cursor → j ≡ start_cursor → eq_list (rest a i) (rest b j) ≡ same_name (kept_in a) (kept_in b)
unfolding same_name
same_start a b i j ei ej = rw (ei, ej, rest_start a, rest_start b)

module _ (a b : List ℕ) (i j : Cursor) (p q : Option (ℕ × Cursor)) (ep : told a p ≡ rest a i) (eq : told b q ≡ rest b j) where
  module _ (inv : eq_list (rest a i) (rest b j) ≡ same_name (kept_in a) (kept_in b)) where
    base : eq_list (told a p) (told b q) ≡ same_name (kept_in a) (kept_in b)
    base = rw (ep, eq) inv

    pub both_end : p ≡ None → q ≡ None → true ≡ same_name (kept_in a) (kept_in b)
    unfolding told eq_list
    both_end hp hq = rw (hp, hq) at base

    pub left_end : p ≡ None → (y : ℕ) (l : Cursor) → q ≡ Some (y, l) → false ≡ same_name (kept_in a) (kept_in b)
    unfolding told eq_list
    left_end hp y l hq = rw (hp, hq) at base

    pub right_end : (x : ℕ) (k : Cursor) → p ≡ Some (x, k) → q ≡ None → false ≡ same_name (kept_in a) (kept_in b)
    unfolding told eq_list
    right_end x k hp hq = rw (hp, hq) at base

    module _ (x y : ℕ) (k l : Cursor) (hp : p ≡ Some (x, k)) (hq : q ≡ Some (y, l)) where
      pub differ : (x ≡ y → ⊥) → false ≡ same_name (kept_in a) (kept_in b)
      unfolding told eq_list
      differ n = rw (hp, hq, ne_eqb x y n) at base

      pub agree : x ≡ y → eq_list (rest a k) (rest b l) ≡ same_name (kept_in a) (kept_in b)
      unfolding told eq_list
      agree n = rw (hp, hq, eq-eqb x y n) at base

-- a step leaves less to give
pub fewer : (s : List ℕ) (i : Cursor) (p : Option (ℕ × Cursor)) → told s p ≡ rest s i → (x : ℕ) (k : Cursor) → p ≡ Some (x, k) → length (rest s k) < length (rest s i)
unfolding told
fewer s i p e x k h = omega (arith, ap length (rw h at e))

pub ruleset emit_cases = (emit_1, emit_2, emit_3)

pub ruleset next_cases = (next_0, next_1, next_2)

pub ruleset rest_cases = (both_end, left_end, right_end, differ, fewer, agree)
