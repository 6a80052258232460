-- Searching a unit by its content, and comparing two.
use Prim.Native.Nat.{ℕ, ◌≤◌}
use mathlib.Core.Path.{◌≡◌, refl, ap, sym, ◌∙◌}
use mathlib.Core.Bool.{Bool, true, false}
use Rattle.std.specs.Prelude.{Option, None, Some}
use mathlib.Core.List.{List}
use native.Mathlib.Omega.{arith}
use lib.Dec.{eqb}
use borrow.Author.Tests.{eq-eqb, ne_eqb, eqb-true}
use Rattle.rules.specs.Basic.{pick, eq_list, is_some, on_some}
use Rattle.rules.specs.Units.{NamedUnit, PhysicalQuantity, volume, mass, len, temperature, time, physical_number, same_physical, read_units, find_unit, units_or}
use Rattle.rules.specs.Model.{trimmed_text}
use Rattle.rules.specs.Checks.{known_units, compatible_unit}
use Rattle.rules.proofs.Basics.{no_truth, no_some, some_inj}
use Rattle.rules.proofs.SameChars.{eq_true, eq_itself}
use Rattle.content.specs.Contents.{kept_in}
use Rattle.content.proofs.Plains as plains
use Rattle.content.proofs.Retains.{kept_trimmed}
use Rattle.text.specs.Trims.{TrimmedTo}
use Rattle.units.specs.Lists.{units_from}
use Rattle.units.proofs.Walks.{units_start}
use Rattle.parts.specs.declared.TextView.{TextView}
use Rattle.parts.specs.Views.{part_of, text_in, opt_text_in, TextWithin, OptTextWithin}
use Rattle.parts.proofs.Contents.{content_of_lem}
use Rattle.compatible.specs.Fitting.{code_of, unit_code, known_of, told, trimmed_in, unit_in}

-- ---- numbers of physical quantities

number_most : (p : PhysicalQuantity) → physical_number p ≤ 5
unfolding physical_number
number_most volume = omega arith
number_most mass = omega arith
number_most len = omega arith
number_most temperature = omega arith
number_most time = omega arith

number_small : (p : PhysicalQuantity) → physical_number p ≡ 5 → ⊥
unfolding physical_number
number_small volume e = omega arith
number_small mass e = omega arith
number_small len e = omega arith
number_small temperature e = omega arith
number_small time e = omega arith

code_five : (o : Option PhysicalQuantity) → code_of o ≡ 5 → o ≡ None
unfolding code_of
code_five None e = refl
code_five (Some p) e = absurd (number_small p e)

-- ---- two units

twice : (us : List NamedUnit) (a : List ℕ) (o : Option PhysicalQuantity) → known_units us a a o o ≡ 0
unfolding known_units same_physical
twice us a None = rw (eq_itself a)
twice us a (Some p) = rw (eq-eqb (physical_number p) (physical_number p) refl)

module _ (us : List NamedUnit) (a b : List ℕ) where
  left_none : (o : Option PhysicalQuantity) → eq_list a b ≡ false → known_units us a b None o ≡ 17
  unfolding known_units
  left_none None e = rw e
  left_none (Some q) e = rw e

  right_none : (o : Option PhysicalQuantity) → eq_list a b ≡ false → known_units us a b o None ≡ 17
  unfolding known_units
  right_none None e = rw e
  right_none (Some p) e = rw e

  both_same : (o u : Option PhysicalQuantity) → (code_of o ≡ 5 → ⊥) → code_of o ≡ code_of u → known_units us a b o u ≡ 0
  unfolding code_of
  both_same None u n e = absurd (n refl)
  both_same (Some p) None n e = absurd (n e)
  both_same (Some p) (Some q) n e = unfold known_units same_physical in rw (eq-eqb (physical_number p) (physical_number q) e)

  both_other : (o u : Option PhysicalQuantity) → (code_of o ≡ 5 → ⊥) → (code_of u ≡ 5 → ⊥)
      → (code_of o ≡ code_of u → ⊥) → known_units us a b o u ≡ 16
  unfolding code_of
  both_other None u n m e = absurd (n refl)
  both_other (Some p) None n m e = absurd (m refl)
  both_other (Some p) (Some q) n m e =
      unfold known_units same_physical in rw (ne_eqb (physical_number p) (physical_number q) e)

module _ (us : List NamedUnit) (a b : List ℕ) {t : Bool} (s : t ≡ eq_list a b) where
  pub units_same : t ≡ true → 0 ≡ known_of us a b
  unfolding known_of
  units_same h = rw (eq_true a b (sym s ∙ h)) (sym (twice us b (find_unit b us)))

  pub units_first : {m : ℕ} → m ≡ unit_code us a → t ≡ false → m ≡ 5 → 17 ≡ known_of us a b
  unfolding known_of unit_code
  units_first x h e = rw (code_five (find_unit a us) (sym x ∙ e)) (sym (left_none us a b (find_unit b us) (sym s ∙ h)))

  pub units_second : {n : ℕ} → n ≡ unit_code us b → t ≡ false → n ≡ 5 → 17 ≡ known_of us a b
  unfolding known_of unit_code
  units_second y h e = rw (code_five (find_unit b us) (sym y ∙ e)) (sym (right_none us a b (find_unit a us) (sym s ∙ h)))

module _ (us : List NamedUnit) (a b : List ℕ) {m n : ℕ} (x : m ≡ unit_code us a) (y : n ≡ unit_code us b) where
  pub units_fit : (m ≡ 5 → ⊥) → m ≡ n → 0 ≡ known_of us a b
  unfolding known_of unit_code
  units_fit g e = sym (both_same us a b (find_unit a us) (find_unit b us) (λ k. g (x ∙ k)) (sym x ∙ e ∙ y))

  pub units_differ : (m ≡ 5 → ⊥) → (n ≡ 5 → ⊥) → (m ≡ n → ⊥) → 16 ≡ known_of us a b
  unfolding known_of unit_code
  units_differ g h e =
      sym (both_other us a b (find_unit a us) (find_unit b us) (λ k. g (x ∙ k)) (λ k. h (y ∙ k)) (λ k. e (x ∙ k ∙ sym y)))

-- ---- the finding that a code stands for

pub told_none : {n : ℕ} → 0 ≡ n → None ≡ told n
unfolding told
told_none e = rw (← e)

pub told_some : {c n : ℕ} → (c ≡ 0 → ⊥) → c ≡ n → Some c ≡ told n
unfolding told
told_some {c} h e = rw (← e, ne_eqb c 0 h)

pub not_told : {n : ℕ} → None ≡ told n → n ≡ 0
unfolding told
not_told {n} e = go (eqb n 0) refl e
  where
    go : (b : Bool) → b ≡ eqb n 0 → None ≡ pick b None (Some n) → n ≡ 0
    go true q e = eqb-true n 0 (sym q)
    go false q e = no_some e

pub is_told : {c n : ℕ} → Some c ≡ told n → c ≡ n
unfolding told
is_told {c} {n} e = go (eqb n 0) e
  where
    go : (b : Bool) → Some c ≡ pick b None (Some n) → c ≡ n
    go true e = no_some (sym e)
    go false e = some_inj e

pub told_not : {c : ℕ} (n : ℕ) → Some c ≡ told n → c ≡ 0 → ⊥
unfolding told
told_not {c} n e z = go (eqb n 0) refl e
  where
    go : (b : Bool) → b ≡ eqb n 0 → Some c ≡ pick b None (Some n) → ⊥
    go true q e = no_some (sym e)
    go false q e = no_truth (q ∙ eq-eqb n 0 (sym (some_inj e) ∙ z))

-- ---- whether they fit

pub code_small : (us : List NamedUnit) (a : List ℕ) → unit_code us a ≤ 5
unfolding unit_code code_of
code_small us a = small (find_unit a us)
  where
    small : (o : Option PhysicalQuantity) → code_of o ≤ 5
    small None = omega arith
    small (Some p) = number_most p

module _ (us : List NamedUnit) (a b : List ℕ) {n : ℕ} (p : n ≡ unit_code us a) where
  -- one that is not in the list fits itself alone
  pub names_fit : n ≡ 5 → (r : Bool) → r ≡ eq_list a b → r ≡ eqb (known_of us a b) 0
  names_fit e true s = rw (sym (units_same us a b s refl))
  names_fit e false s = rw (sym (units_first us a b s p refl e))

  -- else those fit that have the same physical quantity
  module _ {m : ℕ} (q : m ≡ unit_code us b) (h : n ≡ 5 → m ≡ 5 → ⊥) where
    others : (t u v : Bool) → t ≡ eq_list a b → u ≡ eqb m 5 → v ≡ eqb n 5 → (n ≡ m → ⊥) → false ≡ eqb (known_of us a b) 0
    others true u v s k j e = absurd (e (p ∙ ap (unit_code us) (eq_true a b (sym s)) ∙ sym q))
    others false true v s k j e = rw (sym (units_second us a b s q refl (eqb-true m 5 (sym k))))
    others false false true s k j e = rw (sym (units_first us a b s p refl (eqb-true n 5 (sym j))))
    others false false false s k j e = rw (sym (units_differ us a b p q (λ z. no_truth (j ∙ eq-eqb n 5 z)) (λ z. no_truth (k ∙ eq-eqb m 5 z)) e))

    pub codes_fit : (r : Bool) → r ≡ eqb n m → r ≡ eqb (known_of us a b) 0
    codes_fit true e = rw (sym (units_fit us a b p q (λ k. h k (sym (eqb-true n m (sym e)) ∙ k)) (eqb-true n m (sym e))))
    codes_fit false e = others (eq_list a b) (eqb m 5) (eqb n 5) refl refl refl (λ k. no_truth (e ∙ eq-eqb n m k))

pub trimmed_is : {f r : List ℕ} → TrimmedTo f r → kept_in r ≡ trimmed_in f
unfolding trimmed_in
trimmed_is {f} {r} t = kept_trimmed f r t.is

-- ---- the units of two quantities

-- a text that was read, trimmed
pub text_kept : (line : List ℕ) (v : TextView) (r : List ℕ) → TextWithin line v → TrimmedTo (part_of line v.content) r → kept_in r ≡ trimmed_text (text_in line v)
unfolding trimmed_text text_in
text_kept line v r w t =
    let c = plains.content_of_lem (part_of line v.content) (content_of_lem line v.content w.content) in
    rw c at (kept_trimmed (part_of line v.content) r t.is)

pub within_present : (line : List ℕ) (o : Option TextView) (v : TextView) → OptTextWithin line o → o ≡ Some v → TextWithin line v
unfolding OptTextWithin
within_present line o v w e = rw e at w

pub both_present : (us : List NamedUnit) (f g : List ℕ) {u v : TextView} {x y : List ℕ} {r : Option ℕ} → TextWithin f u → TextWithin g v
    → TrimmedTo (part_of f u.content) x → TrimmedTo (part_of g v.content) y → r ≡ told (known_of us (kept_in x) (kept_in y))
    → r ≡ told (compatible_unit us (unit_in f (Some u)) (unit_in g (Some v)))
unfolding compatible_unit unit_in opt_text_in on_some known_of
both_present us f g {u} {v} {x} {y} i j k l e = rw (text_kept f u x i k, text_kept g v y j l) at e

-- the units of a list that was read
pub list_read : (s a b : List ℕ) {r : Option ℕ} → is_some (read_units s) ≡ true → r ≡ told (known_of (units_from s 0) a b) → r ≡ told (known_of (units_or (read_units s)) a b)
list_read s a b h e = rw (units_start s h) at e

-- the trimming of the part that was taken
pub trims : {s f r : List ℕ} → f ≡ s → TrimmedTo f r → TrimmedTo s r
trims e t = rw e at t
