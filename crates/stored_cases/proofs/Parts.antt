-- The ways through the readers of a part and of a case; a part that is taken lies within its file.
use Prim.Native.Nat.{ℕ, ◌+◌, ◌-◌, ◌*◌, ◌≤◌, ◌<◌}
use mathlib.Core.Path.{◌≡◌, refl}
use mathlib.Core.Bool.{Bool, true, false, ◌&&◌}
use mathlib.Core.List.{List, [], ◌∷◌}
use Rattle.std.specs.Prelude.{Option, None, Some}
use native.Mathlib.Omega.{arith}
use borrow.Author.Tests.{eq-eqb, ne_eqb, ltb-true, ltb-false}
use lib.Dec.{eqb, leb, ltb}
use lib.ListN.{length, get_or, drop, get_or-eq_default}
use Rattle.rules.specs.Basic.{pick, codes, blank, lf, is_digit}
use Rattle.rules.proofs.Basics.{no_some, no_truth, some_inj}
use Rattle.stored_cases.specs.declared.Number.{Number}
use Rattle.stored_cases.specs.declared.Place.{Place}
use Rattle.stored_cases.specs.declared.NamedPart.{NamedPart}
use Rattle.stored_cases.specs.Cases.{after_of, number_from, number_at, given, ended, part_at}
use Rattle.stored_cases.proofs.Words.{word_passed, on_line_within}

-- ---- the byte after the bytes
module _ (s : List ℕ) (name bytes : Place) {b : ℕ} (l : b ≡ get_or s bytes.to 0) where
  pub not_ended : (b ≡ lf → ⊥) → None ≡ ended s name bytes
  unfolding ended
  not_ended n = rw (← l, ne_eqb b lf n)

  pub is_ended : b ≡ lf → Some (record { name = name; bytes = bytes }) ≡ ended s name bytes
  unfolding ended
  is_ended n = rw (← l, eq-eqb b lf n)

ended_as : (s : List ℕ) (name bytes : Place) {p : NamedPart} → ended s name bytes ≡ Some p → (p.bytes ≡ bytes) × (bytes.to < length s)
unfolding ended
ended_as s name bytes {p} e = go (eqb (get_or s bytes.to 0) lf) refl (ltb bytes.to (length s)) refl e
  where
    go : (b : Bool) → eqb (get_or s bytes.to 0) lf ≡ b → (t : Bool) → ltb bytes.to (length s) ≡ t → pick b (Some (record { name = name; bytes = bytes })) None ≡ Some p → (p.bytes ≡ bytes) × (bytes.to < length s)
    go false f t u q = no_some q
    go true f true u q = (let k : record { name = name; bytes = bytes } ≡ p = some_inj q in cc, ltb-true _ _ u)
    go true f false u q = no_truth (rw (get_or-eq_default s 0 (ltb-false _ _ u)) at f)

-- ---- what was read goes on: a place before the end was reached by just so many bytes
pub not_cut : (s : List ℕ) (at n : ℕ) → after_of s at n < length s → after_of s at n ≡ at + n
unfolding after_of
not_cut s at n h = go (leb (at + n) (length s)) h
  where
    go : (b : Bool) → pick b (at + n) (length s) < length s → pick b (at + n) (length s) ≡ at + n
    go true l = refl
    go false l = absurd (omega arith)

number_on : (end n count at : ℕ) (l : List ℕ) {r : Number} → number_from end n count at l ≡ Some r → at < r.next
unfolding number_from
number_on end n count at [] e = no_some e
number_on end n count at (x ∷ l) {r} e = go (number_on end (n * 10 + (x - 48)) (count + 1) (at + 1) l) (eqb x end) (eqb count 0) (is_digit x && ltb count 9) e
  where
    go : (number_from end (n * 10 + (x - 48)) (count + 1) (at + 1) l ≡ Some r → at + 1 < r.next) → (t u v : Bool) → pick t (pick u None (Some (record { value = n; next = at + 1 }))) (pick v (number_from end (n * 10 + (x - 48)) (count + 1) (at + 1) l) None) ≡ Some r → at < r.next
    go f true true v q = no_some q
    go f true false v q = let k : at + 1 ≡ r.next = (let j : record { value = n; next = at + 1 } ≡ r = some_inj q in cc) in omega (arith, k)
    go f false u true q = omega (arith, f q)
    go f false u false q = no_some q

-- ---- one thing read after the other
given_by : {A B P : Type 0} (o : Option A) (f : A → Option B) {b : B} → given o f ≡ Some b → ((a : A) → o ≡ Some a → f a ≡ Some b → P) → P
given_by None f e k = no_some e
given_by (Some a) f e k = k a refl e

module _ (s : List ℕ) (at : ℕ) where
  inside : (p : NamedPart) (a b : ℕ) (n : Number) → a ≡ after_of s at 5 → (a ≤ b) × (b < length s) → b + 1 < n.next → (p.bytes ≡ record { from = n.next; to = after_of s n.next n.value }) × (after_of s n.next n.value < length s) → (at ≤ p.bytes.to) × (p.bytes.to < length s)
  inside p a b n ea eb en e =
      let t : p.bytes.to ≡ after_of s n.next n.value = (let k = e.0 in cc) in
      let j : after_of s n.next n.value ≡ n.next + n.value = not_cut s n.next n.value e.1 in
      let i : after_of s at 5 ≡ at + 5 = not_cut s at 5 (omega (arith, ea, eb.0, eb.1)) in
      (omega (arith, t, j, i, ea, eb.0, en), omega (arith, t, e.1))

  pub part_inside : {p : NamedPart} → part_at s at ≡ Some p → (at ≤ p.bytes.to) × (p.bytes.to < length s)
  unfolding part_at number_at
  part_inside {p} e =
      given_by _ _ e (λ a ea e₁.
      given_by _ _ e₁ (λ b eb e₂.
      given_by _ _ e₂ (λ n en e₃.
      inside p a b n (word_passed s at (codes "part ") ea) (on_line_within s a blank eb) (number_on lf 0 0 (b + 1) (drop (b + 1) s) en) (ended_as s _ _ e₃))))
