-- What one turn over a number's digits does, in the field that starts at `at`.
use Rattle.std.proofs.Common.{◌≡◌, ℕ, suc, ◌+◌, ◌-◌, ◌*◌, ◌<◌, ◌≤◌, Bool, true, false, eqb, List, [], ◌∷◌, length, get_or, sym, refl, ap, ◌∙◌, arith, eq-eqb, ne_eqb, eqb-true, le-leb}
use mathlib.Core.Bool.{and-false}
use Rattle.std.specs.Prelude.{None, Some}
use borrow.Author.Tests.{eqb-false, lt-leb}
use Rattle.rules.specs.Basic.{is_empty}
use Rattle.rules.specs.Sheet.{number_up_to, number_of, at_most, only_zero, digits_from}
use Rattle.rules.specs.Read.{read_number}
use Rattle.rules.proofs.Basics.{by_order, no_truth}
use Rattle.sheet.specs.Lines.{field_at}
use Rattle.sheet.proofs.Digits.{digit_large}
use Rattle.parts.specs.Got.{NumberRead}
use Rattle.parts.proofs.Bytes.{at_end_lem, at_tab, at_byte, empty_is}
use Rattle.parts.proofs.Leaves.{leaf_past, leaf_bad, leaf_got}

-- n was read from `at` to i, where the field goes on
pub record NumberFrom (line : List ℕ) (at n i : ℕ) : Type 0 where
  pub starts : at ≤ length line
  pub inside : i ≤ length line
  pub small : n ≤ 65535
  pub to : at + length (field_at line at) ≡ i + length (field_at line i)
  pub is : number_of (field_at line at) ≡ at_most 65535 (digits_from n (field_at line i))

-- ---- the ways through a list of digits
digits_none : (n : ℕ) → n ≤ 65535 → at_most 65535 (digits_from n []) ≡ Some n
unfolding digits_from at_most
digits_none n h = simp (le-leb _ _ h)

digits_below : (n x : ℕ) (f : List ℕ) → x < 48 → at_most 65535 (digits_from n (x ∷ f)) ≡ None
unfolding digits_from at_most
digits_below n x f h = simp (lt-leb _ _ h)

digits_above : (n x : ℕ) (f : List ℕ) → 57 < x → at_most 65535 (digits_from n (x ∷ f)) ≡ None
unfolding digits_from at_most
digits_above n x f h = simp (lt-leb _ _ h, and-false)

digits_on : (n x : ℕ) (f : List ℕ) → 48 ≤ x → x ≤ 57 → digits_from n (x ∷ f) ≡ digits_from (n * 10 + (x - 48)) f
unfolding digits_from
digits_on n x f p q = simp (le-leb _ _ p, le-leb _ _ q)

digits_large : (n x : ℕ) (f : List ℕ) → 48 ≤ x → x ≤ 57 → 65535 < n * 10 + (x - 48) → at_most 65535 (digits_from n (x ∷ f)) ≡ None
digits_large n x f p q l = sym (digit_large 65535 (x ∷ f) n 0 refl (omega arith) p q l)

-- ---- one turn
module _ {line : List ℕ} {at n i : ℕ} (d : NumberFrom line at n i) where
  pub number_ends : field_at line i ≡ [] → NumberRead line at (Some (n, (i + 1)))
  unfolding read_number
  number_ends e =
      let z : length (field_at line i) ≡ 0 = rw e in
      let k : i + 1 ≡ at + length (field_at line at) + 1 = omega (arith, d.to) in
      rw k (leaf_got number_of d.starts refl (d.is ∙ rw e (digits_none n d.small)) d.small)

  number_stops : at_most 65535 (digits_from n (field_at line i)) ≡ None → NumberRead line at None
  unfolding read_number
  number_stops e = leaf_bad number_of d.starts refl (d.is ∙ e)

  module _ (h : i < length line) where
    pub number_below : get_or line i 0 < 48 → (get_or line i 0 ≡ 9 → ⊥) → NumberRead line at None
    number_below q t = number_stops (rw (at_byte line i h t) (digits_below n _ _ q))

    pub number_above : 57 < get_or line i 0 → NumberRead line at None
    number_above q = number_stops (rw (at_byte line i h (λ t. omega arith)) (digits_above n _ _ q))

    module _ (p : 48 ≤ get_or line i 0) (q : get_or line i 0 ≤ 57) where
      pub number_large : 65535 < n * 10 + (get_or line i 0 - 48) → NumberRead line at None
      number_large l = number_stops (rw (at_byte line i h (λ t. omega arith)) (digits_large n _ _ p q l))

      pub number_on : n * 10 + (get_or line i 0 - 48) ≤ 65535 → NumberFrom line at (n * 10 + (get_or line i 0 - 48)) (i + 1)
      number_on l =
          let e = at_byte line i h (λ t. omega arith) in
          let z : length (field_at line i) ≡ suc (length (field_at line (i + 1))) = ap length e in
          record {
            starts = d.starts;
            inside = omega arith;
            small = l;
            to = omega (arith, d.to);
            is = d.is ∙ ap (at_most 65535) (ap (digits_from n) e ∙ digits_on n _ _ p q);
          }

-- ---- the first byte
pub number_past : (line : List ℕ) (at : ℕ) → length line ≤ at → NumberRead line at None
unfolding read_number number_of number_up_to
number_past line at h = by_order at (length line) (λ k. leaf_bad number_of k refl (rw (at_end_lem line at h))) (λ k. leaf_past number_of k)

module _ (line : List ℕ) (at : ℕ) (h : at < length line) where
  starting : (get_or line at 0 ≡ 9 → ⊥) → (get_or line at 0 ≡ 48 → ⊥) → NumberFrom line at 0 at
  unfolding number_of number_up_to
  starting t z =
      record {
        starts = omega arith;
        inside = omega arith;
        small = omega arith;
        to = refl;
        is = rw (at_byte line at h t) (simp (ne_eqb _ 48 z));
      }

  pub first_below : get_or line at 0 < 48 → NumberRead line at None
  unfolding read_number number_of number_up_to
  first_below q = by (eqb (get_or line at 0) 9) refl
    where
      by : (t : Bool) → eqb (get_or line at 0) 9 ≡ t → NumberRead line at None
      by true e = leaf_bad number_of (omega arith) refl (rw (at_tab line at h (eqb-true _ _ e)))
      by false e = number_below (starting (eqb-false _ _ e) (λ z. omega arith)) h q (eqb-false _ _ e)

  pub first_above : 57 < get_or line at 0 → NumberRead line at None
  first_above q = number_above (starting (λ z. omega arith) (λ z. omega arith)) h q

  pub first_on : (get_or line at 0 ≡ 48 → ⊥) → 48 ≤ get_or line at 0 → get_or line at 0 ≤ 57 → NumberFrom line at (get_or line at 0 - 48) (at + 1)
  first_on z p q = let e : get_or line at 0 - 48 ≡ 0 * 10 + (get_or line at 0 - 48) = omega arith in rw e (number_on (starting (λ z. omega arith) z) h p q (omega arith))

  module _ (q : get_or line at 0 ≡ 48) {t : Bool} (e : t ≡ is_empty (field_at line (at + 1))) where
    zero_is : field_at line at ≡ get_or line at 0 ∷ field_at line (at + 1)
    zero_is = at_byte line at h (λ z. omega arith)

    zero_of : number_of (field_at line at) ≡ only_zero (field_at line (at + 1))
    unfolding number_of number_up_to
    zero_of = rw zero_is (simp (eq-eqb _ 48 q))

    pub zero_got : t ≡ true → NumberRead line at (Some (0, (at + 1 + 1)))
    unfolding read_number only_zero
    zero_got p =
        let n = empty_is _ e p in
        let l : length (field_at line at) ≡ 1 = rw (zero_is, n) in
        let k : at + 1 + 1 ≡ at + length (field_at line at) + 1 = omega arith in
        rw k (leaf_got number_of (omega arith) refl (zero_of ∙ rw n) (omega arith))

    pub zero_bad : t ≡ false → NumberRead line at None
    unfolding read_number only_zero is_empty
    zero_bad p = leaf_bad number_of (omega arith) refl (zero_of ∙ by (field_at line (at + 1)) (sym p ∙ e))
      where
        by : (f : List ℕ) → false ≡ is_empty f → only_zero f ≡ None
        by [] r = no_truth r
        by (x ∷ f) r = refl
