-- What one digit of a number does that is read at once, and a content's start that is.
use Rattle.std.specs.Prelude.{None, Option, Some}
use Rattle.std.proofs.Common.{◌≡◌, ℕ, zero, suc, ◌+◌, ◌-◌, ◌*◌, ◌%◌, ◌<◌, ◌≤◌, true, eqb, List, length, get_or, refl, ap, ◌∙◌, arith, eq-eqb, ne_eqb, eqb-true, le-leb}
use borrow.Author.Tests.{eqb-false, lt-leb}
use Rattle.rules.proofs.Basics.{by_order, pick_either, no_some, some_inj}
use Rattle.sheet.specs.Runs.{is_stop, lacks, Lacking}
use Rattle.sheet.proofs.Runs.{last_of, no_stop}
use Rattle.parts.specs.Got.{NumberRead}
use Rattle.parts.specs.Near.{figure_of, end_of, NearRead}
use Rattle.parts.proofs.Bytes.{at_tab, ends_tab, ends_not}
use Rattle.parts.proofs.Escapes.{ContentFrom, content_starts, content_plain}
use Rattle.parts.proofs.Numbers.{NumberFrom, number_ends, number_below, number_above, number_large, number_on, first_below, first_above, first_on, zero_got, zero_bad}

-- ---- figures
-- a figure is a digit's value, or of a byte before the digits, or of one after them
record Figure (c y : ℕ) : Type 0 where
  low : 48 ≤ c → c ≡ 48 + y
  high : c < 48 → y ≡ c + 4294967248

figures : (c y : ℕ) → y ≡ figure_of c → Figure c y
unfolding figure_of
figures c y e =
    record {
      low = λ h. let k : y ≡ c - 48 = e ∙ simp (le-leb 48 c h) in omega arith;
      high = λ h. e ∙ simp (lt-leb 48 c h);
    }

pub figure_is : (c y : ℕ) → c < 256 → y < 4294967296 → (y + 48) % 4294967296 ≡ c → y ≡ figure_of c
unfolding figure_of
figure_is c y a b e = by_order 48 c (λ h. simp (le-leb 48 c h) (omega arith)) (λ h. simp (lt-leb 48 c h) (omega arith))

-- ---- the end of a number
module _ (y n next : ℕ) where
  pub ends_tab_is : y ≡ 4294967257 → Some (n, next) ≡ end_of y n next
  unfolding end_of
  ends_tab_is e = simp (eq-eqb _ _ e)

  pub ends_other_is : (y ≡ 4294967257 → ⊥) → None ≡ end_of y n next
  unfolding end_of
  ends_other_is e = simp (ne_eqb _ _ e)

  ends_as : (P : Option (ℕ × ℕ) → Type 0) → (y ≡ 4294967257 → P (Some (n, next))) → ((y ≡ 4294967257 → ⊥) → P None) → P (end_of y n next)
  unfolding end_of
  ends_as P f g = pick_either P (eqb y 4294967257) _ _ (λ e. f (eqb-true _ _ e)) (λ e. g (eqb-false _ _ e))

  -- the next field starts near
  ends_near : (k : ℕ) → next ≤ k → (m x : ℕ) → end_of y n next ≡ Some (m, x) → x ≤ k
  ends_near k h m x =
      ends_as (λ (r : Option (ℕ × ℕ)). r ≡ Some (m, x) → x ≤ k) (λ u e. let z : next ≡ x = ap (λ (p : ℕ × ℕ). p.1) (some_inj e) in omega arith) (λ u e. no_some e)

  near_by : (line : List ℕ) (at : ℕ) → next ≤ at + 6 → NumberRead line at (end_of y n next) → (r : Option (ℕ × ℕ)) → r ≡ end_of y n next → NearRead line at r
  near_by line at h p r e = rw e record { reads = p; near = ends_near (at + 6) h }

pub near_ill : {line : List ℕ} {at : ℕ} → NumberRead line at None → NearRead line at None
near_ill p = record { reads = p; near = λ m x e. no_some e }

-- ---- one digit
module _ {line : List ℕ} {at n i : ℕ} (d : NumberFrom line at n i) (h : i < length line) (y : ℕ) (f : y ≡ figure_of (get_or line i 0)) where
  pub digit_on : y ≤ 9 → n * 10 + y ≤ 65535 → NumberFrom line at (n * 10 + y) (i + 1)
  digit_on l m =
      let g = figures _ _ f in
      by_order 48 (get_or line i 0)
      (λ p. let k : y ≡ get_or line i 0 - 48 = omega (arith, g.low p) in rw k (number_on d h p (omega (arith, g.low p)) (omega (arith, g.low p))))
      (λ p. absurd (omega (arith, g.high p)))

  pub digit_large : y ≤ 9 → 65535 < n * 10 + y → NearRead line at None
  digit_large l m =
      let g = figures _ _ f in
      near_ill (by_order 48 (get_or line i 0)
      (λ p. let k : y ≡ get_or line i 0 - 48 = omega (arith, g.low p) in number_large d h p (omega (arith, g.low p)) (rw k at m))
      (λ p. absurd (omega (arith, g.high p))))

  -- where no digit follows that the number could have
  module _ (b : get_or line i 0 < 256) (o : y ≤ 9 → 65535 < n * 10 + y) where
    at_a_tab : y ≡ 4294967257 → NumberRead line at (Some (n, (i + 1)))
    at_a_tab u =
        let g = figures _ _ f in
        by_order 48 (get_or line i 0) (λ p. absurd (omega (arith, g.low p))) (λ p. number_ends d (at_tab line i h (omega (arith, g.high p))))

    at_another : (y ≡ 4294967257 → ⊥) → NumberRead line at None
    at_another u =
        let g = figures _ _ f in
        by_order 48 (get_or line i 0)
        (λ p. by_order (get_or line i 0) 57
        (λ q. let k : y ≡ get_or line i 0 - 48 = omega (arith, g.low p) in
        let l : y ≤ 9 = omega arith in
        number_large d h p q (rw k at (o l)))
        (λ q. number_above d h q))
        (λ p. number_below d h p (λ t. u (omega (arith, g.high p))))

    pub digit_ends : i + 1 ≤ at + 6 → (r : Option (ℕ × ℕ)) → r ≡ end_of y n (i + 1) → NearRead line at r
    digit_ends l = near_by y n (i + 1) line at l (ends_as y n (i + 1) (NumberRead line at) at_a_tab at_another)

-- ---- the first digit
module _ (line : List ℕ) (at : ℕ) (h : at + 1 < length line) (x : ℕ) (f : x ≡ figure_of (get_or line at 0)) where
  inside : at < length line
  inside = omega arith

  pub first_other : 9 < x → NearRead line at None
  first_other l =
      let g = figures _ _ f in
      near_ill (by_order 48 (get_or line at 0) (λ p. first_above line at inside (omega (arith, g.low p))) (λ p. first_below line at inside p))

  pub first_digit : (x ≡ 0 → ⊥) → x ≤ 9 → NumberFrom line at x (at + 1)
  first_digit z l =
      let g = figures _ _ f in
      by_order 48 (get_or line at 0)
      (λ p. let k : x ≡ get_or line at 0 - 48 = omega (arith, g.low p) in
      rw k (first_on line at inside (λ e. z (omega arith)) p (omega (arith, g.low p))))
      (λ p. absurd (omega (arith, g.high p)))

  module _ (z : x ≡ 0) (y : ℕ) (e : y ≡ figure_of (get_or line (at + 1) 0)) (b : get_or line (at + 1) 0 < 256) where
    is_zero : get_or line at 0 ≡ 48
    is_zero = let g = figures _ _ f in by_order 48 (get_or line at 0) (λ p. omega (arith, g.low p)) (λ p. absurd (omega (arith, g.high p)))

    zero_tab : y ≡ 4294967257 → NumberRead line at (Some (0, (at + 1 + 1)))
    zero_tab u =
        let g = figures _ _ e in
        by_order 48 (get_or line (at + 1) 0) (λ p. absurd (omega (arith, g.low p)))
        (λ p. zero_got line at inside is_zero (ends_tab line (at + 1) h (omega (arith, g.high p))) refl)

    zero_other : (y ≡ 4294967257 → ⊥) → NumberRead line at None
    zero_other u =
        let g = figures _ _ e in
        zero_bad line at inside is_zero (ends_not line (at + 1) h (λ t. u (omega (arith, g.high (omega arith))))) refl

    pub zero_ends : (r : Option (ℕ × ℕ)) → r ≡ end_of y 0 (at + 1 + 1) → NearRead line at r
    zero_ends = near_by y 0 (at + 1 + 1) line at (omega arith) (ends_as y 0 (at + 1 + 1) (NumberRead line at) zero_tab zero_other)

-- ---- content
content_runs : (line : List ℕ) (at n : ℕ) → lacks is_stop line at n ≡ true → at + n ≤ length line → ContentFrom line at (at + n)
content_runs line at zero p h = let z : at + 0 ≡ at = omega arith in rw z (content_starts line at (omega arith))
content_runs line at (suc n) p h =
    let a = last_of is_stop line at n p in
    let b = no_stop (get_or line (at + n) 0) a.last in
    let z : at + suc n ≡ at + n + 1 = omega arith in
    rw z (content_plain (content_runs line at n a.before (omega arith)) (omega arith) b.no_tab b.no_slash b.no_cr)

pub content_past : {line : List ℕ} {at r : ℕ} → at ≤ length line → Lacking is_stop line at r → ContentFrom line at r
content_past {line} {at} {r} h a =
    let z : at + (r - at) ≡ r = omega (arith, a.from) in
    let l : at + (r - at) ≤ length line = omega (arith, a.inside h) in
    rw z at (content_runs line at (r - at) a.clean l)
