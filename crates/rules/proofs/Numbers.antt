-- Numbers in decimal: what is written reads back, and what was read writes back.
use Prim.Native.Nat.{ℕ, zero, suc, ◌+◌, ◌-◌, ◌*◌, ◌/◌, ◌%◌, ◌^◌, ◌≤◌, ◌<◌}
use mathlib.Core.Path.{◌≡◌, refl, sym, ap, ◌∙◌}
use mathlib.Core.List.{List, [], ◌∷◌, ◌++◌, append_assoc, append-nil}
use mathlib.Core.Bool.{Bool, true, false}
use Rattle.std.specs.Prelude.{Option, None, Some}
use native.Mathlib.Omega.{arith}
use native.Mathlib.Nat.{pow-suc}
use lib.Dec.{eqb, leb, ltb}
use borrow.Author.Tests.{ltb-true, ltb-false, leb-true, eqb-true, eqb-false, lt-ltb, le-ltb, le-leb, ne_eqb}
use Rattle.rules.specs.Basic.{pick, tab, lf, cr, backslash, minus, is_digit, digits, decimal}
use Rattle.rules.specs.Sheet.{digits_from, at_most, only_zero, number_up_to, escape, Without, without_none, without_more}
use Rattle.rules.proofs.Basics.{pick_either, no_some, some_inj, within_from, within_to}
use Rattle.rules.proofs.Fields.{without_both, escape_plain}

-- ---- the digits of a number, from the last one

more_digits : (k n : ℕ) → n < 10 ^ suc k → digits (suc (suc k)) n ≡ digits (suc k) n
unfolding digits
more_digits zero n h = simp (lt-ltb n 10 h)
more_digits (suc k) n h = by (ltb n 10) (more_digits k (n / 10) (omega (arith, pow-suc 10 (suc k))))
  where
    by : (t : Bool) → digits (suc (suc k)) (n / 10) ≡ digits (suc k) (n / 10)
        → pick t ((48 + n) ∷ []) (digits (suc (suc k)) (n / 10) ++ ((48 + n % 10) ∷ [])) ≡ pick t ((48 + n) ∷ []) (digits (suc k) (n / 10) ++ ((48 + n % 10) ∷ []))
    by true e = refl
    by false e = rw e

pub decimal_one : (n : ℕ) → n < 10 → decimal n ≡ (48 + n) ∷ []
unfolding decimal digits
decimal_one n h = simp (lt-ltb n 10 h)

pub decimal_more : (n : ℕ) → n < 2 ^ 32 → 10 ≤ n → decimal n ≡ decimal (n / 10) ++ ((48 + n % 10) ∷ [])
unfolding decimal digits
decimal_more n f h = simp (le-ltb n 10 h) (rw (more_digits 8 (n / 10) (omega arith)))

-- ---- what is written reads back

abbrev pub pow10 : ℕ → ℕ
pow10 zero = 1
pow10 (suc k) = pow10 k * 10

digit_read : (m d : ℕ) (s : List ℕ) → d < 10 → digits_from m ((48 + d) ∷ s) ≡ digits_from (m * 10 + d) s
unfolding digits_from
digit_read m d s h = rw (le-leb 48 (48 + d) (omega arith), le-leb (48 + d) 57 (omega arith)) (ap (λ (x : ℕ). digits_from x s) (omega arith))

digits_read : (k n : ℕ) (s : List ℕ) → n < pow10 k → digits_from 0 (digits k n ++ s) ≡ digits_from n s
unfolding digits
digits_read zero n s h = ap (λ (x : ℕ). digits_from x s) (omega arith)
digits_read (suc k) n s h =
    pick_either (λ (l : List ℕ). digits_from 0 (l ++ s) ≡ digits_from n s) (ltb n 10) _ _
    (λ b. digit_read 0 n s (ltb-true n 10 b) ∙ ap (λ (x : ℕ). digits_from x s) (omega arith))
    (λ b. ap (digits_from 0) (append_assoc (digits k (n / 10)) ((48 + n % 10) ∷ []) s)
    ∙ digits_read k (n / 10) ((48 + n % 10) ∷ s) (omega arith) ∙ digit_read (n / 10) (n % 10) s (omega arith) ∙ ap (λ (x : ℕ). digits_from x s) (omega arith))

-- the first digit of a number that is not 0
pub record Leading (l : List ℕ) : Type 0 where
  pub head : ℕ
  pub tail : List ℕ
  pub is : l ≡ head ∷ tail
  pub not_zero : eqb head 48 ≡ false
  pub not_minus : eqb head minus ≡ false

pub digits_lead : (k n : ℕ) → n < pow10 k → 0 < n → Leading (digits k n)
unfolding digits
digits_lead zero n h p = absurd (omega arith)
digits_lead (suc k) n h p =
    pick_either Leading (ltb n 10) _ _ (λ b. record { head = 48 + n; tail = []; is = refl; not_zero = ne_eqb (48 + n) 48 (λ q. omega arith); not_minus = ne_eqb (48 + n) 45 (λ q. omega arith) })
    (λ b. let m : 10 ≤ n = ltb-false n 10 b in let r : Leading (digits k (n / 10)) = digits_lead k (n / 10) (omega arith) (omega arith) in
    record { head = r.head; tail = r.tail ++ ((48 + n % 10) ∷ []); is = ap (λ (l : List ℕ). l ++ ((48 + n % 10) ∷ [])) r.is; not_zero = r.not_zero; not_minus = r.not_minus })

lead_read : (m : ℕ) (l : List ℕ) → Leading l → number_up_to m l ≡ at_most m (digits_from 0 l)
unfolding number_up_to
lead_read m l r = rw (r.is, r.not_zero)

pub number_decimal : (m n : ℕ) → n ≤ m → m ≤ 65535 → number_up_to m (decimal n) ≡ Some n
unfolding decimal digits_from at_most
number_decimal m zero h b = unfold number_up_to only_zero digits in refl
number_decimal m (suc n) h b =
    lead_read m (digits 10 (suc n)) (digits_lead 10 (suc n) (omega arith) (omega arith))
    ∙ ap (at_most m) (ap (digits_from 0) (sym (append-nil (digits 10 (suc n)))) ∙ digits_read 10 (suc n) [] (omega arith)) ∙ rw (le-leb (suc n) m h)

-- ---- what was read writes back

pub most : (m n : ℕ) (o : Option ℕ) → at_most m o ≡ Some n → (n ≤ m) × (o ≡ Some n)
unfolding at_most
most m n None q = no_some q
most m n (Some k) q =
    pick_either (λ (o : Option ℕ). o ≡ Some n → (n ≤ m) × (Some k ≡ Some n)) (leb k m) _ _
    (λ b r. let e : k ≡ n = some_inj r in let g : k ≤ m = leb-true k m b in (omega arith, r)) (λ b r. no_some r) q

only_zero_lem : (n : ℕ) (s : List ℕ) → only_zero s ≡ Some n → (n ≡ 0) × (s ≡ [])
unfolding only_zero
only_zero_lem n [] q = (sym (some_inj q), refl)
only_zero_lem n (c ∷ s) q = no_some q

pub number_small : (m n : ℕ) (f : List ℕ) → number_up_to m f ≡ Some n → n ≤ m
unfolding number_up_to
number_small m n [] q = no_some q
number_small m n (c ∷ s) q =
    pick_either (λ (o : Option ℕ). o ≡ Some n → n ≤ m) (eqb c 48) _ _ (λ b r. let e = (only_zero_lem n s r).0 in omega arith)
    (λ b r. (most m n (digits_from 0 (c ∷ s)) r).0) q

digits_grow : (a n : ℕ) (s : List ℕ) → digits_from a s ≡ Some n → a ≤ n
unfolding digits_from
digits_grow a n [] q = let e : a ≡ n = some_inj q in omega arith
digits_grow a n (c ∷ s) q =
    pick_either (λ (o : Option ℕ). o ≡ Some n → a ≤ n) (is_digit c) _ _
    (λ b r. let h = digits_grow (a * 10 + (c - 48)) n s r in omega arith) (λ b r. no_some r) q

digits_back : (a n : ℕ) (s : List ℕ) → 0 < a → n < 2 ^ 32 → digits_from a s ≡ Some n → decimal n ≡ decimal a ++ s
unfolding digits_from
digits_back a n [] p f q = rw (append-nil, some_inj q)
digits_back a n (c ∷ s) p f q =
    pick_either (λ (o : Option ℕ). o ≡ Some n → decimal n ≡ decimal a ++ (c ∷ s)) (is_digit c) _ _
    (λ b r. step b r (digits_back (a * 10 + (c - 48)) n s (first b) f r)) (λ b r. no_some r) q
  where
    first : is_digit c ≡ true → 0 < a * 10 + (c - 48)
    first b = omega arith

    step : is_digit c ≡ true → digits_from (a * 10 + (c - 48)) s ≡ Some n → decimal n ≡ decimal (a * 10 + (c - 48)) ++ s → decimal n ≡ decimal a ++ (c ∷ s)
    step b r ih =
        let lo = within_from 48 57 c b in
        let hi = within_to 48 57 c b in
        let g = digits_grow (a * 10 + (c - 48)) n s r in
        let u : a * 10 + (c - 48) < 2 ^ 32 = omega arith in
        let v : 10 ≤ a * 10 + (c - 48) = omega arith in
        let d : (a * 10 + (c - 48)) / 10 ≡ a = omega arith in
        let e : 48 + (a * 10 + (c - 48)) % 10 ≡ c = omega arith in
        ih ∙ rw (decimal_more (a * 10 + (c - 48)) u v, d, e, append_assoc)

-- a number as it stands in a sheet is the decimal spelling of its value
pub decimal_number : (m n : ℕ) (f : List ℕ) → m ≤ 65535 → number_up_to m f ≡ Some n → decimal n ≡ f
unfolding number_up_to digits_from
decimal_number m n [] b q = no_some q
decimal_number m n (c ∷ s) b q =
    pick_either (λ (o : Option ℕ). o ≡ Some n → decimal n ≡ c ∷ s) (eqb c 48) _ _
    (λ z r. let o = only_zero_lem n s r in rw (o.0, o.1, eqb-true c 48 z) (decimal_one 0 (omega arith)))
    (λ z r. let o = most m n _ r in
    pick_either (λ (o : Option ℕ). o ≡ Some n → decimal n ≡ c ∷ s) (is_digit c) _ _ (step (eqb-false c 48 z) o.0) (λ d e. no_some e) o.1)
    q
  where
    step : (c ≡ 48 → ⊥) → n ≤ m → is_digit c ≡ true → digits_from (0 * 10 + (c - 48)) s ≡ Some n → decimal n ≡ c ∷ s
    step z l d r =
        let lo = within_from 48 57 c d in
        let hi = within_to 48 57 c d in
        let p : 0 < 0 * 10 + (c - 48) = omega arith in
        let k : 0 * 10 + (c - 48) < 10 = omega arith in
        let e : 48 + (0 * 10 + (c - 48)) ≡ c = omega arith in
        digits_back (0 * 10 + (c - 48)) n s p (omega arith) r ∙ rw (decimal_one (0 * 10 + (c - 48)) k, e)

-- ---- a number has nothing to escape

digits_without : (b k n : ℕ) → ((d : ℕ) → d < 10 → eqb (48 + d) b ≡ false) → Without b (digits k n)
unfolding digits
digits_without b zero n h = without_none
digits_without b (suc k) n h =
    pick_either (Without b) (ltb n 10) _ _ (λ e. without_more (h n (ltb-true n 10 e)) without_none)
    (λ e. without_both (digits_without b k (n / 10) h) (without_more (h (n % 10) (omega arith)) without_none))

pub escape_decimal : (n : ℕ) → escape (decimal n) ≡ decimal n
unfolding decimal
escape_decimal n =
    escape_plain
    (digits_without backslash 10 n (λ d h. ne_eqb (48 + d) 92 (λ q. omega arith)))
    (digits_without tab 10 n (λ d h. ne_eqb (48 + d) 9 (λ q. omega arith)))
    (digits_without lf 10 n (λ d h. ne_eqb (48 + d) 10 (λ q. omega arith)))
    (digits_without cr 10 n (λ d h. ne_eqb (48 + d) 13 (λ q. omega arith)))
