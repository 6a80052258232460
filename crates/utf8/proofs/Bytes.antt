-- What the tests of bytes say of the definitions.
use mathlib.Core.Path.{◌≡◌, refl, sym}
use mathlib.Core.Bool.{Bool, true, false, not, ◌&&◌, ◌||◌}
use mathlib.Core.List.{List, [], ◌∷◌}
use Prim.Native.Nat.{ℕ, ◌≤◌, ◌<◌, ◌+◌, ◌*◌, ◌%◌}
use native.Mathlib.Omega.{arith}
use lib.Dec.{leb, ltb, eqb}
use lib.ListN.{length, get_or, get_or-eq_default}
use borrow.Author.Tests.{ltb-true, ltb-false, le-leb, lt-leb, eq-eqb, ne_eqb, not-true, not-false}
use Rattle.rules.specs.Basic.{pick}
use Rattle.rules.proofs.Basics.{or_left, or_right, and_true, and_false}
use Rattle.rules.specs.Utf8.{lowest, highest, second, later, sized, is_inside}
use Rattle.std.specs.Prelude.{None, Some}
use Rattle.utf8.specs.Decoding.{char_with, decoded_as}

pub byte_past : (s : List ℕ) (at : ℕ) → length s ≤ at → 0 ≡ get_or s at 0
byte_past s at h = sym (get_or-eq_default s 0 h)

pub inside_byte : (s : List ℕ) (at b : ℕ) (r : Bool) → b ≡ get_or s at 0 → r ≡ later b → r ≡ is_inside s at
unfolding is_inside
inside_byte s at b r e f = rw (← e) f

module _ (a : ℕ) where
  low_e0 : a ≡ 0xe0 → 0xa0 ≡ lowest a
  unfolding lowest
  low_e0 h = simp (eq-eqb a 0xe0 h)

  low_f0 : (a ≡ 0xe0 → ⊥) → a ≡ 0xf0 → 0x90 ≡ lowest a
  unfolding lowest
  low_f0 n h = simp (ne_eqb a 0xe0 n, eq-eqb a 0xf0 h)

  low_else : (a ≡ 0xe0 → ⊥) → (a ≡ 0xf0 → ⊥) → 0x80 ≡ lowest a
  unfolding lowest
  low_else n h = simp (ne_eqb a 0xe0 n, ne_eqb a 0xf0 h)

  high_ed : a ≡ 0xed → 0x9f ≡ highest a
  unfolding highest
  high_ed h = simp (eq-eqb a 0xed h)

  high_f4 : (a ≡ 0xed → ⊥) → a ≡ 0xf4 → 0x8f ≡ highest a
  unfolding highest
  high_f4 n h = simp (ne_eqb a 0xed n, eq-eqb a 0xf4 h)

  high_else : (a ≡ 0xed → ⊥) → (a ≡ 0xf4 → ⊥) → 0xbf ≡ highest a
  unfolding highest
  high_else n h = simp (ne_eqb a 0xed n, ne_eqb a 0xf4 h)

  pub later_low : a < 0x80 → false ≡ later a
  unfolding later
  later_low h = simp (lt-leb 0x80 a h)

  pub later_high : 0x80 ≤ a → leb a 0xbf ≡ later a
  unfolding later
  later_high h = simp (le-leb 0x80 a h)

-- ---- the second byte: outside of 0x80 to 0xbf it is none, and inside four first bytes have one bound of their own

or_other : (t u : Bool) → (t || u) ≡ true → t ≡ false → u ≡ true
or_other true true e f = refl
or_other true false e f = sym f
or_other false u e f = e

lowest_least : (a : ℕ) → 0x80 ≤ lowest a
unfolding lowest
lowest_least a = go (eqb a 0xe0) (eqb a 0xf0)
  where
    go : (t u : Bool) → 0x80 ≤ pick t 0xa0 (pick u 0x90 0x80)
    go true u = omega arith
    go false true = omega arith
    go false false = omega arith

highest_most : (a : ℕ) → highest a ≤ 0xbf
unfolding highest
highest_most a = go (eqb a 0xed) (eqb a 0xf4)
  where
    go : (t u : Bool) → pick t 0x9f (pick u 0x8f 0xbf) ≤ 0xbf
    go true u = omega arith
    go false true = omega arith
    go false false = omega arith

module _ (a b : ℕ) where
  bounds : (l h : ℕ) → l ≡ lowest a → h ≡ highest a → second a b ≡ (leb l b && leb b h)
  unfolding second
  bounds l h e f = rw (e, f)

  pub second_out : (ltb b 0x80 || ltb 0xbf b) ≡ true → false ≡ second a b
  second_out o = go (ltb b 0x80) refl
    where
      go : (t : Bool) → ltb b 0x80 ≡ t → false ≡ second a b
      go true e =
          let l = lt-leb (lowest a) b (omega (arith, ltb-true b 0x80 e, lowest_least a)) in
          rw (bounds (lowest a) (highest a) refl refl, l)
      go false e =
          let g = ltb-true 0xbf b (or_other (ltb b 0x80) (ltb 0xbf b) o e) in
          let h = lt-leb b (highest a) (omega (arith, g, highest_most a)) in
          rw (bounds (lowest a) (highest a) refl refl, h) (sym (and_false (leb (lowest a) b)))

  -- after the first byte of a character of two, any later byte may stand second
  pub later_second : a < 224 → later b ≡ second a b
  unfolding later
  later_second h =
      let l = low_else a (λ e. omega (arith, e)) (λ e. omega (arith, e)) in
      let g = high_else a (λ e. omega (arith, e)) (λ e. omega (arith, e)) in
      sym (bounds 0x80 0xbf l g)

  module _ (i : (ltb b 0x80 || ltb 0xbf b) ≡ false) where
    from : leb 0x80 b ≡ true
    from = le-leb 0x80 b (ltb-false b 0x80 (or_left (ltb b 0x80) (ltb 0xbf b) i))

    to : leb b 0xbf ≡ true
    to = le-leb b 0xbf (ltb-false 0xbf b (or_right (ltb b 0x80) (ltb 0xbf b) i))

    pub second_e0 : a ≡ 0xe0 → leb 0xa0 b ≡ second a b
    second_e0 e =
        let g = high_else a (λ z. omega (arith, e, z)) (λ z. omega (arith, e, z)) in
        rw (bounds 0xa0 0xbf (low_e0 a e) g, to) (sym (and_true (leb 0xa0 b)))

    pub second_ed : a ≡ 0xed → leb b 0x9f ≡ second a b
    second_ed e =
        let l = low_else a (λ z. omega (arith, e, z)) (λ z. omega (arith, e, z)) in
        rw (bounds 0x80 0x9f l (high_ed a e), from)

    pub second_f0 : a ≡ 0xf0 → leb 0x90 b ≡ second a b
    second_f0 e =
        let l = low_f0 a (λ z. omega (arith, e, z)) e in
        let g = high_else a (λ z. omega (arith, e, z)) (λ z. omega (arith, e, z)) in
        rw (bounds 0x90 0xbf l g, to) (sym (and_true (leb 0x90 b)))

    pub second_f4 : a ≡ 0xf4 → leb b 0x8f ≡ second a b
    second_f4 e =
        let l = low_else a (λ z. omega (arith, e, z)) (λ z. omega (arith, e, z)) in
        rw (bounds 0x80 0x8f l (high_f4 a (λ z. omega (arith, e, z)) e), from)

    pub second_else : (a ≡ 0xe0 → ⊥) → (a ≡ 0xed → ⊥) → (a ≡ 0xf0 → ⊥) → (a ≡ 0xf4 → ⊥) → true ≡ second a b
    second_else n o p q = rw (bounds 0x80 0xbf (low_else a n p) (high_else a o q), from, to)

-- ---- characters of two, three and four bytes

module _ (a b : ℕ) (t : Bool) (et : t ≡ second a b) where
  pub two_fault : not t ≡ true → None ≡ decoded_as 2 (sized 2 a (b ∷ []))
  unfolding sized decoded_as
  two_fault n = simp (← et, not-true t n)

  pub two_char : not t ≡ false → (x y : ℕ) → x ≡ a → y ≡ b → Some (char_with (x % 32 * 64 + y % 64) 2) ≡ decoded_as 2 (sized 2 a (b ∷ []))
  unfolding sized decoded_as
  two_char n x y ex ey = rw (ex, ey) (simp (← et, not-false t n))

  module _ (c : ℕ) where
    pub three_fault : not t ≡ true → None ≡ decoded_as 3 (sized 3 a (b ∷ c ∷ []))
    unfolding sized decoded_as
    three_fault n = simp (← et, not-true t n)

    pub four_fault : (d : ℕ) → not t ≡ true → None ≡ decoded_as 4 (sized 4 a (b ∷ c ∷ d ∷ []))
    unfolding sized decoded_as
    four_fault d n = simp (← et, not-true t n)

    module _ (u : Bool) (eu : u ≡ later c) (n : not t ≡ false) where
      pub three_fault_2 : not u ≡ true → None ≡ decoded_as 3 (sized 3 a (b ∷ c ∷ []))
      unfolding sized decoded_as
      three_fault_2 m = simp (← et, not-false t n, ← eu, not-true u m)

      pub three_char : not u ≡ false → (x y z : ℕ) → x ≡ a → y ≡ b → z ≡ c
          → Some (char_with (x % 16 * 4096 + y % 64 * 64 + z % 64) 3) ≡ decoded_as 3 (sized 3 a (b ∷ c ∷ []))
      unfolding sized decoded_as
      three_char m x y z ex ey ez = rw (ex, ey, ez) (simp (← et, not-false t n, ← eu, not-false u m))

      module _ (d : ℕ) where
        pub four_fault_2 : not u ≡ true → None ≡ decoded_as 4 (sized 4 a (b ∷ c ∷ d ∷ []))
        unfolding sized decoded_as
        four_fault_2 m = simp (← et, not-false t n, ← eu, not-true u m)

        module _ (v : Bool) (ev : v ≡ later d) (m : not u ≡ false) where
          pub four_fault_3 : not v ≡ true → None ≡ decoded_as 4 (sized 4 a (b ∷ c ∷ d ∷ []))
          unfolding sized decoded_as
          four_fault_3 o = simp (← et, not-false t n, ← eu, not-false u m, ← ev, not-true v o)

          pub four_char : not v ≡ false → (x y z w : ℕ) → x ≡ a → y ≡ b → z ≡ c → w ≡ d
              → Some (char_with (x % 8 * 262144 + y % 64 * 4096 + z % 64 * 64 + w % 64) 4) ≡ decoded_as 4 (sized 4 a (b ∷ c ∷ d ∷ []))
          unfolding sized decoded_as
          four_char o x y z w ex ey ez ew =
              rw (ex, ey, ez, ew) (simp (← et, not-false t n, ← eu, not-false u m, ← ev, not-false v o))

-- a byte that is missing is 0
pub three_none : (a b : ℕ) → None ≡ decoded_as 3 (sized 3 a (b ∷ 0 ∷ []))
three_none a b = go (second a b) refl
  where
    go : (t : Bool) → t ≡ second a b → None ≡ decoded_as 3 (sized 3 a (b ∷ 0 ∷ []))
    go false e = three_fault a b false e 0 refl
    go true e = three_fault_2 a b true e 0 false (later_low 0 (omega arith)) refl refl

pub ruleset second_cases = (second_out, second_e0, second_ed, second_f0, second_f4, second_else)

pub ruleset three_cases = (three_fault, three_fault_2, three_char)

pub ruleset four_cases = (four_fault, four_fault_2, four_fault_3, four_char)
