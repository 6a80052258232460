-- Characters in a field that their first byte tells enough of: how many bytes they take, that none beyond ASCII is a digit, and
-- which are not White_Space.
use Prim.Native.Nat.{ℕ, suc, pred, ◌+◌, ◌*◌, ◌%◌, ◌≤◌, ◌<◌}
use mathlib.Core.Path.{◌≡◌, refl, ap, sym, ◌∙◌}
use mathlib.Core.Bool.{Bool, true, false, not}
use mathlib.Core.List.{List, ◌∷◌}
use native.Mathlib.Omega.{arith}
use lib.Dec.{eqb, ltb}
use lib.ListN.{length, get_or, drop}
use lib.Seq.{drop-cons, get_or-drop}
use borrow.Author.Tests.{lt-ltb, le-ltb, ltb-true, eqb-true, eqb-false, ne_eqb, not-true}
use Rattle.rules.specs.Inline.{is_no_digit, is_digit_or_point}
use Rattle.rules.specs.Unicode.{is_white_space}
use Rattle.rules.specs.Utf8.{size_of, char_or, followers}
use Rattle.rules.proofs.Ascii.{char_beyond}
use Rattle.rules.proofs.Basics.{pick_either, by_order, no_truth, within_high}
use Rattle.rules.proofs.Begins.{Begins, one, two, three, four, first_some, size_1, size_2, size_3, size_4, second_from, second_to, later_from, later_to}
use Rattle.rules.proofs.Chars.{starts, well_utf8}
use Rattle.rules.proofs.Encodes.{least_3, least_4}
use Rattle.letters.proofs.Ascii.{ascii_white_lem}
use Rattle.letters.proofs.Still.{no_white, past_white}
use Rattle.utf8.specs.declared.Char.{Char}
use Rattle.utf8.specs.Reading.{char_of}
use Rattle.content.specs.Readings.{char_in}
use Rattle.content.specs.Parts.{Field}
use Rattle.content.proofs.Chars.{content_step, char_plain}
use Rattle.inline.specs.Scans.{is_not_white, lead_size, is_solid, is_solid_e3, Front}
use Rattle.inline.proofs.Scans.{Going, going_stop, going_on}

-- ---- `lead_size` and `is_solid` by cases

module _ (a : ℕ) where
  lead_one : a < 128 → 1 ≡ lead_size a
  unfolding lead_size
  lead_one h = rw (lt-ltb a 128 h)

  lead_two : 128 ≤ a → a < 224 → 2 ≡ lead_size a
  unfolding lead_size
  lead_two l h = rw (le-ltb a 128 l, lt-ltb a 224 h)

  lead_three : 128 ≤ a → 224 ≤ a → a < 240 → 3 ≡ lead_size a
  unfolding lead_size
  lead_three l h g = rw (le-ltb a 128 l, le-ltb a 224 h, lt-ltb a 240 g)

  lead_four : 128 ≤ a → 224 ≤ a → 240 ≤ a → 4 ≡ lead_size a
  unfolding lead_size
  lead_four l h g = rw (le-ltb a 128 l, le-ltb a 224 h, le-ltb a 240 g)

  solid_blank : a < 128 → a < 33 → false ≡ is_solid a
  unfolding is_solid
  solid_blank h g = rw (lt-ltb a 128 h, lt-ltb a 33 g)

  solid_ascii : a < 128 → 33 ≤ a → not (eqb a 92) ≡ is_solid a
  unfolding is_solid
  solid_ascii h g = rw (lt-ltb a 128 h, le-ltb a 33 g)

  solid_low : 128 ≤ a → a < 225 → not (eqb a 194) ≡ is_solid a
  unfolding is_solid
  solid_low h g = rw (le-ltb a 128 h, lt-ltb a 225 g)

  solid_high : 128 ≤ a → 225 ≤ a → ltb 227 a ≡ is_solid a
  unfolding is_solid
  solid_high h g = rw (le-ltb a 128 h, le-ltb a 225 g)

-- ---- the character

lead_begins : {a : ℕ} {s : List ℕ} {c : ℕ} → Begins a s c → suc (pred (size_of a)) ≡ lead_size a
lead_begins (one {a} h) = rw (size_1 a h) (lead_one a (omega arith))
lead_begins (two {a} h g q) = rw (size_2 a h g) (lead_two a (omega arith) (omega arith))
lead_begins (three {a} h g q m) = rw (size_3 a h g) (lead_three a (omega arith) (omega arith) (omega arith))
lead_begins (four {a} h g q m n) = rw (size_4 a h g) (lead_four a (omega arith) (omega arith) (omega arith))

-- what a field starts with whose first byte is no backslash
record Lead (ch : Char) (a : ℕ) (s : List ℕ) : Type 0 where
  size_is : ch.size ≡ lead_size a
  begin : Begins a s ch.code

lead_of : {a : ℕ} {s : List ℕ} {c : ℕ} → Begins a s c → Lead (char_of (a ∷ s)) a s
unfolding char_of char_or followers
lead_of g = record { size_is = rw (first_some g) (lead_begins g); begin = rw (first_some g) g }

lead_first : (a : ℕ) (s : List ℕ) → Field (a ∷ s) → (a ≡ 92 → ⊥) → Lead (char_in (a ∷ s)) a s
lead_first a s w n = rw (char_plain a s n) (lead_of (starts a s (sym (well_utf8 (a ∷ s)) ∙ w.utf8)).is)

-- ---- a character is passed

pub record Passed (p : ℕ → Bool) (s : List ℕ) (at i n : ℕ) : Type 0 where
  pub least : 0 < n
  pub most : i + n ≤ length s
  pub still : Going p s at (i + n)

passed : {p : ℕ → Bool} {s : List ℕ} {at i n : ℕ} → Going p s at i → i < length s → (get_or s i 0 ≡ 92 → ⊥)
    → ((c : ℕ) → Begins (get_or s i 0) (drop (suc i) s) c → p c ≡ true) → n ≡ lead_size (get_or s i 0) → Passed p s at i n
passed {p} {s} {at} {i} {n} g h b f e =
    let v : Field (get_or s i 0 ∷ drop (suc i) s) = rw (drop-cons s i 0 h) at g.left in
    let w : Lead (char_in (drop i s)) (get_or s i 0) (drop (suc i) s) = rw (drop-cons s i 0 h) (lead_first (get_or s i 0) (drop (suc i) s) v b) in
    let z : (char_in (drop i s)).size ≡ n = w.size_is ∙ sym e in
    let k = content_step s i (char_in (drop i s)) h refl in
    record { least = omega (arith, k.least, z); most = omega (arith, k.most, z); still = rw z at (going_on g (char_in (drop i s)) h refl (f _ w.begin)) }

-- a front ends before such a character
stopped : {p : ℕ → Bool} {s : List ℕ} {at i : ℕ} → Going p s at i → i < length s → (get_or s i 0 ≡ 92 → ⊥)
    → ((c : ℕ) → Begins (get_or s i 0) (drop (suc i) s) c → p c ≡ false) → Front p s at i
stopped {p} {s} {at} {i} g h b f =
    let v : Field (get_or s i 0 ∷ drop (suc i) s) = rw (drop-cons s i 0 h) at g.left in
    let w : Lead (char_in (drop i s)) (get_or s i 0) (drop (suc i) s) = rw (drop-cons s i 0 h) (lead_first (get_or s i 0) (drop (suc i) s) v b) in
    going_stop g (char_in (drop i s)) h refl (f _ w.begin)

-- beyond ASCII there is no digit
no_digit : {a : ℕ} {s : List ℕ} {c : ℕ} → 128 ≤ a → Begins a s c → is_no_digit c ≡ true
unfolding is_no_digit char_or
no_digit {a} {s} {c} l b = let h : 128 ≤ c = rw (first_some b) at (char_beyond a s l) in rw (within_high 48 57 c (omega arith))

pub wide_passed : {s : List ℕ} {at i n : ℕ} → Going is_no_digit s at i → i < length s → 128 ≤ get_or s i 0 → n ≡ lead_size (get_or s i 0) → Passed is_no_digit s at i n
wide_passed g h l e = passed g h (λ q. omega arith) (λ _ b. no_digit l b) e

beyond_digits : {a : ℕ} {s : List ℕ} {c : ℕ} → 128 ≤ a → Begins a s c → is_digit_or_point c ≡ false
unfolding is_digit_or_point char_or
beyond_digits {a} {s} {c} l b = let h : 128 ≤ c = rw (first_some b) at (char_beyond a s l) in rw (within_high 48 57 c (omega arith), ne_eqb c 46 (λ q. omega arith))

pub wide_stops : {s : List ℕ} {at i : ℕ} → Going is_digit_or_point s at i → i < length s → 128 ≤ get_or s i 0 → Front is_digit_or_point s at i
wide_stops g h l = stopped g h (λ q. omega arith) (λ _ b. beyond_digits l b)

-- ---- what starts with a solid byte

-- which bytes those are
record Solid (a : ℕ) : Type 0 where
  printed : 33 ≤ a
  plain : a ≡ 92 → ⊥
  low : a ≡ 194 → ⊥
  high : 225 ≤ a → 227 < a

solid_is : (a : ℕ) → is_solid a ≡ true → Solid a
solid_is a e =
    by_order 128 a
    (λ h. by_order 225 a
    (λ g. let k = ltb-true 227 a (solid_high a h g ∙ e) in record { printed = omega arith; plain = λ q. omega arith; low = λ q. omega arith; high = λ _. k })
    (λ g. record { printed = omega arith; plain = λ q. omega arith; low = eqb-false a 194 (not-true (eqb a 194) (solid_low a h g ∙ e)); high = λ l. absurd (omega arith) }))
    (λ h. by_order 33 a
    (λ g. record { printed = g; plain = eqb-false a 92 (not-true (eqb a 92) (solid_ascii a h g ∙ e)); low = λ q. omega arith; high = λ l. absurd (omega arith) })
    (λ g. no_truth (solid_blank a h g ∙ e)))

-- it is no White_Space
solid_white : {a : ℕ} {s : List ℕ} {c : ℕ} → Solid a → Begins a s c → is_white_space c ≡ false
solid_white v (one {a} h) =
    let k = v.printed in
    sym (ascii_white_lem a (omega arith)) ∙ rw (ne_eqb a 32 (λ q. omega arith)) (within_high 9 13 a (omega arith))
solid_white v (two {a} {b} h g q) =
    let n : 195 ≤ a = by_order 195 a (λ l. l) (λ l. absurd (v.low (omega arith))) in
    pair (a % 32) (b % 64) (omega arith) (omega arith) (omega arith)
  where
    pair : (x y : ℕ) → 3 ≤ x → x < 32 → y < 64 → is_white_space (x * 64 + y) ≡ false
    pair x y h g k = sym (no_white (x * 64 + y) (omega arith) (omega arith))
solid_white v (three {a} {b} {d} h g q k) =
    by_order 225 a
    (λ l. let n = v.high l in later_triple (a % 16) (b % 64) (d % 64) (omega arith) (omega arith) (omega arith) (omega arith))
    (λ l. let z : a % 16 ≡ 0 = omega arith in first_triple (a % 16) (b % 64) (d % 64) z (least_3 a b h g q) (omega arith) (omega arith))
  where
    later_triple : (x y z : ℕ) → 4 ≤ x → x < 16 → y < 64 → z < 64 → is_white_space (x * 4096 + y * 64 + z) ≡ false
    later_triple x y z h i j k = sym (past_white (x * 4096 + y * 64 + z) (omega arith) (omega arith))

    first_triple : (x y z : ℕ) → x ≡ 0 → 32 ≤ x * 64 + y → y < 64 → z < 64 → is_white_space (x * 4096 + y * 64 + z) ≡ false
    first_triple x y z h i j k = sym (no_white (x * 4096 + y * 64 + z) (omega arith) (omega arith))
solid_white v (four {a} {b} {d} {g} h i q k j) =
    quad (a % 8) (b % 64) (d % 64) (g % 64) (least_4 a b h i q) (omega arith) (omega arith) (omega arith) (omega arith)
  where
    quad : (x y z w : ℕ) → 16 ≤ x * 64 + y → x < 8 → y < 64 → z < 64 → w < 64 → is_white_space (x * 262144 + y * 4096 + z * 64 + w) ≡ false
    quad x y z w h i j k l = sym (past_white (x * 262144 + y * 4096 + z * 64 + w) (omega arith) (omega arith))

pub solid_passed : {s : List ℕ} {at i n : ℕ} {t : Bool} → Going is_not_white s at i → i < length s → t ≡ is_solid (get_or s i 0) → t ≡ true
    → n ≡ lead_size (get_or s i 0) → Passed is_not_white s at i n
unfolding is_not_white
solid_passed {s} {at} {i} {n} g h q t e =
    let v = solid_is (get_or s i 0) (sym q ∙ t) in
    passed g h v.plain (λ _ b. rw (solid_white v b)) e

pub solid_stops : {s : List ℕ} {at i : ℕ} {t : Bool} → Going is_white_space s at i → i < length s → t ≡ is_solid (get_or s i 0) → t ≡ true → Front is_white_space s at i
solid_stops {s} {at} {i} g h q t = let v = solid_is (get_or s i 0) (sym q ∙ t) in stopped g h v.plain (λ _ b. solid_white v b)

-- ---- what starts with e3

record E3 (s : List ℕ) (i : ℕ) : Type 0 where
  first : get_or s i 0 ≡ 227
  after : get_or s (i + 1) 0 ≡ 128 → get_or s (i + 2) 0 ≡ 128 → ⊥

e3_is : (s : List ℕ) (i : ℕ) → is_solid_e3 s i ≡ true → E3 s i
unfolding is_solid_e3
e3_is s i =
    pick_either P (eqb (get_or s i 0) 227) _ _
    (λ f. pick_either P (eqb (get_or s (i + 1) 0) 128) _ _
    (λ _ t. record { first = eqb-true (get_or s i 0) 227 f; after = λ _. eqb-false (get_or s (i + 2) 0) 128 (not-true (eqb (get_or s (i + 2) 0) 128) t) })
    (λ n _. record { first = eqb-true (get_or s i 0) 227 f; after = λ e _. eqb-false (get_or s (i + 1) 0) 128 n e }))
    (λ _ t. no_truth t)
  where
    P : Bool → Type 0
    P x = x ≡ true → E3 s i

-- it is beyond U+3000
e3_white : {a : ℕ} {s : List ℕ} {c : ℕ} → a ≡ 227 → (get_or s 0 0 ≡ 128 → get_or s 1 0 ≡ 128 → ⊥) → Begins a s c → is_white_space c ≡ false
e3_white e n (one h) = absurd (omega arith)
e3_white e n (two h g q) = absurd (omega arith)
e3_white e n (three {a} {b} {d} h g q k) =
    let l = second_from a b q in let u = second_to a b q in let m = later_from d k in let v = later_to d k in
    let z : a % 16 ≡ 3 = omega arith in
    let w : 1 ≤ b % 64 + d % 64 = by_order 129 b (λ f. omega arith) (λ f. by_order 129 d (λ j. omega arith) (λ j. absurd (n (omega arith) (omega arith)))) in
    beyond (a % 16) (b % 64) (d % 64) z w (omega arith) (omega arith)
  where
    beyond : (x y z : ℕ) → x ≡ 3 → 1 ≤ y + z → y < 64 → z < 64 → is_white_space (x * 4096 + y * 64 + z) ≡ false
    beyond x y z h i j k = sym (past_white (x * 4096 + y * 64 + z) (omega arith) (omega arith))
e3_white e n (four h i q k j) = absurd (omega arith)

pub e3_passed : {s : List ℕ} {at i : ℕ} {t : Bool} → Going is_not_white s at i → i < length s → t ≡ is_solid_e3 s i → t ≡ true → Passed is_not_white s at i 3
unfolding is_not_white
e3_passed {s} {at} {i} g h q t =
    let v = e3_is s i (sym q ∙ t) in
    let b : get_or (drop (suc i) s) 0 0 ≡ get_or s (i + 1) 0 = get_or-drop (suc i) s 0 0 ∙ ap (λ (k : ℕ). get_or s k 0) (omega arith) in
    let d : get_or (drop (suc i) s) 1 0 ≡ get_or s (i + 2) 0 = get_or-drop (suc i) s 1 0 ∙ ap (λ (k : ℕ). get_or s k 0) (omega arith) in
    let f = v.first in
    passed g h (λ e. omega arith) (λ _ c. rw (e3_white f (λ x y. v.after (sym b ∙ x) (sym d ∙ y)) c)) (lead_three (get_or s i 0) (omega arith) (omega arith) (omega arith))
