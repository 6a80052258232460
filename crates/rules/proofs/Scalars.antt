-- Scalar values: what bytes read as is such, whatever the bytes are.
use Prim.Native.Nat.{ℕ, zero, suc, ◌+◌, ◌*◌, ◌%◌, ◌≤◌, ◌<◌}
use mathlib.Core.Path.{◌≡◌, refl, sym}
use mathlib.Core.List.{List, [], ◌∷◌}
use mathlib.Core.Bool.{Bool, true, false}
use Rattle.std.specs.Prelude.{Option, None, Some}
use native.Mathlib.Omega.{arith}
use lib.Dec.{eqb, leb, ltb}
use borrow.Author.Tests.{ltb-true, ltb-false, leb-false, eqb-true, eqb-false, le-leb}
use Rattle.rules.specs.Utf8.{Scalar, second, first_of, char_or, followers, chars_from, chars}
use Rattle.rules.proofs.Basics.{no_truth, within_low, within_high}
use Rattle.rules.proofs.Begins.{Begins, one, two, three, four, begins, low_at, high_at}

pub data Scalars : List ℕ → Type 0 where
  scalars_none : Scalars []
  scalars_more : {c : ℕ} {s : List ℕ} → Scalar c → Scalars s → Scalars (c ∷ s)

pub low_scalar : (c : ℕ) → c < 55296 → Scalar c
low_scalar c h = record { top = omega arith; gap = within_low 55296 57343 c h }

pub high_scalar : (c : ℕ) → 57343 < c → c < 1114112 → Scalar c
high_scalar c h g = record { top = g; gap = within_high 55296 57343 c h }

pub scalar_low : (c : ℕ) → Scalar c → c < 57344 → c < 55296
scalar_low c s h = go (leb 55296 c) refl
  where
    go : (x : Bool) → leb 55296 c ≡ x → c < 55296
    go true p = no_truth (sym (rw (p, le-leb c 57343 (omega arith)) at s.gap))
    go false p = leb-false 55296 c p

-- ---- what is read is a scalar value

value_3 : (x y z : ℕ) → x < 13 → y < 64 → z < 64 → x * 4096 + y * 64 + z < 55296
value_3 x y z h g i = omega arith

value_13 : (y z : ℕ) → y < 32 → z < 64 → 13 * 4096 + y * 64 + z < 55296
value_13 y z g i = omega arith

value_15 : (x y z : ℕ) → 13 < x → x < 16 → y < 64 → z < 64 → Scalar (x * 4096 + y * 64 + z)
value_15 x y z h g i j = high_scalar _ (omega arith) (omega arith)

scalar_3 : (a b d : ℕ) → 224 ≤ a → a ≤ 239 → second a b ≡ true → Scalar (a % 16 * 4096 + b % 64 * 64 + d % 64)
scalar_3 a b d h g q = go (ltb a 237) refl (eqb a 237) refl
  where
    go : (x : Bool) → ltb a 237 ≡ x → (y : Bool) → eqb a 237 ≡ y → Scalar (a % 16 * 4096 + b % 64 * 64 + d % 64)
    go true p y r =
        low_scalar _ (value_3 (a % 16) (b % 64) (d % 64) (let i : a < 237 = ltb-true a 237 p in omega arith) (omega arith) (omega arith))
    go false p true r =
        let e : a ≡ 237 = eqb-true a 237 r in
        let l : 128 ≤ b = low_at a b 128 q (rw e) in
        let u : b ≤ 159 = high_at a b 159 q (rw e) in
        let m : a % 16 ≡ 13 = rw e in
        rw m (low_scalar _ (value_13 (b % 64) (d % 64) (omega arith) (omega arith)))
    go false p false r =
        let i : 237 ≤ a = ltb-false a 237 p in
        let n : a ≡ 237 → ⊥ = eqb-false a 237 r in
        let j : 237 < a = omega (arith, n) in
        value_15 (a % 16) (b % 64) (d % 64) (omega arith) (omega arith) (omega arith) (omega arith)

value_4 : (x y z w : ℕ) → 0 < x → x < 4 → y < 64 → z < 64 → w < 64 → Scalar (x * 262144 + y * 4096 + z * 64 + w)
value_4 x y z w h g i j k = high_scalar _ (omega arith) (omega arith)

value_40 : (y z w : ℕ) → 16 ≤ y → y < 64 → z < 64 → w < 64 → Scalar (0 * 262144 + y * 4096 + z * 64 + w)
value_40 y z w h i j k = high_scalar _ (omega arith) (omega arith)

value_44 : (y z w : ℕ) → y < 16 → z < 64 → w < 64 → Scalar (4 * 262144 + y * 4096 + z * 64 + w)
value_44 y z w i j k = high_scalar _ (omega arith) (omega arith)

scalar_4 : (a b d g : ℕ) → 240 ≤ a → a ≤ 244 → second a b ≡ true → Scalar (a % 8 * 262144 + b % 64 * 4096 + d % 64 * 64 + g % 64)
scalar_4 a b d g h u q = go (eqb a 240) refl (eqb a 244) refl
  where
    go : (x : Bool) → eqb a 240 ≡ x → (y : Bool) → eqb a 244 ≡ y → Scalar (a % 8 * 262144 + b % 64 * 4096 + d % 64 * 64 + g % 64)
    go true p y r =
        let e : a ≡ 240 = eqb-true a 240 p in
        let l : 144 ≤ b = low_at a b 144 q (rw e) in
        let v : b ≤ 191 = high_at a b 191 q (rw e) in
        let m : a % 8 ≡ 0 = rw e in
        rw m (value_40 (b % 64) (d % 64) (g % 64) (omega arith) (omega arith) (omega arith) (omega arith))
    go false p true r =
        let e : a ≡ 244 = eqb-true a 244 r in
        let l : 128 ≤ b = low_at a b 128 q (rw e) in
        let v : b ≤ 143 = high_at a b 143 q (rw e) in
        let m : a % 8 ≡ 4 = rw e in
        rw m (value_44 (b % 64) (d % 64) (g % 64) (omega arith) (omega arith) (omega arith))
    go false p false r =
        let n : a ≡ 240 → ⊥ = eqb-false a 240 p in
        let o : a ≡ 244 → ⊥ = eqb-false a 244 r in
        let i : 240 < a = omega (arith, n) in
        let j : a < 244 = omega (arith, o) in
        value_4 (a % 8) (b % 64) (d % 64) (g % 64) (omega arith) (omega arith) (omega arith) (omega arith) (omega arith)

pub begins_scalar : {a : ℕ} {s : List ℕ} {c : ℕ} → Begins a s c → Scalar c
begins_scalar (one {a} h) = low_scalar a (omega arith)
begins_scalar (two {a} {b} h g q) = low_scalar _ (pair (a % 32) (b % 64) (omega arith) (omega arith))
  where
    pair : (x y : ℕ) → x < 32 → y < 64 → x * 64 + y < 55296
    pair x y h g = omega arith
begins_scalar (three {a} {b} {d} h g q l) = scalar_3 a b d h g q
begins_scalar (four {a} {b} {d} {g} h u q l m) = scalar_4 a b d g h u q

-- U+FFFD too is one, so any bytes read as scalar values
pub char_scalar : (a : ℕ) (s : List ℕ) → Scalar (char_or (first_of a s))
char_scalar a s = go (first_of a s) refl
  where
    go : (o : Option ℕ) → first_of a s ≡ o → Scalar (char_or o)
    go None e = unfold char_or in high_scalar 0xfffd (omega arith) (omega arith)
    go (Some c) e = unfold char_or in begins_scalar (begins a s c e)

from_scalars : (k : ℕ) (s : List ℕ) → Scalars (chars_from k s)
unfolding chars_from
from_scalars k [] = scalars_none
from_scalars (suc k) (a ∷ s) = from_scalars k s
from_scalars zero (a ∷ s) = scalars_more (char_scalar a s) (from_scalars (followers a (first_of a s)) s)

pub chars_scalars : (bs : List ℕ) → Scalars (chars bs)
unfolding chars
chars_scalars bs = from_scalars 0 bs
