-- Runs of ASCII.
use Prim.Native.Nat.{ℕ, zero, suc, ◌+◌, ◌-◌, ◌≤◌, ◌<◌}
use mathlib.Core.Path.{◌≡◌, refl, sym}
use mathlib.Core.Bool.{Bool, true, false, not}
use mathlib.Core.List.{List}
use native.Mathlib.Numerals.{add-one}
use native.Mathlib.Omega.{arith}
use borrow.Author.Tests.{leb-false, le-leb, lt-leb}
use lib.Dec.{leb}
use lib.ListN.{length, get_or, drop}
use Rattle.rules.specs.Basic.{pick}
use Rattle.rules.specs.Utf8.{fault_from, first_fault}
use Rattle.rules.proofs.Basics.{no_truth}
use Rattle.utf8.specs.Checking.{ascii_for, AsciiTo}
use Rattle.utf8.proofs.Turns.{ascii_on}

-- ---- byte by byte

pub run_none : (s : List ℕ) (at : ℕ) → true ≡ ascii_for s at 0
unfolding ascii_for
run_none s at = refl

module _ (s : List ℕ) (at j : ℕ) where
  pub run_hit : 128 ≤ get_or s (at + j) 0 → false ≡ ascii_for s at (j + 1)
  unfolding ascii_for
  run_hit h = rw (add-one) (simp (le-leb _ _ h))

  pub run_miss : {r : Bool} → r ≡ ascii_for s at j → get_or s (at + j) 0 < 128 → r ≡ ascii_for s at (j + 1)
  unfolding ascii_for
  run_miss e h = rw (add-one) (simp (lt-leb _ _ h) e)

  pub run_whole : {r : Bool} → r ≡ ascii_for s at j → 16 ≤ j → j ≤ 16 → r ≡ ascii_for s at 16
  run_whole e h l = let k : j ≡ 16 = omega arith in rw k at e

-- the last byte of a run, and those before it
record Last (s : List ℕ) (at n : ℕ) : Type 0 where
  last : get_or s (at + n) 0 < 128
  before : ascii_for s at n ≡ true

last_of : (s : List ℕ) (at n : ℕ) → ascii_for s at (suc n) ≡ true → Last s at n
unfolding ascii_for
last_of s at n e = by (leb 128 (get_or s (at + n) 0)) refl e
  where
    by : (t : Bool) → leb 128 (get_or s (at + n) 0) ≡ t → pick t false (ascii_for s at n) ≡ true → Last s at n
    by true p q = no_truth q
    by false p q = record { last = leb-false _ _ p; before = q }

-- ---- runs one after the other

pub to_itself : (s : List ℕ) (at : ℕ) → at ≤ length s → AsciiTo s at at
to_itself s at h = let z : at - at ≡ 0 = omega arith in record { from = omega arith; inside = h; ascii = rw z (sym (run_none s at)) }

joined : (s : List ℕ) (at m i : ℕ) → at + m ≡ i → ascii_for s at m ≡ true → (n : ℕ) → ascii_for s i n ≡ true → ascii_for s at (m + n) ≡ true
joined s at m i k e zero h = let z : m + 0 ≡ m = omega arith in rw z e
joined s at m i k e (suc n) h =
    let l = last_of s i n h in
    let z : m + suc n ≡ m + n + 1 = omega arith in
    let y : at + (m + n) ≡ i + n = omega arith in
    let x : get_or s (at + (m + n)) 0 < 128 = rw y l.last in
    rw z (sym (run_miss s at (m + n) (sym (joined s at m i k e n l.before)) x))

pub further : {s : List ℕ} {at i : ℕ} → AsciiTo s at i → i + 16 ≤ length s → (t : Bool) → t ≡ ascii_for s i 16 → not t ≡ false → AsciiTo s at (i + 16)
further {s} {at} {i} a h true e q =
    let k : i + 16 - at ≡ i - at + 16 = omega (arith, a.from) in
    let l : at + (i - at) ≡ i = omega (arith, a.from) in
    record { from = omega (arith, a.from); inside = h; ascii = rw k (joined s at (i - at) i l a.ascii 16 (sym e)) }
further a h false e q = no_truth (sym q)

-- no fault in a run
passed : (s : List ℕ) (at n : ℕ) → ascii_for s at n ≡ true → at + n ≤ length s → fault_from at 0 (drop at s) ≡ first_fault s → fault_from (at + n) 0 (drop (at + n) s) ≡ first_fault s
passed s at zero e h i = let z : at + 0 ≡ at = omega arith in rw z i
passed s at (suc n) e h i =
    let l = last_of s at n e in
    let z : at + suc n ≡ at + n + 1 = omega arith in
    rw z (ascii_on s (at + n) (omega arith) (passed s at n l.before (omega arith) i) l.last)

pub run_on : {s : List ℕ} {at r : ℕ} → AsciiTo s at r → fault_from at 0 (drop at s) ≡ first_fault s → fault_from r 0 (drop r s) ≡ first_fault s
run_on {s} {at} {r} a i =
    let z : at + (r - at) ≡ r = omega (arith, a.from) in
    let h : at + (r - at) ≤ length s = omega (arith, a.inside) in
    rw z at (passed s at (r - at) a.ascii h i)
