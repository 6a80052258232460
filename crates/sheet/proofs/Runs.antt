-- Runs of bytes that a test does not hold of: byte by byte, one after the other, and what a scan for a byte passes by them.
use Prim.Native.Nat.{ℕ, zero, suc, ◌+◌, ◌-◌, ◌≤◌, ◌<◌}
use mathlib.Core.Path.{◌≡◌, refl, sym}
use mathlib.Core.Bool.{Bool, true, false, not, ◌||◌}
use mathlib.Core.List.{List}
use native.Mathlib.Numerals.{add-one}
use native.Mathlib.Omega.{arith}
use borrow.Author.Tests.{eqb-false, eq-eqb, ne_eqb}
use lib.Dec.{eqb}
use lib.ListN.{length, get_or, drop_of_length-le}
use lib.Seq.{take-nil}
use Rattle.rules.specs.Basic.{pick}
use Rattle.rules.specs.Sheet.{without_none}
use Rattle.rules.proofs.Basics.{no_truth, or_left, or_right, by_order}
use Rattle.sheet.specs.Runs.{is_stop, lacks, Lacking}
use Rattle.sheet.proofs.Scans.{Scan, scan_starts, scan_more}

-- ---- byte by byte
pub lacks_none : (test : ℕ → Bool) (s : List ℕ) (at : ℕ) → true ≡ lacks test s at 0
unfolding lacks
lacks_none test s at = refl

module _ (test : ℕ → Bool) (s : List ℕ) (at j : ℕ) where
  pub lacks_hit : test (get_or s (at + j) 0) ≡ true → false ≡ lacks test s at (j + 1)
  unfolding lacks
  lacks_hit h = rw (add-one, h)

  pub lacks_miss : {r : Bool} → r ≡ lacks test s at j → test (get_or s (at + j) 0) ≡ false → r ≡ lacks test s at (j + 1)
  unfolding lacks
  lacks_miss e h = rw (add-one, h) e

  pub lacks_whole : {n : ℕ} {r : Bool} → r ≡ lacks test s at j → n ≤ j → j ≤ n → r ≡ lacks test s at n
  lacks_whole {n} e h l = let k : j ≡ n = omega arith in rw k at e

-- the last byte of a run, and those before it
pub record Last (test : ℕ → Bool) (s : List ℕ) (at n : ℕ) : Type 0 where
  pub last : test (get_or s (at + n) 0) ≡ false
  pub before : lacks test s at n ≡ true

pub last_of : (test : ℕ → Bool) (s : List ℕ) (at n : ℕ) → lacks test s at (suc n) ≡ true → Last test s at n
unfolding lacks
last_of test s at n e = by (test (get_or s (at + n) 0)) refl e
  where
    by : (t : Bool) → test (get_or s (at + n) 0) ≡ t → pick t false (lacks test s at n) ≡ true → Last test s at n
    by true p q = no_truth q
    by false p q = record { last = p; before = q }

-- where the test is for one byte
byte_no : (b c : ℕ) → (c ≡ b → ⊥) → eqb b c ≡ false
byte_no b c h = ne_eqb b c (λ e. h (sym e))

pub no_byte : (b c : ℕ) → eqb b c ≡ false → c ≡ b → ⊥
no_byte b c h e = eqb-false b c h (sym e)

module _ (b : ℕ) (s : List ℕ) (at j : ℕ) where
  pub byte_hit : get_or s (at + j) 0 ≡ b → false ≡ lacks (eqb b) s at (j + 1)
  byte_hit h = lacks_hit (eqb b) s at j (eq-eqb _ _ (sym h))

  pub byte_miss : {r : Bool} → r ≡ lacks (eqb b) s at j → (get_or s (at + j) 0 ≡ b → ⊥) → r ≡ lacks (eqb b) s at (j + 1)
  byte_miss e h = lacks_miss (eqb b) s at j e (byte_no b _ h)

-- a stop is one of three bytes
pub record NoStop (c : ℕ) : Type 0 where
  pub no_tab : c ≡ 9 → ⊥
  pub no_slash : c ≡ 92 → ⊥
  pub no_cr : c ≡ 13 → ⊥

pub no_stop : (c : ℕ) → is_stop c ≡ false → NoStop c
unfolding is_stop
no_stop c e =
    let l = or_left (eqb c 9 || eqb c 92) (eqb c 13) e in
    record {
      no_tab = eqb-false c 9 (or_left (eqb c 9) (eqb c 92) l);
      no_slash = eqb-false c 92 (or_right (eqb c 9) (eqb c 92) l);
      no_cr = eqb-false c 13 (or_right (eqb c 9 || eqb c 92) (eqb c 13) e);
    }

-- ---- one after the other
pub lacking_none : (test : ℕ → Bool) (s : List ℕ) (at : ℕ) → Lacking test s at at
lacking_none test s at = let z : at - at ≡ 0 = omega arith in record { from = omega arith; inside = λ h. h; past = λ h. refl; clean = rw z (sym (lacks_none test s at)) }

joined : (test : ℕ → Bool) (s : List ℕ) (at m i : ℕ) → at + m ≡ i → lacks test s at m ≡ true → (n : ℕ) → lacks test s i n ≡ true → lacks test s at (m + n) ≡ true
joined test s at m i k e zero h = let z : m + 0 ≡ m = omega arith in rw z e
joined test s at m i k e (suc n) h =
    let l = last_of test s i n h in
    let z : m + suc n ≡ m + n + 1 = omega arith in
    let y : at + (m + n) ≡ i + n = omega arith in
    let x : test (get_or s (at + (m + n)) 0) ≡ false = rw y l.last in
    rw z (sym (lacks_miss test s at (m + n) (sym (joined test s at m i k e n l.before)) x))

pub lacking_on : (n : ℕ) {test : ℕ → Bool} {s : List ℕ} {at i : ℕ} → Lacking test s at i → i + n ≤ length s → (t : Bool) → t ≡ lacks test s i n → not t ≡ false → Lacking test s at (i + n)
lacking_on n {test} {s} {at} {i} a h true e q =
    let k : i + n - at ≡ i - at + n = omega (arith, a.from) in
    let l : at + (i - at) ≡ i = omega (arith, a.from) in
    record { from = omega (arith, a.from); inside = λ g. h; past = λ g. absurd (omega (arith, a.from)); clean = rw k (joined test s at (i - at) i l a.clean n (sym e)) }
lacking_on n a h false e q = no_truth (sym q)

pub lacking_more : {b : ℕ} {s : List ℕ} {at i : ℕ} → Lacking (eqb b) s at i → i < length s → (get_or s i 0 ≡ b → ⊥) → Lacking (eqb b) s at (i + 1)
lacking_more {b} {s} {at} {i} a h n =
    let k : i + 1 - at ≡ i - at + 1 = omega (arith, a.from) in
    let z : at + (i - at) ≡ i = omega (arith, a.from) in
    record { from = omega (arith, a.from); inside = λ g. omega arith; past = λ g. absurd (omega (arith, a.from)); clean = rw k (sym (byte_miss b s at (i - at) (sym a.clean) (rw z n))) }

-- ---- a scan for a byte
passed : (b : ℕ) (s : List ℕ) (at n : ℕ) → lacks (eqb b) s at n ≡ true → at + n ≤ length s → Scan b s at at → Scan b s at (at + n)
passed b s at zero e h c = let z : at + 0 ≡ at = omega arith in rw z c
passed b s at (suc n) e h c =
    let l = last_of (eqb b) s at n e in
    let z : at + suc n ≡ at + n + 1 = omega arith in
    rw z (scan_more (passed b s at n l.before (omega arith) c) (omega arith) (no_byte b _ l.last))

pub scan_to : {b : ℕ} {s : List ℕ} {at r : ℕ} → Lacking (eqb b) s at r → Scan b s at r
scan_to {b} {s} {at} {r} a = by_order at (length s) near far
  where
    near : at ≤ length s → Scan b s at r
    near h =
        let z : at + (r - at) ≡ r = omega (arith, a.from) in
        let l : at + (r - at) ≤ length s = omega (arith, a.inside h) in
        rw z at (passed b s at (r - at) a.clean l (scan_starts b s at))

    far : length s < at → Scan b s at r
    far h = let l : length s ≤ at = omega arith in record { from = a.from; clean = rw (drop_of_length-le s l, take-nil (r - at)) without_none }

pub ruleset runs = (lacking_none, lacking_on)

pub ruleset lack_cases = (lacks_none, byte_hit, byte_miss, lacks_whole)

pub ruleset stop_cases = (lacks_none, lacks_hit, lacks_miss, lacks_whole)
