-- What the tests of places say of the definitions.
use Prim.Native.Nat.{ℕ, ◌+◌, ◌-◌, ◌≤◌, ◌<◌}
use mathlib.Core.Path.{◌≡◌, sym}
use mathlib.Core.Bool.{and-false}
use mathlib.Core.List.{List, []}
use native.Mathlib.Omega.{arith}
use borrow.Author.Tests.{le-leb, lt-leb}
use lib.ListN.{length, get_or, take, drop, get_or-eq_default}
use Rattle.stored_cases.specs.Cases.{part_of, after_of}

pub byte_past : (s : List ℕ) (at : ℕ) → length s ≤ at → 0 ≡ get_or s at 0
byte_past s at h = sym (get_or-eq_default s 0 h)

module _ (s : List ℕ) (at n : ℕ) where
  pub after_within : at ≤ length s → n ≤ length s - at → at + n ≡ after_of s at n
  unfolding after_of
  after_within h l = simp (le-leb (at + n) (length s) (omega arith))

  pub after_end : at ≤ length s → length s - at < n → length s ≡ after_of s at n
  unfolding after_of
  after_end h l = simp (lt-leb (at + n) (length s) (omega arith))

  pub after_past : length s < at → length s ≡ after_of s at n
  unfolding after_of
  after_past h = simp (lt-leb (at + n) (length s) (omega arith))

module _ (s : List ℕ) (from to : ℕ) where
  pub part_past : length s < to → [] ≡ part_of s from to
  unfolding part_of
  part_past h = simp (lt-leb to (length s) h)

  pub part_turned : to < from → [] ≡ part_of s from to
  unfolding part_of
  part_turned h = simp (lt-leb from to h, and-false)

  pub part_within : to ≤ length s → from ≤ to → take (to - from) (drop from s) ≡ part_of s from to
  unfolding part_of
  part_within h l = simp (le-leb to (length s) h, le-leb from to l)
