-- Bytes, one character at a time: the laws that callers cite.
use mathlib.Core.Path.{◌≡◌, refl}
use mathlib.Core.Bool.{true, false, not}
use mathlib.Core.List.{List, [], ◌∷◌}
use Rattle.std.specs.Prelude.{Option, None, Some}
use Prim.Native.Nat.{ℕ, ◌≤◌, ◌<◌, ◌+◌}
use native.Mathlib.Omega.{arith}
use lib.ListN.{length, drop, length-drop}
use lib.Seq.{drop-drop}
use Rattle.rules.specs.Basic.{is_some}
use Rattle.rules.specs.Utf8.{first_of, first_fault, is_utf8, followers, chars_from, chars, Scalar}
use Rattle.rules.proofs.Chars.{skip_chars, fits}
use Rattle.rules.proofs.Scalars.{char_scalar}
use Rattle.utf8.specs.declared.Char.{Char}
use Rattle.utf8.specs.Reading.{char_of}

-- ---- the code point at a place

-- ch is what stands at the place: the text from there on is it and then the text after it
pub record CharStep (s : List ℕ) (at : ℕ) (ch : Char) : Type 0 where
  pub reads : chars (drop at s) ≡ ch.code ∷ chars (drop (at + ch.size) s)
  pub least : 0 < ch.size
  pub most : at + ch.size ≤ length s
  pub top : ch.code < 1114112
  pub scalar : Scalar ch.code

-- the same of the bytes from the place on
record CharFirst (t : List ℕ) (ch : Char) : Type 0 where
  reads : chars t ≡ ch.code ∷ chars (drop ch.size t)
  least : 0 < ch.size
  most : ch.size ≤ length t
  scalar : Scalar ch.code

char_first : (t : List ℕ) → 1 ≤ length t → CharFirst t (char_of t)
unfolding char_of chars chars_from
char_first [] h = absurd (omega arith)
char_first (a ∷ s) h =
    record { reads = rw (skip_chars (followers a (first_of a s)) s); least = omega arith; most = omega (arith, fits a s); scalar = char_scalar a s }

pub char_step : (s : List ℕ) (at : ℕ) (ch : Char) → at < length s → ch ≡ char_of (drop at s) → CharStep s at ch
char_step s at ch h e =
    let f : CharFirst (drop at s) ch = rw e (char_first (drop at s) (rw (length-drop at s) (omega arith))) in
    record { reads = rw (← drop-drop ch.size at s) f.reads; least = f.least; most = omega (arith, f.most, length-drop at s); top = f.scalar.top; scalar = f.scalar }

-- ---- whether bytes are UTF-8

pub valid_utf8 : (s : List ℕ) → first_fault s ≡ None → is_utf8 s ≡ true
unfolding is_utf8
valid_utf8 s = go (first_fault s)
  where
    go : (o : Option ℕ) → o ≡ None → not (is_some o) ≡ true
    go None e = unfold is_some in refl
    go (Some i) e = cc

pub fault_utf8 : (s : List ℕ) (i : ℕ) → first_fault s ≡ Some i → is_utf8 s ≡ false
unfolding is_utf8
fault_utf8 s i = go (first_fault s)
  where
    go : (o : Option ℕ) → o ≡ Some i → not (is_some o) ≡ false
    go None e = cc
    go (Some j) e = unfold is_some in refl
