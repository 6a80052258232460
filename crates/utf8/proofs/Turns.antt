-- What a decoded character says of the bytes from its place on.
use mathlib.Core.Path.{◌≡◌, refl, sym, ap, ◌∙◌}
use mathlib.Core.List.{List, [], ◌∷◌}
use Rattle.std.specs.Prelude.{Option, None, Some}
use Rattle.std.specs.Option.{unwrap_or}
use Prim.Native.Nat.{ℕ, zero, suc, ◌≤◌, ◌<◌, ◌+◌}
use native.Mathlib.Omega.{arith}
use lib.ListN.{length, get_or, drop, length-drop, drop_of_length-le}
use lib.Seq.{drop-drop, drop-cons}
use Rattle.rules.specs.Utf8.{size_of, first_of, fault_from, fault_or, first_fault, char_or, followers}
use Rattle.rules.proofs.Begins.{Begins, begins, begins_fits, begins_size, size_1, first_some, one}
use Rattle.rules.proofs.Chars.{skip_fault, fault_begins}
use Rattle.utf8.specs.declared.Char.{Char}
use Rattle.utf8.specs.Decoding.{char_with, decoded_as, decoded_of, decoded_size}
use Rattle.utf8.specs.Reading.{char_of}

-- t starts with the character c of n bytes
record Found (t : List ℕ) (c n : ℕ) : Type 0 where
  least : 1 ≤ n
  most : n ≤ length t
  on : (at : ℕ) → fault_from at 0 t ≡ fault_from (at + n) 0 (drop n t)
  char : char_with c n ≡ char_of t

found_begins : {a : ℕ} {s : List ℕ} {c : ℕ} → Begins a s c → Found (a ∷ s) c (size_of a)
found_begins {a} {s} {c} g =
    record { least = begins_size g; most = omega (arith, begins_fits g, begins_size g); on = go (size_of a) refl (begins_size g); char = same (size_of a) refl (begins_size g) }
  where
    go : (n : ℕ) → size_of a ≡ n → 1 ≤ n → (at : ℕ) → fault_from at 0 (a ∷ s) ≡ fault_from (at + n) 0 (drop n (a ∷ s))
    go zero e h at = absurd (omega arith)
    go (suc n) e h at =
        fault_begins at g ∙ rw e (skip_fault (suc at) n s ∙ ap (λ (m : ℕ). fault_from m 0 (drop n s)) (omega arith))

    same : (n : ℕ) → size_of a ≡ n → 1 ≤ n → char_with c n ≡ char_of (a ∷ s)
    same zero e h = absurd (omega arith)
    same (suc n) e h = unfold char_of char_or followers in rw (first_some g, e)

found_ascii : (a : ℕ) (s : List ℕ) → a < 128 → Found (a ∷ s) a 1
found_ascii a s l = let k : a ≤ 127 = omega arith in rw (← size_1 a k) (found_begins (one k))

found : (t : List ℕ) (ch : Char) → decoded_of t ≡ Some ch → Found t ch.code ch.size
unfolding decoded_of
found [] ch e = cc
found (a ∷ s) ch e = go (first_of a s) refl e
  where
    go : (o : Option ℕ) → first_of a s ≡ o → decoded_as (size_of a) o ≡ Some ch → Found (a ∷ s) ch.code ch.size
    go None f q = unfold decoded_as in cc
    go (Some d) f q = unfold decoded_as in (let z : char_with d (size_of a) ≡ ch = cc in rw (← z) (found_begins (begins a s d f)))

-- no character starts where t does
record Missed (t : List ℕ) : Type 0 where
  here : (at : ℕ) → fault_from at 0 t ≡ Some at
  char : char_with 0xfffd 1 ≡ char_of t

missed : (t : List ℕ) → 1 ≤ length t → decoded_of t ≡ None → Missed t
unfolding decoded_of
missed [] h e = absurd (omega arith)
missed (a ∷ s) h e = go (first_of a s) refl e
  where
    go : (o : Option ℕ) → first_of a s ≡ o → decoded_as (size_of a) o ≡ None → Missed (a ∷ s)
    go None f q =
        record { here = λ at. unfold fault_from fault_or in rw f; char = unfold char_of char_or followers in rw f }
    go (Some d) f q = unfold decoded_as in cc

-- the same by how many bytes it takes
record FoundSize (t : List ℕ) (n : ℕ) : Type 0 where
  code : ℕ
  it : Found t code n

found_size : (t : List ℕ) (n : ℕ) → n ≡ decoded_size (decoded_of t) → (n ≡ 0 → ⊥) → FoundSize t n
found_size t n e m = go (decoded_of t) refl e
  where
    go : (d : Option Char) → decoded_of t ≡ d → n ≡ decoded_size d → FoundSize t n
    go None f q = absurd (m (unfold decoded_size in q))
    go (Some ch) f q = let z : n ≡ ch.size = unfold decoded_size in q in record { code = ch.code; it = rw z (found t ch f) }

missed_size : (t : List ℕ) → 1 ≤ length t → 0 ≡ decoded_size (decoded_of t) → Missed t
missed_size t h e = go (decoded_of t) refl e
  where
    go : (d : Option Char) → decoded_of t ≡ d → 0 ≡ decoded_size d → Missed t
    go None f q = missed t h f
    go (Some ch) f q = let z : 0 ≡ ch.size = unfold decoded_size in q in absurd (omega (arith, (found t ch f).least))

-- ---- at a place of s

module _ (s : List ℕ) (at : ℕ) (h : at < length s) where
  rest : 1 ≤ length (drop at s)
  rest = rw (length-drop at s) (omega arith)

  ascii : get_or s at 0 < 128 → Found (drop at s) (get_or s at 0) 1
  ascii l = rw (drop-cons s at 0 h) (found_ascii (get_or s at 0) (drop (suc at) s) l)

  pub ascii_char : (x : ℕ) → x ≡ get_or s at 0 → get_or s at 0 < 128 → char_with x 1 ≡ char_of (drop at s)
  ascii_char x e l = rw e (ascii l).char

  pub ascii_on : fault_from at 0 (drop at s) ≡ first_fault s → get_or s at 0 < 128 → fault_from (at + 1) 0 (drop (at + 1) s) ≡ first_fault s
  ascii_on i l = rw (← drop-drop 1 at s) (sym ((ascii l).on at) ∙ i)

  module _ (d : Option Char) (e : d ≡ decoded_of (drop at s)) where
    pub wide_char : (ch : Char) → d ≡ Some ch → ch ≡ char_of (drop at s)
    wide_char ch b = (found (drop at s) ch (sym e ∙ b)).char

  pub wide_char_or : unwrap_or (decoded_of (drop at s)) (char_with 0xfffd 1) ≡ char_of (drop at s)
  wide_char_or = go (decoded_of (drop at s)) refl
    where
      go : (d : Option Char) → d ≡ decoded_of (drop at s) → unwrap_or d (char_with 0xfffd 1) ≡ char_of (drop at s)
      go None e = (missed (drop at s) rest (sym e)).char
      go (Some ch) e = wide_char (Some ch) e ch refl

  module _ (n : ℕ) (e : n ≡ decoded_size (decoded_of (drop at s))) where
    pub fault_at : fault_from at 0 (drop at s) ≡ first_fault s → n ≡ 0 → Some at ≡ first_fault s
    fault_at i b = sym ((missed_size (drop at s) rest (sym b ∙ e)).here at) ∙ i

    module _ (b : n ≡ 0 → ⊥) where
      it : FoundSize (drop at s) n
      it = found_size (drop at s) n e b

      pub char_least : 1 ≤ n
      char_least = it.it.least

      pub char_most : at + n ≤ length s
      char_most = omega (arith, it.it.most, length-drop at s)

      pub char_on : fault_from at 0 (drop at s) ≡ first_fault s → fault_from (at + n) 0 (drop (at + n) s) ≡ first_fault s
      char_on i = rw (← drop-drop n at s) (sym (it.it.on at) ∙ i)

pub checked_end : (s : List ℕ) (at : ℕ) → length s ≤ at → fault_from at 0 (drop at s) ≡ first_fault s → None ≡ first_fault s
unfolding fault_from
checked_end s at h i = sym (ap (fault_from at 0) (drop_of_length-le s h)) ∙ i
