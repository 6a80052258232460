-- The character that a field starts with, and the content after it.
use Prim.Native.Nat.{ℕ, suc, ◌+◌, ◌≤◌, ◌<◌}
use mathlib.Core.Path.{◌≡◌, refl, sym, ◌∙◌}
use mathlib.Core.List.{List, [], ◌∷◌}
use Rattle.std.specs.Prelude.{Option, None, Some}
use native.Mathlib.Numerals.{add-one}
use native.Mathlib.Omega.{arith}
use lib.ListN.{length, get_or, drop, length-drop, drop_of_length-le}
use lib.Seq.{drop-drop, drop-cons}
use borrow.Author.Tests.{ne_eqb}
use Rattle.rules.specs.Sheet.{escaped}
use Rattle.rules.specs.Utf8.{size_of, first_of, char_or, followers, chars_from, chars, Scalar}
use Rattle.rules.proofs.Escaped.{escaped_ascii}
use Rattle.rules.proofs.Begins.{begins, first_some, one, size_1}
use Rattle.rules.proofs.Chars.{skip_chars, fits, chars_ascii}
use Rattle.rules.proofs.Scalars.{char_scalar, low_scalar}
use Rattle.utf8.specs.declared.Char.{Char}
use Rattle.utf8.specs.Reading.{char_of}
use Rattle.utf8.specs.Decoding.{char_with}
use Rattle.utf8.proofs.Turns.{ascii_char}
use Rattle.content.specs.Contents.{pair_or, plain_of, content_in}
use Rattle.content.specs.Readings.{pair_in, char_in}
use Rattle.content.proofs.Plains.{plain_one, plain_pair, by_backslash, first_plain, skip_plain}

-- ---- the content from a character on

skip_some : (a : ℕ) (s : List ℕ) (o : Option ℕ) → first_of a s ≡ o → drop (followers a o) (plain_of s) ≡ plain_of (drop (followers a o) s)
unfolding followers
skip_some a s None e = refl
skip_some a s (Some c) e = skip_plain (begins a s c e)

content_char : (a : ℕ) (s : List ℕ) → (a ≡ 92 → ⊥) → content_in (a ∷ s) ≡ char_or (first_of a s) ∷ content_in (drop (followers a (first_of a s)) s)
unfolding content_in chars chars_from
content_char a s n =
    rw (plain_one a s n, first_plain a s, skip_chars (followers a (first_of a s)) (plain_of s), skip_some a s (first_of a s) refl)

content_pair : (x : ℕ) (d : ℕ) (s : List ℕ) → x < 128 → escaped d ≡ Some x → content_in (92 ∷ d ∷ s) ≡ x ∷ content_in s
unfolding content_in pair_or
content_pair x d s h e = rw (plain_pair d s, e) (chars_ascii x (plain_of s) h)

content_alone : (d : ℕ) (s : List ℕ) → escaped d ≡ None → content_in (92 ∷ d ∷ s) ≡ 92 ∷ content_in (d ∷ s)
unfolding content_in pair_or
content_alone d s e = rw (plain_pair d s, e) (chars_ascii 92 (plain_of (d ∷ s)) (omega arith))

content_last : content_in (92 ∷ []) ≡ 92 ∷ content_in []
unfolding content_in plain_of
content_last = chars_ascii 92 [] (omega arith)

-- ---- ch is the character that t starts with

pub record ContentFirst (t : List ℕ) (ch : Char) : Type 0 where
  pub reads : content_in t ≡ ch.code ∷ content_in (drop ch.size t)
  pub least : 0 < ch.size
  pub most : ch.size ≤ length t
  pub scalar : Scalar ch.code

pub char_plain : (a : ℕ) (s : List ℕ) → (a ≡ 92 → ⊥) → char_in (a ∷ s) ≡ char_of (a ∷ s)
unfolding char_in
char_plain a [] n = refl
char_plain a (d ∷ s) n = rw (ne_eqb a 92 n)

char_pair : (d : ℕ) (s : List ℕ) → char_in (92 ∷ d ∷ s) ≡ pair_in (escaped d)
unfolding char_in
char_pair d s = refl

pub char_last : char_in (92 ∷ []) ≡ char_with 92 1
unfolding char_in char_of char_or followers
char_last = let e : first_of 92 [] ≡ Some 92 = first_some (one (omega arith)) in let z : size_of 92 ≡ 1 = size_1 92 (omega arith) in rw (e, z)

first_other : (a : ℕ) (s : List ℕ) → (a ≡ 92 → ⊥) → ContentFirst (a ∷ s) (char_in (a ∷ s))
first_other a s n = rw (char_plain a s n) (unfold char_of in record { reads = content_char a s n; least = omega arith; most = omega (arith, fits a s); scalar = char_scalar a s })

first_pair : (d : ℕ) (s : List ℕ) (o : Option ℕ) → escaped d ≡ o → ContentFirst (92 ∷ d ∷ s) (pair_in o)
unfolding pair_in
first_pair d s None e = record { reads = content_alone d s e; least = omega arith; most = omega arith; scalar = low_scalar 92 (omega arith) }
first_pair d s (Some x) e =
    let h = escaped_ascii d x e in
    record { reads = content_pair x d s h e; least = omega arith; most = omega arith; scalar = low_scalar x (omega arith) }

first_backslash : (s : List ℕ) → ContentFirst (92 ∷ s) (char_in (92 ∷ s))
first_backslash [] = rw char_last (record { reads = content_last; least = omega arith; most = omega arith; scalar = low_scalar 92 (omega arith) })
first_backslash (d ∷ s) = rw (char_pair d s) (first_pair d s (escaped d) refl)

pub content_first : (t : List ℕ) → 1 ≤ length t → ContentFirst t (char_in t)
content_first [] h = absurd (omega arith)
content_first (a ∷ s) h = by_backslash a (λ e. rw e (first_backslash s)) (first_other a s)

-- ---- the character at a place: what callers cite

pub record ContentStep (f : List ℕ) (at : ℕ) (ch : Char) : Type 0 where
  pub reads : content_in (drop at f) ≡ ch.code ∷ content_in (drop (at + ch.size) f)
  pub least : 0 < ch.size
  pub most : at + ch.size ≤ length f
  pub top : ch.code < 1114112
  pub scalar : Scalar ch.code

pub content_step : (f : List ℕ) (at : ℕ) (ch : Char) → at < length f → ch ≡ char_in (drop at f) → ContentStep f at ch
content_step f at ch h e =
    let g : ContentFirst (drop at f) ch = rw e (content_first (drop at f) (rw (length-drop at f) (omega arith))) in
    record { reads = rw (← drop-drop ch.size at f) g.reads; least = g.least; most = omega (arith, g.most, length-drop at f); top = g.scalar.top; scalar = g.scalar }

pub content_none : (f : List ℕ) (at : ℕ) → length f ≤ at → content_in (drop at f) ≡ []
unfolding content_in plain_of chars chars_from
content_none f at h = rw (drop_of_length-le f h)

pub no_content : content_in [] ≡ []
unfolding content_in plain_of chars chars_from
no_content = refl

-- ---- the ways of `escape_at` and `char_in`

module _ (f : List ℕ) (at : ℕ) (h : at < length f) where
  pub in_last : get_or f at 0 ≡ 92 → length f ≤ at + 1 → char_with 92 1 ≡ char_in (drop at f)
  in_last q l =
      let m : length f ≤ suc at = omega arith in
      rw (drop-cons f at 0 h, drop_of_length-le f m, q) (sym char_last)

  in_pair : get_or f at 0 ≡ 92 → at + 1 < length f → char_in (drop at f) ≡ pair_in (escaped (get_or f (at + 1) 0))
  in_pair q l =
      let m : suc at < length f = omega arith in
      rw (add-one, drop-cons f at 0 h, drop-cons f (suc at) 0 m, q) (char_pair (get_or f (suc at) 0) (drop (suc (suc at)) f))

  module _ (q : get_or f at 0 ≡ 92) (l : at + 1 < length f) {o : Option ℕ} (p : o ≡ escaped (get_or f (at + 1) 0)) where
    pub in_alone : o ≡ None → char_with 92 1 ≡ char_in (drop at f)
    unfolding pair_in
    in_alone z = sym (in_pair q l ∙ rw (← p, z))

    pub in_letter : {x e : ℕ} → x ≡ e → o ≡ Some e → char_with x 2 ≡ char_in (drop at f)
    unfolding pair_in
    in_letter w z = rw w (sym (in_pair q l ∙ rw (← p, z)))

  in_char : (get_or f at 0 ≡ 92 → ⊥) → char_in (drop at f) ≡ char_of (drop at f)
  in_char n = rw (drop-cons f at 0 h) (char_plain (get_or f at 0) (drop (suc at) f) n)

  pub in_ascii : {x : ℕ} → x ≡ get_or f at 0 → get_or f at 0 < 128 → (get_or f at 0 ≡ 92 → ⊥) → char_with x 1 ≡ char_in (drop at f)
  in_ascii {x} e l n = ascii_char f at h x e l ∙ sym (in_char n)

  pub in_wide : {r : Char} → 128 ≤ get_or f at 0 → r ≡ char_of (drop at f) → r ≡ char_in (drop at f)
  in_wide l e = e ∙ sym (in_char (λ q. omega arith))
