-- How many bytes the content of a field has.
use Prim.Native.Nat.{ℕ, zero, suc, pred, ◌+◌, ◌*◌, ◌≤◌, ◌<◌}
use mathlib.Core.Path.{◌≡◌, refl, ap, ◌∙◌}
use mathlib.Core.List.{List, [], ◌∷◌}
use Rattle.std.specs.Prelude.{Option, None, Some}
use native.Mathlib.Omega.{arith}
use lib.Dec.{eqb, ltb}
use lib.ListN.{length, drop, length-append, length-drop}
use lib.Seq.{length-take-le}
use Rattle.rules.specs.Sheet.{escaped}
use Rattle.rules.specs.Utf8.{size_of, first_of, char_or, followers, encode_char, encode}
use Rattle.rules.proofs.Basics.{pick_either, by_order}
use Rattle.rules.proofs.Begins.{begins, begins_fits}
use Rattle.rules.proofs.Encodes.{begins_encode}
use Rattle.utf8.specs.declared.Char.{Char}
use Rattle.utf8.specs.Reading.{char_of}
use Rattle.content.specs.Contents.{content_in}
use Rattle.content.specs.Readings.{pair_in, char_in}
use Rattle.content.proofs.Chars.{content_first}

-- ---- a character

encode_some : (c : ℕ) → 1 ≤ length (encode_char c)
unfolding encode_char
encode_some c =
    pick_either P (ltb c 128) _ _ (λ _. omega arith)
    (λ _. pick_either P (ltb c 2048) _ _ (λ _. omega arith) (λ _. pick_either P (ltb c 65536) _ _ (λ _. omega arith) (λ _. omega arith)))
  where
    P : List ℕ → Type 0
    P w = 1 ≤ length w

-- one that is not escaped takes no more bytes than it has
first_long : (a : ℕ) (s : List ℕ) (o : Option ℕ) → first_of a s ≡ o → suc (followers a o) ≤ length (encode_char (char_or o))
unfolding followers char_or
first_long a s None e = encode_some 65533
first_long a s (Some c) e =
    let b = begins a s c e in
    omega (arith, ap length (begins_encode b), length-take-le (pred (size_of a)) s (begins_fits b))

of_long : (s : List ℕ) → (char_of s).size ≤ length (encode_char (char_of s).code)
unfolding char_of
of_long [] = omega arith
of_long (a ∷ s) = first_long a s (first_of a s) refl

-- an escape takes two bytes
pair_long : (o : Option ℕ) → (pair_in o).size ≤ length (encode_char (pair_in o).code) * 2
unfolding pair_in
pair_long None = omega (arith, encode_some 92)
pair_long (Some x) = omega (arith, encode_some x)

char_long : (s : List ℕ) → (char_in s).size ≤ length (encode_char (char_in s).code) * 2
unfolding char_in
char_long [] = omega (arith, of_long [])
char_long (a ∷ []) = omega (arith, of_long (a ∷ []))
char_long (a ∷ d ∷ s) =
    pick_either (λ (ch : Char). ch.size ≤ length (encode_char ch.code) * 2) (eqb a 92) _ _ (λ _. pair_long (escaped d)) (λ _. omega (arith, of_long (a ∷ d ∷ s)))

-- ---- a content has at least half as many bytes as its field

encode_more : (c : ℕ) (cs : List ℕ) → length (encode (c ∷ cs)) ≡ length (encode_char c) + length (encode cs)
unfolding encode
encode_more c cs = length-append (encode_char c) (encode cs)

content_from : (n : ℕ) (s : List ℕ) → length s ≤ n → length s ≤ length (encode (content_in s)) * 2
content_from zero s h = omega arith
content_from (suc n) s h = by_order (length s) 0 (λ g. omega arith) (λ g. more g (content_from n (drop (char_in s).size s)))
  where
    more : 0 < length s → (length (drop (char_in s).size s) ≤ n → length (drop (char_in s).size s) ≤ length (encode (content_in (drop (char_in s).size s))) * 2)
        → length s ≤ length (encode (content_in s)) * 2
    more g ih =
        let c = content_first s (omega arith) in
        let k = length-drop (char_in s).size s in
        let l = ih (omega (arith, k, c.least)) in
        let e = ap (λ (x : List ℕ). length (encode x)) c.reads ∙ encode_more (char_in s).code (content_in (drop (char_in s).size s)) in
        omega (arith, k, l, c.least, c.most, char_long s, e)

pub content_long : (s : List ℕ) → length s ≤ length (encode (content_in s)) * 2
content_long s = content_from (length s) s (omega arith)
