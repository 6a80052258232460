-- The texts that the writers write, piece by piece.
use Prim.Native.Nat.{ℕ, ◌+◌, ◌/◌, ◌%◌, ◌^◌, ◌≤◌, ◌<◌}
use mathlib.Core.Path.{◌≡◌, refl, ◌∙◌}
use mathlib.Core.List.{List, [], ◌∷◌, ◌++◌, append_assoc, append-nil}
use native.Mathlib.Numerals.{add-one}
use borrow.Author.Tests.{ne_eqb}
use lib.ListN.{length, get_or, drop, drop_of_length-le}
use lib.Seq.{drop-cons}
use Rattle.rules.specs.Basic.{codes, tab, lf, join_by, each, decimal}
use Rattle.rules.specs.Sheet.{escape_char, escape, line_of, refused_line}
use Rattle.rules.proofs.Numbers.{decimal_one, decimal_more, escape_decimal}
use Rattle.output.specs.Put.{Put, tabbed}
use Rattle.output.proofs.Puts.{put_seq}

-- the same writing, its text said otherwise
pub text_is : {w o₀ o : List ℕ} {at r : ℕ} (also : List ℕ) → also ≡ w → Put w o₀ at o r → Put also o₀ at o r
text_is also e p = rw e p

-- ---- bytes
pub bytes_more : (s : List ℕ) (i : ℕ) → i < length s → drop i s ≡ (get_or s i 0 ∷ []) ++ drop (i + 1) s
bytes_more s i h = rw add-one (drop-cons s i 0 h)

pub bytes_none : (s : List ℕ) (i : ℕ) → length s ≤ i → drop i s ≡ []
bytes_none s i h = drop_of_length-le s h

-- ---- decimal
pub decimal_last : {n : ℕ} {o₀ o : List ℕ} {at r : ℕ} → n < 10 → Put ((48 + n) ∷ []) o₀ at o r → Put (decimal n) o₀ at o r
decimal_last {n} h p = rw (decimal_one n h) p

pub decimal_next : {n : ℕ} {o₀ o₁ o₂ : List ℕ} {at m r : ℕ} → n < 2 ^ 32 → 10 ≤ n → Put (decimal (n / 10)) o₀ at o₁ m → Put ((48 + n % 10) ∷ []) o₁ m o₂ r → Put (decimal n) o₀ at o₂ r
decimal_next {n} f h p q = rw (decimal_more n f h) (put_seq p q)

-- ---- escapes
pub char_backslash : (c : ℕ) → c ≡ 92 → escape_char c ≡ 92 ∷ 92 ∷ []
unfolding escape_char
char_backslash c q = rw q

pub char_tab : (c : ℕ) → c ≡ 9 → escape_char c ≡ 92 ∷ 116 ∷ []
unfolding escape_char
char_tab c q = rw q

pub char_lf : (c : ℕ) → c ≡ 10 → escape_char c ≡ 92 ∷ 110 ∷ []
unfolding escape_char
char_lf c q = rw q

pub char_cr : (c : ℕ) → c ≡ 13 → escape_char c ≡ 92 ∷ 114 ∷ []
unfolding escape_char
char_cr c q = rw q

pub char_plain : (c : ℕ) → (c ≡ 92 → ⊥) → (c ≡ 9 → ⊥) → (c ≡ 10 → ⊥) → (c ≡ 13 → ⊥) → escape_char c ≡ c ∷ []
unfolding escape_char
char_plain c n m l k = simp (ne_eqb c 92 n, ne_eqb c 9 m, ne_eqb c 10 l, ne_eqb c 13 k)

pub escape_more : (f : List ℕ) (i : ℕ) → i < length f → escape (drop i f) ≡ escape_char (get_or f i 0) ++ escape (drop (i + 1) f)
unfolding escape
escape_more f i h = rw (add-one, drop-cons f i 0 h)

pub escape_none : (f : List ℕ) (i : ℕ) → length f ≤ i → escape (drop i f) ≡ []
unfolding escape
escape_none f i h = rw (drop_of_length-le f h)

-- ---- the fields of a line
join_tabbed : (f : List ℕ) (fs : List (List ℕ)) → join_by tab (each escape (f ∷ fs)) ≡ escape f ++ tabbed fs
unfolding join_by each tabbed
join_tabbed f [] = rw append-nil
join_tabbed f (g ∷ fs) = rw (join_tabbed g fs)

pub line_tabbed : (f : List ℕ) (fs : List (List ℕ)) → line_of (f ∷ fs) ≡ escape f ++ tabbed fs ++ (lf ∷ [])
unfolding line_of
line_tabbed f fs = rw (join_tabbed f fs)

pub tabbed_both : (fs gs : List (List ℕ)) → tabbed (fs ++ gs) ≡ tabbed fs ++ tabbed gs
unfolding tabbed
tabbed_both [] gs = refl
tabbed_both (f ∷ fs) gs = rw (tabbed_both fs gs, append_assoc)

pub tabbed_one : (f : List ℕ) → tabbed (f ∷ []) ≡ (tab ∷ []) ++ escape f
unfolding tabbed
tabbed_one f = rw append-nil

pub tabbed_number : (n : ℕ) → tabbed (decimal n ∷ []) ≡ (tab ∷ []) ++ decimal n
tabbed_number n = tabbed_one (decimal n) ∙ rw (escape_decimal n)

-- fields after fields
pub put_fields : {o₀ o₁ o₂ : List ℕ} {at n r : ℕ} (fs gs : List (List ℕ)) → Put (tabbed fs) o₀ at o₁ n → Put (tabbed gs) o₁ n o₂ r → Put (tabbed (fs ++ gs)) o₀ at o₂ r
put_fields fs gs p q = rw (tabbed_both fs gs) (put_seq p q)

-- a line: its first field, the others, and the LF
pub put_line : {o₀ o₁ o₂ o₃ : List ℕ} {at m n r : ℕ} (f : List ℕ) (fs : List (List ℕ)) → Put (escape f) o₀ at o₁ m → Put (tabbed fs) o₁ m o₂ n → Put (lf ∷ []) o₂ n o₃ r → Put (line_of (f ∷ fs)) o₀ at o₃ r
put_line f fs p q e = rw (line_tabbed f fs) (put_seq (put_seq p q) e)

-- the line of a refusal
pub put_refused : {o₀ o₁ o₂ o₃ o₄ : List ℕ} {at m n k r : ℕ} (number line : ℕ) → Put (codes "refused") o₀ at o₁ m → Put (tabbed (decimal number ∷ [])) o₁ m o₂ n → Put (tabbed (decimal line ∷ [])) o₂ n o₃ k → Put (lf ∷ []) o₃ k o₄ r → Put (refused_line number line) o₀ at o₄ r
unfolding refused_line escape escape_char
put_refused number line p q s e = put_line (codes "refused") (decimal number ∷ decimal line ∷ []) p (put_fields (decimal number ∷ []) (decimal line ∷ []) q s) e
