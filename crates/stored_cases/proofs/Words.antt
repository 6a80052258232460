-- The ways through the readers of a word and of a byte on a line.
use Prim.Native.Nat.{ℕ, ◌+◌, ◌-◌, ◌≤◌, ◌<◌}
use mathlib.Core.Path.{◌≡◌, refl}
use mathlib.Core.Bool.{Bool, true, false}
use mathlib.Core.List.{List, [], ◌∷◌}
use Rattle.std.specs.Prelude.{Option, None, Some}
use native.Mathlib.Numerals.{add-one}
use native.Mathlib.Omega.{arith}
use borrow.Author.Tests.{eq-eqb, ne_eqb}
use lib.Dec.{eqb}
use lib.ListN.{length, get_or, drop, drop_of_length-le, length-drop}
use lib.Seq.{drop-cons}
use Rattle.rules.specs.Basic.{pick, lf}
use Rattle.rules.proofs.Basics.{no_some, some_inj}
use Rattle.stored_cases.specs.Cases.{part_of, after_of, starts_with, past_word, on_line_from, on_line}

-- ---- a word
module _ (s : List ℕ) (at : ℕ) (w : List ℕ) {p : List ℕ} (part : p ≡ part_of s at (length s)) {t : Bool} (word : t ≡ starts_with p w) where
  pub no_word : t ≡ false → None ≡ past_word s at w
  unfolding past_word
  no_word e = rw (← part, ← word, e)

  pub word_there : t ≡ true → {a : ℕ} → a ≡ after_of s at (length w) → Some a ≡ past_word s at w
  unfolding past_word
  word_there e on = rw (← part, ← word, e, ← on)

pub word_passed : (s : List ℕ) (at : ℕ) (w : List ℕ) {a : ℕ} → past_word s at w ≡ Some a → a ≡ after_of s at (length w)
unfolding past_word
word_passed s at w {a} e = go (starts_with (part_of s at (length s)) w) e
  where
    go : (b : Bool) → pick b (Some (after_of s at (length w))) None ≡ Some a → a ≡ after_of s at (length w)
    go true q = some_inj (rw q)
    go false q = no_some q

-- ---- a byte on a line; r is the answer on the whole
pub line_starts : (s : List ℕ) (at end : ℕ) → on_line_from end at (drop at s) ≡ on_line s at end
unfolding on_line
line_starts s at end = refl

module _ (end : ℕ) (s : List ℕ) (i : ℕ) {r : Option ℕ} (e : on_line_from end i (drop i s) ≡ r) where
  pub line_lacking : length s ≤ i → None ≡ r
  unfolding on_line_from
  line_lacking h = simp (drop_of_length-le s h) at e

  pub byte_found : i < length s → get_or s i 0 ≡ end → Some i ≡ r
  unfolding on_line_from
  byte_found h p = simp (drop-cons s i 0 h, eq-eqb (get_or s i 0) end p) at e

  pub line_over : i < length s → (get_or s i 0 ≡ end → ⊥) → get_or s i 0 ≡ lf → None ≡ r
  unfolding on_line_from
  line_over h p q = simp (drop-cons s i 0 h, ne_eqb (get_or s i 0) end p, eq-eqb (get_or s i 0) 10 q) at e

  pub byte_passed : i < length s → (get_or s i 0 ≡ end → ⊥) → (get_or s i 0 ≡ lf → ⊥) → on_line_from end (i + 1) (drop (i + 1) s) ≡ r
  unfolding on_line_from
  byte_passed h p q = simp add-one (simp (drop-cons s i 0 h, ne_eqb (get_or s i 0) end p, ne_eqb (get_or s i 0) 10 q, add-one) at e)

-- what is found lies within the file
line_within : (end at : ℕ) (l : List ℕ) {b : ℕ} → on_line_from end at l ≡ Some b → (at ≤ b) × (b < at + length l)
unfolding on_line_from
line_within end at [] e = no_some e
line_within end at (x ∷ l) {b} e = go (line_within end (at + 1) l) (eqb x end) (eqb x lf) e
  where
    go : (on_line_from end (at + 1) l ≡ Some b → (at + 1 ≤ b) × (b < at + 1 + length l)) → (t u : Bool) → pick t (Some at) (pick u None (on_line_from end (at + 1) l)) ≡ Some b → (at ≤ b) × (b < at + length (x ∷ l))
    go f true u q = let k : at ≡ b = some_inj q in (omega (arith, k), omega (arith, k))
    go f false true q = no_some q
    go f false false q = let k = f q in (omega (arith, k.0), omega (arith, k.1))

pub on_line_within : (s : List ℕ) (at end : ℕ) {b : ℕ} → on_line s at end ≡ Some b → (at ≤ b) × (b < length s)
unfolding on_line
on_line_within s at end e = let k = line_within end at (drop at s) e in (k.0, omega (arith, k.0, k.1, length-drop at s))
