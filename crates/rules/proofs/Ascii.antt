-- Words of ASCII: the code points of a field are such a word where its bytes are.
use Prim.Native.Nat.{ℕ, ◌+◌, ◌*◌, ◌%◌, ◌≤◌, ◌<◌}
use mathlib.Core.Path.{◌≡◌, refl, sym, ◌∙◌}
use mathlib.Core.List.{List, [], ◌∷◌}
use mathlib.Core.Bool.{Bool, true, false, ◌&&◌}
use Rattle.std.specs.Prelude.{Option, None, Some}
use native.Mathlib.Omega.{arith}
use lib.Dec.{ltb}
use borrow.Author.Tests.{ltb-true, ne_eqb}
use Rattle.rules.specs.Basic.{eq_list, word_in}
use Rattle.rules.specs.Utf8.{first_of, char_or, chars_from, chars}
use Rattle.rules.specs.Words.{event_words, block_kinds, value_kinds, config_keys, define_words, duplicate_words}
use Rattle.rules.proofs.Basics.{by_order, and_left, and_right}
use Rattle.rules.proofs.Begins.{Begins, one, two, three, four, begins}
use Rattle.rules.proofs.Chars.{chars_ascii}
use Rattle.rules.proofs.Encodes.{least_3, least_4}

-- a text that starts beyond ASCII
pub data Beyond : List ℕ → Type 0 where
  beyond : {c : ℕ} {cs : List ℕ} → 128 ≤ c → Beyond (c ∷ cs)

begins_beyond : {a : ℕ} {s : List ℕ} {c : ℕ} → Begins a s c → 128 ≤ a → 128 ≤ c
begins_beyond (one {a} h) l = l
begins_beyond (two {a} {b} h g q) l = pair (a % 32) (b % 64) (omega arith)
  where
    pair : (x y : ℕ) → 2 ≤ x → 128 ≤ x * 64 + y
    pair x y h = omega arith
begins_beyond (three {a} {b} {d} h g q k) l = triple (a % 16) (b % 64) (d % 64) (least_3 a b h g q)
  where
    triple : (x y z : ℕ) → 32 ≤ x * 64 + y → 128 ≤ x * 4096 + y * 64 + z
    triple x y z h = omega arith
begins_beyond (four {a} {b} {d} {g} h i q k j) l = quad (a % 8) (b % 64) (d % 64) (g % 64) (least_4 a b h i q)
  where
    quad : (x y z w : ℕ) → 16 ≤ x * 64 + y → 128 ≤ x * 262144 + y * 4096 + z * 64 + w
    quad x y z w h = omega arith

pub char_beyond : (a : ℕ) (s : List ℕ) → 128 ≤ a → 128 ≤ char_or (first_of a s)
char_beyond a s l = go (first_of a s) refl
  where
    go : (o : Option ℕ) → first_of a s ≡ o → 128 ≤ char_or o
    go None e = unfold char_or in omega arith
    go (Some c) e = unfold char_or in begins_beyond (begins a s c e) l

pub chars_beyond : (a : ℕ) (s : List ℕ) → 128 ≤ a → Beyond (chars (a ∷ s))
unfolding chars chars_from
chars_beyond a s l = beyond (char_beyond a s l)

-- ---- words

unfoldable pub all_ascii : List ℕ → Bool
all_ascii [] = true
all_ascii (c ∷ cs) = ltb c 128 && all_ascii cs

eq_beyond : {cs : List ℕ} (b : ℕ) (w : List ℕ) → b < 128 → Beyond cs → eq_list cs (b ∷ w) ≡ false
unfolding eq_list
eq_beyond b w h (beyond {c} l) = rw (ne_eqb c b (λ e. omega arith))

pub word_chars : (w f : List ℕ) → all_ascii w ≡ true → eq_list (chars f) w ≡ eq_list f w
unfolding all_ascii eq_list
word_chars w [] t = unfold chars chars_from in refl
word_chars [] (a ∷ s) t = unfold chars chars_from in refl
word_chars (b ∷ w) (a ∷ s) t =
    by_order a 127
    (λ h. rw (chars_ascii a s (omega arith), word_chars w s (and_right (ltb b 128) _ t)))
    (λ h. let l = ltb-true b 128 (and_left _ _ t) in eq_beyond b w l (chars_beyond a s h) ∙ sym (eq_beyond b w l (beyond {cs = s} h)))

-- every word of a table is ASCII
module _ {A : Type 0} where
  unfoldable pub ascii_words : List (List ℕ × A) → Bool
  ascii_words [] = true
  ascii_words (e ∷ es) = all_ascii e.0 && ascii_words es

  pub word_in_chars : (f : List ℕ) (table : List (List ℕ × A)) → ascii_words table ≡ true → word_in (chars f) table ≡ word_in f table
  unfolding ascii_words word_in
  word_in_chars f [] t = refl
  word_in_chars f (e ∷ es) t =
      rw (word_chars e.0 f (and_left _ _ t), word_in_chars f es (and_right (all_ascii e.0) _ t))

-- the tables of the rules are such
pub ascii_events : ascii_words event_words ≡ true
unfolding ascii_words all_ascii
ascii_events = refl

pub ascii_blocks : ascii_words block_kinds ≡ true
unfolding ascii_words all_ascii
ascii_blocks = refl

pub ascii_values : ascii_words value_kinds ≡ true
unfolding ascii_words all_ascii
ascii_values = refl

pub ascii_keys : ascii_words config_keys ≡ true
unfolding ascii_words all_ascii
ascii_keys = refl

pub ascii_defines : ascii_words define_words ≡ true
unfolding ascii_words all_ascii
ascii_defines = refl

pub ascii_duplicates : ascii_words duplicate_words ≡ true
unfolding ascii_words all_ascii
ascii_duplicates = refl
