-- A content is a plain word where the bytes of its field are.
use Prim.Native.Nat.{ℕ, ◌<◌}
use mathlib.Core.Path.{◌≡◌, refl, sym, ap, ◌∙◌}
use mathlib.Core.List.{List, [], ◌∷◌}
use mathlib.Core.Bool.{Bool, true, false, ◌&&◌, not}
use native.Mathlib.Omega.{arith}
use lib.Dec.{eqb, ltb}
use lib.ListN.{drop}
use borrow.Author.Tests.{eqb-true, eqb-false, ltb-true, ne_eqb}
use Rattle.rules.specs.Basic.{pick, eq_list, word_in}
use Rattle.rules.specs.Text.{retain}
use Rattle.rules.specs.Utf8.{chars}
use Rattle.rules.specs.Words.{config_keys, define_words, duplicate_words}
use Rattle.rules.proofs.Basics.{and_left, and_right}
use Rattle.rules.proofs.Ascii.{word_in_chars, ascii_keys, ascii_defines, ascii_duplicates}
use Rattle.content.specs.Contents.{content_in, kept_in}
use Rattle.content.specs.Readings.{char_in}
use Rattle.content.proofs.Chars.{ContentFirst, content_first, no_content}
use Rattle.content.proofs.Kept.{Unescaped, retain_front, retain_keeps, code_byte, byte_code}

-- ASCII past the blank, and no backslash: it is never escaped
unfoldable pub is_plain : ℕ → Bool
is_plain b = ltb 32 b && ltb b 128 && not (eqb b 92)

unfoldable pub plain_word : List ℕ → Bool
plain_word [] = true
plain_word (b ∷ w) = is_plain b && plain_word w

pub record Plain (b : ℕ) : Type 0 where
  pub high : 32 < b
  pub low : b < 128
  pub no92 : b ≡ 92 → ⊥

pub never_escaped : {b : ℕ} → Plain b → Unescaped b
never_escaped p =
    let h = p.high in
    record { no92 = p.no92; no9 = λ e. omega arith; no10 = λ e. omega arith; no13 = λ e. omega arith }

not_eq : (b x : ℕ) → not (eqb b x) ≡ true → b ≡ x → ⊥
not_eq b x t e = go (eqb b x) refl t
  where
    go : (y : Bool) → eqb b x ≡ y → not y ≡ true → ⊥
    go true q t = let z : ◌≡◌ {A = ℕ} 0 1 = cc in omega arith
    go false q t = eqb-false b x q e

pub plain : (b : ℕ) → is_plain b ≡ true → Plain b
unfolding is_plain
plain b t =
    let t2 = and_left (ltb 32 b && ltb b 128) _ t in
    record {
      high = ltb-true 32 b (and_left (ltb 32 b) _ t2);
      low = ltb-true b 128 (and_right (ltb 32 b) _ t2);
      no92 = not_eq b 92 (and_right (ltb 32 b && ltb b 128) _ t);
    }

eq_cons : (x y : ℕ) (xs ys : List ℕ) → (x ≡ y → ⊥) → eq_list (x ∷ xs) (y ∷ ys) ≡ false
unfolding eq_list
eq_cons x y xs ys n = rw (ne_eqb x y n)

word_turn : (b : ℕ) (w : List ℕ) (a : ℕ) (s : List ℕ) → Plain b → (a ≡ b → eq_list (retain 0 (content_in s)) w ≡ eq_list s w)
    → eq_list (retain 0 (content_in (a ∷ s))) (b ∷ w) ≡ eq_list (a ∷ s) (b ∷ w)
word_turn b w a s k ih = go (eqb a b) refl
  where
    f : ContentFirst (a ∷ s) (char_in (a ∷ s))
    f = content_first (a ∷ s) (omega arith)

    go : (x : Bool) → eqb a b ≡ x → eq_list (retain 0 (content_in (a ∷ s))) (b ∷ w) ≡ eq_list (a ∷ s) (b ∷ w)
    go true e =
        let q = eqb-true a b e in
        let g : content_in (a ∷ s) ≡ a ∷ content_in s = rw (byte_code a s (rw q k.low) (λ u. k.no92 (sym q ∙ u))) at f.reads in
        rw (g, retain_keeps 0 a (content_in s) (λ e. omega arith), retain_front a (content_in s) (λ u. omega (arith, k.high)))
        (unfold eq_list in (ap (λ (y : Bool). pick (eqb a b) y false) (ih q)))
    go false e =
        let n = eqb-false a b e in
        let c = (char_in (a ∷ s)).code in
        let m : c ≡ b → ⊥ = λ q. n (code_byte a s b k.low (never_escaped k) q) in
        rw (f.reads, retain_keeps 0 c (content_in (drop (char_in (a ∷ s)).size (a ∷ s))) (λ e. omega arith))
        (eq_cons c b _ w m ∙ sym (eq_cons a b s w n))

kept_word : (w f : List ℕ) → plain_word w ≡ true → eq_list (retain 0 (content_in f)) w ≡ eq_list f w
unfolding plain_word
kept_word w [] t = rw no_content (unfold retain in refl)
kept_word [] (a ∷ s) t =
    let f = content_first (a ∷ s) (omega arith) in
    rw (f.reads, retain_keeps 0 (char_in (a ∷ s)).code (content_in (drop (char_in (a ∷ s)).size (a ∷ s))) (λ e. omega arith)) (unfold eq_list in refl)
kept_word (b ∷ w) (a ∷ s) t = word_turn b w a s (plain b (and_left _ _ t)) (λ _. kept_word w s (and_right (is_plain b) _ t))

pub word_kept : (w f : List ℕ) → plain_word w ≡ true → eq_list (kept_in f) w ≡ eq_list f w
unfolding kept_in
word_kept w f t = kept_word w f t

-- ---- tables of such words

module _ {A : Type 0} where
  unfoldable pub plain_words : List (List ℕ × A) → Bool
  plain_words [] = true
  plain_words (e ∷ es) = plain_word e.0 && plain_words es

  pub word_in_kept : (f : List ℕ) (table : List (List ℕ × A)) → plain_words table ≡ true → word_in (kept_in f) table ≡ word_in f table
  unfolding plain_words word_in
  word_in_kept f [] t = refl
  word_in_kept f (e ∷ es) t = rw (word_kept e.0 f (and_left _ _ t), word_in_kept f es (and_right (plain_word e.0) _ t))

-- the words of config lines
pub kept_keys : (f : List ℕ) → word_in (kept_in f) config_keys ≡ word_in (chars f) config_keys
unfolding plain_words plain_word is_plain
kept_keys f = word_in_kept f config_keys refl ∙ sym (word_in_chars f config_keys ascii_keys)

pub kept_defines : (f : List ℕ) → word_in (kept_in f) define_words ≡ word_in (chars f) define_words
unfolding plain_words plain_word is_plain
kept_defines f = word_in_kept f define_words refl ∙ sym (word_in_chars f define_words ascii_defines)

pub kept_duplicates : (f : List ℕ) → word_in (kept_in f) duplicate_words ≡ word_in (chars f) duplicate_words
unfolding plain_words plain_word is_plain
kept_duplicates f = word_in_kept f duplicate_words refl ∙ sym (word_in_chars f duplicate_words ascii_duplicates)
