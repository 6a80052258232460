-- Brackets around a content, and plain words in it, where blanks collapse and where they do not.
use Prim.Native.Nat.{ℕ, ◌+◌, ◌≤◌, ◌<◌}
use mathlib.Core.Path.{◌≡◌, refl, sym, ap, ◌∙◌}
use mathlib.Core.List.{List, [], ◌∷◌}
use mathlib.Core.Bool.{Bool, true, false, ◌&&◌}
use Rattle.std.specs.Prelude.{Option, None, Some}
use native.Mathlib.Omega.{arith}
use lib.Dec.{eqb}
use lib.ListN.{length, drop}
use borrow.Author.Tests.{eq-eqb, ne_eqb, eqb-true}
use Rattle.rules.specs.Basic.{pick, blank, eq_list, on_some, word_in}
use Rattle.rules.specs.Words as words
use Rattle.rules.specs.Words.{config_keys, define_words, duplicate_words}
use Rattle.rules.specs.Text.{retain, text_trimmed, text_outer_trimmed}
use Rattle.rules.specs.Utf8.{chars}
use Rattle.rules.specs.Modes as rules
use Rattle.rules.specs.Modes.{key_of, is_bracketed, ends_with_bracket}
use Rattle.utf8.specs.declared.Char.{Char}
use Rattle.sheet.specs.Words as sheet
use Rattle.sheet.specs.declared.ConfigKey.TheVariants as config
use Rattle.content.specs.Contents.{content_in, kept_in}
use Rattle.content.specs.Readings.{char_in}
use Rattle.content.proofs.Chars.{content_first, content_step, content_none}
use Rattle.content.proofs.Kept.{retain_keeps}
use Rattle.content.proofs.Words.{is_plain, plain_word, plain, plain_words, kept_keys, kept_defines, kept_duplicates}
use Rattle.content.proofs.Retains.{kept_trimmed}
use Rattle.rules.proofs.Basics.{and_left, and_right}
use Rattle.text.specs.Trims.{TrimmedTo}
use Rattle.config_keys.specs.Keys.{key_in}
use Rattle.config_keys.specs.declared.Key.TheVariants.{Define, Duplicate, Unknown, Ordinary}

-- ---- the last character

ends_after : (c : ℕ) (xs : List ℕ) → eqb c 93 ≡ false → ends_with_bracket (c ∷ xs) ≡ ends_with_bracket xs
unfolding ends_with_bracket
ends_after c [] e = e
ends_after c (x ∷ xs) e = refl

ends_two : (c d : ℕ) (xs : List ℕ) → ends_with_bracket (c ∷ d ∷ xs) ≡ ends_with_bracket (d ∷ xs)
unfolding ends_with_bracket
ends_two c d xs = refl

pub record Passing (f : List ℕ) (at i last : ℕ) : Type 0 where
  pub is : ends_with_bracket (last ∷ content_in (drop i f)) ≡ ends_with_bracket (content_in (drop at f))

pub passing : (f : List ℕ) (at : ℕ) → Passing f at at 0
passing f at = record { is = ends_after 0 (content_in (drop at f)) refl }

module _ {f : List ℕ} {at i last : ℕ} (v : Passing f at i last) where
  pub pass_on : (ch : Char) → i < length f → ch ≡ char_in (drop i f) → Passing f at (i + ch.size) ch.code
  pass_on ch h e =
      let z = content_step f i ch h e in
      record { is = sym (ends_two last ch.code (content_in (drop (i + ch.size) f))) ∙ (ap (λ (xs : List ℕ). ends_with_bracket (last ∷ xs)) (sym z.reads) ∙ v.is) }

  pub pass_end : length f ≤ i → eqb last 93 ≡ ends_with_bracket (content_in (drop at f))
  unfolding ends_with_bracket
  pass_end h = rw (content_none f i h) at v.is

-- ---- brackets

pub bracket_none : (f : List ℕ) → length f ≡ 0 → false ≡ is_bracketed (content_in f)
unfolding is_bracketed
bracket_none f e = let q : content_in f ≡ [] = content_none f 0 (omega arith) in rw q

module _ (f : List ℕ) (ch : Char) (l : length f ≡ 0 → ⊥) (e : ch ≡ char_in f) where
  first_read : content_in f ≡ ch.code ∷ content_in (drop ch.size f)
  first_read = rw e (content_first f (omega arith)).reads

  pub bracket_other : (ch.code ≡ 91 → ⊥) → false ≡ is_bracketed (content_in f)
  unfolding is_bracketed
  bracket_other n = rw (first_read, ne_eqb ch.code 91 n)

  pub bracket_first : ch.code ≡ 91 → {r : Bool} → r ≡ ends_with_bracket (content_in (drop ch.size f)) → r ≡ is_bracketed (content_in f)
  unfolding is_bracketed
  bracket_first q p = p ∙ sym (rw (first_read, eq-eqb ch.code 91 q))

-- ---- blanks that collapse

ends_retain : (p : ℕ) (cs : List ℕ) → ends_with_bracket (p ∷ retain p cs) ≡ ends_with_bracket (p ∷ cs)
unfolding retain
ends_retain p [] = refl
ends_retain p (c ∷ cs) = go (eqb c blank) (eqb p blank) refl refl (ends_retain c cs)
  where
    go : (x y : Bool) → eqb c blank ≡ x → eqb p blank ≡ y → ends_with_bracket (c ∷ retain c cs) ≡ ends_with_bracket (c ∷ cs)
        → ends_with_bracket (p ∷ pick (x && y) (retain c cs) (c ∷ retain c cs)) ≡ ends_with_bracket (p ∷ c ∷ cs)
    go true true a b ih = let q : p ≡ c = eqb-true p blank b ∙ sym (eqb-true c blank a) in ap (λ (z : ℕ). ends_with_bracket (z ∷ retain c cs)) q ∙ (ih ∙ sym (ends_two p c cs))
    go true false a b ih = ends_two p c (retain c cs) ∙ (ih ∙ sym (ends_two p c cs))
    go false y a b ih = ends_two p c (retain c cs) ∙ (ih ∙ sym (ends_two p c cs))

bracket_cons : (c : ℕ) (xs : List ℕ) → is_bracketed (c ∷ xs) ≡ (eqb c 91 && ends_with_bracket xs)
unfolding is_bracketed
bracket_cons c xs = refl

bracket_rest : (c : ℕ) (cs : List ℕ) (x : Bool) → eqb c 91 ≡ x → (eqb c 91 && ends_with_bracket (retain c cs)) ≡ (eqb c 91 && ends_with_bracket cs)
bracket_rest c cs true e =
    let q = eqb-true c 91 e in
    let n : eqb c 93 ≡ false = ne_eqb c 93 (λ u. omega arith) in
    ap (λ (b : Bool). eqb c 91 && b) (sym (ends_after c (retain c cs) n) ∙ (ends_retain c cs ∙ ends_after c cs n))
bracket_rest c cs false e = rw e

bracket_retain : (cs : List ℕ) → is_bracketed (retain 0 cs) ≡ is_bracketed cs
unfolding retain
bracket_retain [] = refl
bracket_retain (c ∷ cs) = ap is_bracketed (retain_keeps 0 c cs (λ e. omega arith)) ∙ (bracket_cons c (retain c cs) ∙ (bracket_rest c cs (eqb c 91) refl ∙ sym (bracket_cons c cs)))

word_retain : (p : ℕ) (cs w : List ℕ) → plain_word w ≡ true → (p ≡ 32 → ⊥) → eq_list (retain p cs) w ≡ eq_list cs w
unfolding plain_word
word_retain p [] w t n = unfold retain in refl
word_retain p (c ∷ cs) [] t n = rw (retain_keeps p c cs n) (unfold eq_list in refl)
word_retain p (c ∷ cs) (b ∷ w) t n = rw (retain_keeps p c cs n) (go (eqb c b) refl (λ m. word_retain c cs w (and_right (is_plain b) _ t) m))
  where
    go : (x : Bool) → eqb c b ≡ x → ((c ≡ 32 → ⊥) → eq_list (retain c cs) w ≡ eq_list cs w) → eq_list (c ∷ retain c cs) (b ∷ w) ≡ eq_list (c ∷ cs) (b ∷ w)
    go true e ih = let q = eqb-true c b e in unfold eq_list in (ap (λ (y : Bool). pick (eqb c b) y false) (ih (λ u. let k = plain b (and_left _ _ t) in omega (arith, k.high))))
    go false e ih = unfold eq_list in (rw e)

module _ {A : Type 0} where
  word_in_retain : (cs : List ℕ) (table : List (List ℕ × A)) → plain_words table ≡ true → word_in (retain 0 cs) table ≡ word_in cs table
  unfolding plain_words word_in
  word_in_retain cs [] t = refl
  word_in_retain cs (e ∷ es) t = rw (word_retain 0 cs e.0 (and_left _ _ t) (λ u. omega arith), word_in_retain cs es (and_right (plain_word e.0) _ t))

-- ---- values

module _ {f w : List ℕ} (d : TrimmedTo f w) where
  pub define_trimmed : {o : Option words.DefineMode} → o ≡ word_in (chars w) define_words → o ≡ word_in (text_outer_trimmed (content_in f)) define_words
  unfolding plain_words plain_word is_plain kept_in
  define_trimmed q = q ∙ (sym (kept_defines w) ∙ (word_in_retain (content_in w) define_words refl ∙ ap (λ (cs : List ℕ). word_in cs define_words) d.is))

  pub duplicate_trimmed : {o : Option words.DuplicateMode} → o ≡ word_in (chars w) duplicate_words → o ≡ word_in (text_outer_trimmed (content_in f)) duplicate_words
  unfolding plain_words plain_word is_plain kept_in
  duplicate_trimmed q = q ∙ (sym (kept_duplicates w) ∙ (word_in_retain (content_in w) duplicate_words refl ∙ ap (λ (cs : List ℕ). word_in cs duplicate_words) d.is))

  -- ---- keys

  key_is : (o : Option words.ConfigKey) {b : Bool} → o ≡ word_in (chars w) config_keys → is_bracketed (content_in w) ≡ b → rules.key_as o b ≡ key_of (text_trimmed (content_in f))
  unfolding key_of kept_in
  key_is o p q =
      let k : text_trimmed (content_in f) ≡ retain 0 (content_in w) = sym (kept_trimmed f w d.is) in
      sym (ap key_of k ∙ (ap (λ (x : Option words.ConfigKey). rules.key_as x (is_bracketed (retain 0 (content_in w)))) (kept_keys w ∙ sym p) ∙ ap (rules.key_as o) (bracket_retain (content_in w) ∙ q)))

  pub key_define : on_some sheet.key_in (Some config.Define) ≡ word_in (chars w) config_keys → key_in Define ≡ key_of (text_trimmed (content_in f))
  unfolding key_in rules.key_as sheet.key_in on_some
  key_define p = key_is (Some words.define_key) p refl

  pub key_duplicate : on_some sheet.key_in (Some config.Duplicate) ≡ word_in (chars w) config_keys → key_in Duplicate ≡ key_of (text_trimmed (content_in f))
  unfolding key_in rules.key_as sheet.key_in on_some
  key_duplicate p = key_is (Some words.duplicate_key) p refl

  module _ (p : on_some sheet.key_in None ≡ word_in (chars w) config_keys) {b : Bool} (q : b ≡ is_bracketed (content_in w)) where
    pub key_unknown : b ≡ true → key_in Unknown ≡ key_of (text_trimmed (content_in f))
    unfolding key_in rules.key_as on_some
    key_unknown t = key_is None p (sym q ∙ t)

    pub key_ordinary : b ≡ false → key_in Ordinary ≡ key_of (text_trimmed (content_in f))
    unfolding key_in rules.key_as on_some
    key_ordinary t = key_is None p (sym q ∙ t)
