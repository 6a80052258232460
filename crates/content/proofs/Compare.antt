-- Comparing two texts character by character; r is the answer on the whole.
use Prim.Native.Nat.{ℕ, ◌+◌, ◌≤◌, ◌<◌}
use mathlib.Core.Path.{◌≡◌, refl, sym, ap, ◌∙◌}
use mathlib.Core.List.{List, [], ◌∷◌}
use mathlib.Core.Bool.{Bool, true, false, not, ◌&&◌}
use lib.Dec.{eqb, ltb, leb}
use lib.ListN.{length, get_or, drop, drop_of_length-le}
use borrow.Author.Tests.{eq-eqb, ne_eqb, le-leb, lt-leb, eqb-true, eqb-false, ltb-true, not-true}
use native.Mathlib.Omega.{arith}
use Rattle.rules.specs.Basic.{eq_list}
use Rattle.rules.specs.Utf8.{chars_from, chars}
use Rattle.rules.proofs.Basics.{by_order, and_left, and_right}
use Rattle.rules.proofs.SameChars.{eq_itself, eq_true}
use Rattle.utf8.specs.declared.Char.{Char}
use Rattle.utf8.specs.Reading.{char_of}
use Rattle.utf8.proofs.Turns.{ascii_char}
use Rattle.utf8.proofs.Steps.{char_step}
use Rattle.content.specs.Contents.{content_in, kept_in}
use Rattle.content.specs.Readings.{char_in, plain_byte, same_plain}
use Rattle.content.proofs.Chars.{content_step, content_none, in_ascii}
use Rattle.content.specs.Kept.{KeptStep}
use Rattle.content.proofs.Kept.{kept_ascii, kept_none, kept_some}

module _ {xs ys : List ℕ} {r : Bool} (v : eq_list xs ys ≡ r) where
  pub eq_on : {x y : ℕ} {xs' ys' : List ℕ} → xs ≡ x ∷ xs' → ys ≡ y ∷ ys' → x ≡ y → eq_list xs' ys' ≡ r
  unfolding eq_list
  eq_on {x} {y} {xs'} {ys'} e f q = let k : eq_list (x ∷ xs') (y ∷ ys') ≡ r = rw (e, f) at v in rw (eq-eqb x y q) at k

  pub eq_differ : {x y : ℕ} {xs' ys' : List ℕ} → xs ≡ x ∷ xs' → ys ≡ y ∷ ys' → (x ≡ y → ⊥) → false ≡ r
  unfolding eq_list
  eq_differ {x} {y} {xs'} {ys'} e f q = let k : eq_list (x ∷ xs') (y ∷ ys') ≡ r = rw (e, f) at v in rw (ne_eqb x y q) at k

  pub eq_longer : {x : ℕ} {xs' : List ℕ} → xs ≡ x ∷ xs' → ys ≡ [] → false ≡ r
  unfolding eq_list
  eq_longer e f = rw (e, f) at v

  pub eq_ends : xs ≡ [] → ys ≡ [] → true ≡ r
  unfolding eq_list
  eq_ends e f = rw (e, f) at v

  pub eq_shorter : {y : ℕ} {ys' : List ℕ} → xs ≡ [] → ys ≡ y ∷ ys' → false ≡ r
  unfolding eq_list
  eq_shorter e f = rw (e, f) at v

-- ---- two readings of bytes, each a character at a time

pub record Stepped (g : List ℕ → List ℕ) (f : List ℕ) (i x n : ℕ) : Type 0 where
  pub reads : g (drop i f) ≡ x ∷ g (drop (i + n) f)
  pub least : 0 < n
  pub most : i + n ≤ length f

pub content_on : {f : List ℕ} {i : ℕ} {ch : Char} → i < length f → ch ≡ char_in (drop i f) → Stepped content_in f i ch.code ch.size
content_on {f} {i} {ch} h e = let k = content_step f i ch h e in record { reads = k.reads; least = k.least; most = k.most }

pub kept_step : {f : List ℕ} {i : ℕ} {ch : Char} → KeptStep f i ch → Stepped kept_in f i ch.code ch.size
kept_step k = record { reads = k.reads; least = k.least; most = k.most }

pub chars_step : {f : List ℕ} {i : ℕ} {ch : Char} → i < length f → ch ≡ char_of (drop i f) → Stepped chars f i ch.code ch.size
chars_step {f} {i} {ch} h e = let k = char_step f i ch h e in record { reads = k.reads; least = k.least; most = k.most }

-- the bounds of one character, as the code meets them
module _ (f : List ℕ) (i : ℕ) where
  pub least_in : i < length f → 0 < (char_in (drop i f)).size
  least_in h = (content_step f i _ h refl).least

  pub most_in : i < length f → i + (char_in (drop i f)).size ≤ length f
  most_in h = (content_step f i _ h refl).most

  pub least_of : i < length f → 0 < (char_of (drop i f)).size
  least_of h = (char_step f i _ h refl).least

  pub most_of : i < length f → i + (char_of (drop i f)).size ≤ length f
  most_of h = (char_step f i _ h refl).most

pub ruleset sizes = (least_in, most_in, least_of, most_of)

pub record Comparing (g h : List ℕ → List ℕ) (f w : List ℕ) (i j : ℕ) : Type 0 where
  pub left : i ≤ length f
  pub right : j ≤ length w
  pub is : eq_list (g (drop i f)) (h (drop j w)) ≡ eq_list (g f) (h w)

pub comparing : {g h : List ℕ → List ℕ} {f w : List ℕ} → Comparing g h f w 0 0
comparing = record { left = omega arith; right = omega arith; is = refl }

module _ {g h : List ℕ → List ℕ} {f w : List ℕ} {i j : ℕ} (v : Comparing g h f w i j) where
  module _ {x n y m : ℕ} (a : Stepped g f i x n) (b : Stepped h w j y m) where
    pub compare_on : x ≡ y → Comparing g h f w (i + n) (j + m)
    compare_on q = record { left = a.most; right = b.most; is = eq_on v.is a.reads b.reads q }

    pub compare_differ : (x ≡ y → ⊥) → false ≡ eq_list (g f) (h w)
    compare_differ q = eq_differ v.is a.reads b.reads q

-- the same bytes are read the same
pub same_reading : (g : List ℕ → List ℕ) (f w : List ℕ) {t : Bool} → t ≡ eq_list f w → t ≡ true → true ≡ eq_list (g f) (g w)
same_reading g f w e q = let k : f ≡ w = eq_true f w (sym e ∙ q) in rw k (sym (eq_itself (g w)))

-- ---- a plain byte

pub record Plain (b : ℕ) : Type 0 where
  pub low : b < 128
  pub bare : b ≡ 92 → ⊥
  pub solid : b ≡ 32 → ⊥

pub plain : (b : ℕ) → plain_byte b ≡ true → Plain b
unfolding plain_byte
plain b t =
    let l = and_left (ltb b 128 && not (eqb b 92)) _ t in
    record {
      low = ltb-true b 128 (and_left (ltb b 128) _ l);
      bare = eqb-false b 92 (not-true (eqb b 92) (and_right (ltb b 128) _ l));
      solid = eqb-false b 32 (not-true (eqb b 32) (and_right (ltb b 128 && not (eqb b 92)) _ t));
    }

pub plain_low : (b : ℕ) {t : Bool} → t ≡ plain_byte b → t ≡ true → b < 128
plain_low b e q = (plain b (sym e ∙ q)).low

module _ {f : List ℕ} {i x : ℕ} (h : i < length f) (e : x ≡ get_or f i 0) where
  pub ascii_chars : get_or f i 0 < 128 → Stepped chars f i x 1
  ascii_chars l = chars_step h (ascii_char f i h x e l)

  module _ (t : plain_byte (get_or f i 0) ≡ true) where
    pub plain_chars : Stepped chars f i x 1
    plain_chars = ascii_chars (plain (get_or f i 0) t).low

    pub plain_content : Stepped content_in f i x 1
    plain_content = let p = plain (get_or f i 0) t in content_on h (in_ascii f i h e p.low p.bare)

    pub plain_kept : Stepped kept_in f i x 1
    plain_kept = let p = plain (get_or f i 0) t in kept_step (kept_ascii f i h e p.low p.bare p.solid)

-- the same plain byte in both
module _ {g h : List ℕ → List ℕ} {f w : List ℕ} {i j : ℕ} (v : Comparing g h f w i j) {t : Bool} (e : t ≡ same_plain (get_or f i 0) (get_or w j 0)) (q : t ≡ true) where
  pub plain_on : (plain_byte (get_or f i 0) ≡ true → Stepped g f i (get_or f i 0) 1) → (plain_byte (get_or w j 0) ≡ true → Stepped h w j (get_or w j 0) 1) → Comparing g h f w (i + 1) (j + 1)
  unfolding same_plain
  plain_on a b =
      let s = sym e ∙ q in
      let k : get_or f i 0 ≡ get_or w j 0 = eqb-true _ _ (and_left (eqb (get_or f i 0) (get_or w j 0)) _ s) in
      let p = and_right (eqb (get_or f i 0) (get_or w j 0)) _ s in
      compare_on v (a p) (b (ap plain_byte (sym k) ∙ p)) k

-- ---- a content against a text, and against another

-- a reading that ends where the bytes end
pub record Ending (g : List ℕ → List ℕ) (f : List ℕ) (i : ℕ) : Type 0 where
  pub none : length f ≤ i → g (drop i f) ≡ []
  pub code : ℕ
  pub more : List ℕ
  pub some : i < length f → g (drop i f) ≡ code ∷ more

pub kept_ending : (f : List ℕ) (i : ℕ) → Ending kept_in f i
kept_ending f i = record { none = kept_none f i; code = _; more = _; some = kept_some f i }

pub content_ending : (f : List ℕ) (i : ℕ) → Ending content_in f i
content_ending f i =
    record { none = content_none f i; code = (char_in (drop i f)).code; more = content_in (drop (i + (char_in (drop i f)).size) f); some = λ h. (content_step f i (char_in (drop i f)) h refl).reads }

pub chars_ending : (f : List ℕ) (i : ℕ) → Ending chars f i
unfolding chars chars_from
chars_ending f i = record { none = λ h. rw (drop_of_length-le f h); code = (char_of (drop i f)).code; more = chars (drop (i + (char_of (drop i f)).size) f); some = λ h. (char_step f i (char_of (drop i f)) h refl).reads }

module _ {g h : List ℕ → List ℕ} {f w : List ℕ} {i j : ℕ} (v : Comparing g h f w i j) (a : Ending g f i) (b : Ending h w j) where
  pub compare_longer : i < length f → length w ≤ j → false ≡ eq_list (g f) (h w)
  compare_longer l m = eq_longer v.is (a.some l) (b.none m)

  pub compare_end : length f ≤ i → leb (length w) j ≡ eq_list (g f) (h w)
  compare_end l =
      by_order (length w) j (λ m. le-leb (length w) j m ∙ eq_ends v.is (a.none l) (b.none m))
      (λ m. lt-leb (length w) j m ∙ eq_shorter v.is (a.none l) (b.some m))
