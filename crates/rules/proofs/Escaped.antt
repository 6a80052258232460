-- A field is UTF-8 where its escaped bytes are.
use Prim.Native.Nat.{ℕ, ◌+◌, ◌/◌, ◌%◌, ◌≤◌, ◌<◌}
use mathlib.Core.Path.{◌≡◌, refl, sym, ap, ◌∙◌}
use mathlib.Core.List.{List, [], ◌∷◌, ◌++◌}
use mathlib.Core.Bool.{Bool, true, false}
use Rattle.std.specs.Prelude.{Option, None, Some}
use native.Mathlib.Omega.{arith}
use lib.Dec.{eqb, ltb}
use borrow.Author.Tests.{ltb-true, eqb-true, eqb-false, ne_eqb}
use Rattle.rules.specs.Utf8.{is_utf8, encode_char, encode, Scalar}
use Rattle.rules.specs.Sheet.{escaped, bare, onto, unescape, escape_char, escape}
use Rattle.rules.proofs.Basics.{pick_either, by_order, no_some, some_inj}
use Rattle.rules.proofs.Fields.{unescape_one, bare_is, escape_cases, escaped_cases, read, char_past}
use Rattle.rules.proofs.Chars.{well_utf8, utf8_none, utf8_ascii}
use Rattle.rules.proofs.Scalars.{Scalars, scalars_none, scalars_more, chars_scalars}
use Rattle.rules.proofs.Encodes.{spelled, spelled_well, encode_1, encode_chars}

-- bytes beyond ASCII
pub data Highs : List ℕ → Type 0 where
  highs_none : Highs []
  highs_more : {a : ℕ} {s : List ℕ} → 128 ≤ a → Highs s → Highs (a ∷ s)

pub encode_highs : (c : ℕ) → 128 ≤ c → Highs (encode_char c)
unfolding encode_char
encode_highs c h =
    pick_either Highs (ltb c 128) _ _ (λ b. let l = ltb-true c 128 b in absurd (omega arith))
    (λ _. pick_either Highs (ltb c 2048) _ _ (λ _. highs_more (from 64 (c / 64)) (highs_more (from 0 (c % 64)) highs_none))
    (λ _. pick_either Highs (ltb c 65536) _ _
    (λ _. highs_more (from 96 (c / 4096)) (highs_more (from 0 (c / 64 % 64)) (highs_more (from 0 (c % 64)) highs_none)))
    (λ _. highs_more (from 112 (c / 262144)) (highs_more (from 0 (c / 4096 % 64)) (highs_more (from 0 (c / 64 % 64)) (highs_more (from 0 (c % 64)) highs_none))))))
  where
    from : (k x : ℕ) → 128 ≤ 128 + k + x
    from k x = omega arith

pub utf8_char : (c : ℕ) (t : List ℕ) → Scalar c → is_utf8 (encode_char c ++ t) ≡ is_utf8 t
utf8_char c t h = rw (well_utf8 (encode_char c ++ t), well_utf8 t) (spelled_well t (spelled c h))

-- ---- escape

escape_highs : {w : List ℕ} (t : List ℕ) → Highs w → escape (w ++ t) ≡ w ++ escape t
unfolding escape
escape_highs t highs_none = refl
escape_highs t (highs_more {a} {s} h g) = rw (char_past a (omega arith) (λ e. omega arith), escape_highs t g)

escape_ascii : (c : ℕ) (t : List ℕ) → c < 128 → is_utf8 (escape_char c ++ t) ≡ is_utf8 t
escape_ascii c t h =
    escape_cases (λ (w : List ℕ). is_utf8 (w ++ t) ≡ is_utf8 t) c (λ _. pair 92 (omega arith)) (λ _. pair 116 (omega arith)) (λ _. pair 110 (omega arith)) (λ _. pair 114 (omega arith))
    (λ _ _ _ _. utf8_ascii c t h)
  where
    pair : (d : ℕ) → d < 128 → is_utf8 (92 ∷ d ∷ t) ≡ is_utf8 t
    pair d g = utf8_ascii 92 (d ∷ t) (omega arith) ∙ utf8_ascii d t g

escape_scalars : {cs : List ℕ} → Scalars cs → is_utf8 (escape (encode cs)) ≡ true
unfolding encode escape
escape_scalars scalars_none = utf8_none
escape_scalars (scalars_more {c} {s} h g) =
    by_order c 127
    (λ l. rw (encode_1 c (omega arith)) (escape_ascii c (escape (encode s)) (omega arith) ∙ escape_scalars g))
    (λ l. rw (escape_highs (encode s) (encode_highs c l)) (utf8_char c (escape (encode s)) h ∙ escape_scalars g))

pub utf8_escape : (u : List ℕ) → is_utf8 u ≡ true → is_utf8 (escape u) ≡ true
utf8_escape u w = rw (encode_chars u w) at (escape_scalars (chars_scalars u))

-- ---- unescape

-- what t stands for is UTF-8
abbrev Safe : List ℕ → Type 0
Safe t = (u : List ℕ) → unescape t ≡ Some u → is_utf8 u ≡ true

pub unescape_plain : (c : ℕ) (s : List ℕ) → (c ≡ 92 → ⊥) → unescape (c ∷ s) ≡ onto (bare c) (unescape s)
unescape_plain c s n = unescape_one c s (ne_eqb c 92 n)

pub unescape_pair : (d : ℕ) (s : List ℕ) → unescape (92 ∷ d ∷ s) ≡ onto (escaped d) (unescape s)
unfolding unescape
unescape_pair d s = refl

-- what w ++ t stands for, w as it is and then what t stands for
record Kept (w t u : List ℕ) : Type 0 where
  rest : List ℕ
  is : u ≡ w ++ rest
  after : unescape t ≡ Some rest

kept_byte : (c : ℕ) (t u : List ℕ) → (c ≡ 92 → ⊥) → unescape (c ∷ t) ≡ Some u → Kept (c ∷ []) t u
kept_byte c t u n q =
    let j = read (bare c) (unescape t) u (sym (unescape_plain c t n) ∙ q) in
    record { rest = j.tail; is = j.is ∙ ap (λ (x : ℕ). x ∷ j.tail) (sym (bare_is c j.head j.first).is); after = j.others }

kept : {w : List ℕ} (t u : List ℕ) → Highs w → unescape (w ++ t) ≡ Some u → Kept w t u
kept t u highs_none q = record { rest = u; is = refl; after = q }
kept t u (highs_more {a} {s} h g) q =
    let k = kept_byte a (s ++ t) u (λ e. omega arith) q in
    let m = kept t k.rest g k.after in
    record { rest = m.rest; is = k.is ∙ ap (λ (x : List ℕ). a ∷ x) m.is; after = m.after }

safe_none : Safe []
unfolding unescape
safe_none u q = rw (← some_inj q) utf8_none

safe_step : (c : ℕ) (t : List ℕ) → Scalar c → Safe t → (c ≡ 92 → Safe (c ∷ t)) → Safe (encode_char c ++ t)
safe_step c t h f b u q = by_order c 127 low high
  where
    byte : c < 128 → (x : Bool) → eqb c 92 ≡ x → unescape (c ∷ t) ≡ Some u → is_utf8 u ≡ true
    byte l true e q = b (eqb-true c 92 e) u q
    byte l false e q =
        let k = kept_byte c t u (eqb-false c 92 e) q in
        rw k.is (utf8_ascii c k.rest l ∙ f k.rest k.after)

    low : c ≤ 127 → is_utf8 u ≡ true
    low l = byte (omega arith) (eqb c 92) refl (rw (encode_1 c (omega arith)) at q)

    high : 127 < c → is_utf8 u ≡ true
    high l =
        let k = kept t u (encode_highs c l) q in
        rw k.is (utf8_char c k.rest h ∙ f k.rest k.after)

-- what an escape stands for is ASCII
pub escaped_ascii : (d e : ℕ) → escaped d ≡ Some e → e < 128
escaped_ascii d e =
    escaped_cases (λ (o : Option ℕ). o ≡ Some e → e < 128) d (λ _. of 92 (omega arith)) (λ _. of 9 (omega arith)) (λ _. of 10 (omega arith)) (λ _. of 13 (omega arith)) (λ q. no_some q)
  where
    of : (x : ℕ) → x < 128 → Some x ≡ Some e → e < 128
    of x h q = let k : x ≡ e = some_inj q in omega arith

escaped_high : (d : ℕ) → 128 ≤ d → escaped d ≡ None
unfolding escaped
escaped_high d h = rw (ne_eqb d 92 (λ e. omega arith), ne_eqb d 116 (λ e. omega arith), ne_eqb d 110 (λ e. omega arith), ne_eqb d 114 (λ e. omega arith))

high_pair : {w : List ℕ} (t u : List ℕ) → Highs w → (w ≡ [] → ⊥) → unescape (92 ∷ (w ++ t)) ≡ Some u → is_utf8 u ≡ true
high_pair t u highs_none n q = absurd (n refl)
high_pair t u (highs_more {a} {s} h g) n q =
    let j = read (escaped a) (unescape (s ++ t)) u (sym (unescape_pair a (s ++ t)) ∙ q) in
    no_some (sym (escaped_high a h) ∙ j.first)

safe_pair : (d : ℕ) (t : List ℕ) → Scalar d → Safe t → Safe (92 ∷ (encode_char d ++ t))
safe_pair d t h f u q = by_order d 127 low (λ l. high_pair t u (encode_highs d l) (λ e. full d h e) q)
  where
    low : d ≤ 127 → is_utf8 u ≡ true
    low l =
        let q2 : unescape (92 ∷ d ∷ t) ≡ Some u = rw (encode_1 d (omega arith)) at q in
        let j = read (escaped d) (unescape t) u (sym (unescape_pair d t) ∙ q2) in
        rw j.is (utf8_ascii j.head j.tail (escaped_ascii d j.head j.first) ∙ f j.tail j.others)

    full : (d : ℕ) → Scalar d → encode_char d ≡ [] → ⊥
    full d h e = let z : [] ≡ ((spelled d h).lead ∷ (spelled d h).rest) = sym e ∙ (spelled d h).is in let y : ◌≡◌ {A = ℕ} 0 1 = cc in omega arith

safe : {cs : List ℕ} → Scalars cs → Safe (encode cs)
unfolding encode
safe scalars_none = safe_none
safe (scalars_more {c} h scalars_none) = safe_step c [] h safe_none (λ e u q. unfold unescape in no_some (rw e at q))
safe (scalars_more {c} h (scalars_more {c = d} {s} k g)) =
    safe_step c (encode_char d ++ encode s) h (safe (scalars_more k g)) (λ e. rw e (safe_pair d (encode s) k (safe g)))

pub utf8_unescape : (f u : List ℕ) → is_utf8 f ≡ true → unescape f ≡ Some u → is_utf8 u ≡ true
utf8_unescape f u w q = safe (chars_scalars f) u (rw (encode_chars f w) q)
