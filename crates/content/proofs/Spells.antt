-- A field is the spelling of its content, and of no other.
use Prim.Native.Nat.{ℕ, ◌≤◌, ◌<◌}
use mathlib.Core.Path.{◌≡◌, refl, sym, ap, ◌∙◌}
use mathlib.Core.List.{List, [], ◌∷◌, ◌++◌, append-nil, append_assoc}
use mathlib.Core.Bool.{true}
use Rattle.std.specs.Prelude.{Option, None, Some}
use native.Mathlib.Omega.{arith}
use lib.ListN.{length, take, drop, length-append}
use lib.Seq.{take-append_seam, drop-append_seam}
use borrow.Author.Tests.{eqb-false}
use Rattle.rules.specs.Basic.{tab, lf, is_some}
use Rattle.rules.specs.Sheet.{escaped, unescape, escape, Without}
use Rattle.rules.specs.Utf8.{char_or, followers, is_utf8, encode_char, encode, Scalar}
use Rattle.rules.proofs.Basics.{by_order, no_truth}
use Rattle.rules.proofs.Begins.{one, begins_more, first_some, size_1}
use Rattle.rules.proofs.Fields.{escape_cases, char_past, escape_unescape, unescape_escape, escape_no_tab, escape_no_lf}
use Rattle.rules.proofs.Scalars.{Scalars, scalars_none, scalars_more, chars_scalars}
use Rattle.rules.proofs.Encodes.{Spelled, spelled, encode_1, encode_chars, chars_encode, utf8_encode}
use Rattle.rules.proofs.Escaped.{Highs, highs_none, highs_more, encode_highs, utf8_escape, utf8_unescape}
use Rattle.utf8.specs.Reading.{char_of}
use Rattle.utf8.specs.Decoding.{char_with}
use Rattle.content.specs.Contents.{plain_of, content_in, spell}
use Rattle.content.specs.Readings.{pair_in, char_in}
use Rattle.content.specs.Parts.{Field}
use Rattle.content.proofs.Plains.{plain_unescape}
use Rattle.content.proofs.Chars.{ContentFirst, content_first, char_plain}

-- ---- spellings by parts

escape_append : (xs ys : List ℕ) → escape (xs ++ ys) ≡ escape xs ++ escape ys
unfolding escape
escape_append [] ys = refl
escape_append (x ∷ xs) ys = rw (escape_append xs ys, append_assoc)

encode_append : (xs ys : List ℕ) → encode (xs ++ ys) ≡ encode xs ++ encode ys
unfolding encode
encode_append [] ys = refl
encode_append (x ∷ xs) ys = rw (encode_append xs ys, append_assoc)

pub spell_append : (xs ys : List ℕ) → spell (xs ++ ys) ≡ spell xs ++ spell ys
spell_append xs ys = rw (encode_append xs ys) (escape_append (encode xs) (encode ys))

pub spell_cons : (c : ℕ) (cs : List ℕ) → spell (c ∷ cs) ≡ escape (encode_char c) ++ spell cs
unfolding encode
spell_cons c cs = escape_append (encode_char c) (encode cs)

pub spell_one : (c : ℕ) → spell (c ∷ []) ≡ escape (encode_char c)
unfolding encode
spell_one c = rw append-nil

pub scalars_append : {xs ys : List ℕ} → Scalars xs → Scalars ys → Scalars (xs ++ ys)
scalars_append scalars_none h = h
scalars_append (scalars_more g k) h = scalars_more g (scalars_append k h)

pub content_scalars : (f : List ℕ) → Scalars (content_in f)
unfolding content_in
content_scalars f = chars_scalars (plain_of f)

-- ---- fields and spellings

pub spelled_back : (f : List ℕ) {u : List ℕ} → Without tab f → Without lf f → unescape f ≡ Some u → is_utf8 f ≡ true → spell (content_in f) ≡ f
unfolding content_in
spelled_back f {u} t l e w =
    rw (plain_unescape f e, encode_chars u (utf8_unescape f u w e)) (escape_unescape f t l e)

pub field_spell : {f : List ℕ} → Field f → spell (content_in f) ≡ f
field_spell {f} h = go (unescape f) refl h.well
  where
    go : (o : Option (List ℕ)) → unescape f ≡ o → is_some o ≡ true → spell (content_in f) ≡ f
    go None e q = unfold is_some in no_truth q
    go (Some u) e q = spelled_back f h.no_tab h.no_lf e h.utf8

-- the bytes that a field stands for are UTF-8
pub plain_utf8 : {f : List ℕ} → Field f → is_utf8 (plain_of f) ≡ true
plain_utf8 {f} h = go (unescape f) refl h.well
  where
    go : (o : Option (List ℕ)) → unescape f ≡ o → is_some o ≡ true → is_utf8 (plain_of f) ≡ true
    go None e q = unfold is_some in no_truth q
    go (Some u) e q = rw (plain_unescape f e) (utf8_unescape f u h.utf8 e)

pub spell_field : {cs : List ℕ} → Scalars cs → Field (spell cs)
unfolding is_some
spell_field {cs} h =
    record { utf8 = utf8_escape (encode cs) (utf8_encode h); well = rw (unescape_escape (encode cs)); no_tab = escape_no_tab (encode cs); no_lf = escape_no_lf (encode cs) }

pub content_spell : {cs : List ℕ} → Scalars cs → content_in (spell cs) ≡ cs
unfolding content_in
content_spell {cs} h = rw (plain_unescape (spell cs) (unescape_escape (encode cs))) (chars_encode h)

-- ---- the first character of a spelling

pub record Written (c : ℕ) (w : List ℕ) : Type 0 where
  pub is : (t : List ℕ) → char_in (w ++ t) ≡ char_with c (length w)
  pub least : 1 ≤ length w

low_char : (c : ℕ) → c < 128 → Written c (escape (c ∷ []))
unfolding escape escaped
low_char c h =
    rw append-nil
    (escape_cases (Written c) c (λ e. rw e (pair 92 92 refl)) (λ e. rw e (pair 9 116 refl)) (λ e. rw e (pair 10 110 refl)) (λ e. rw e (pair 13 114 refl))
    (λ n _ _ _. itself (eqb-false c 92 n)))
  where
    pair : (x d : ℕ) → escaped d ≡ Some x → Written x (92 ∷ d ∷ [])
    pair x d e = record { is = λ t. unfold char_in pair_in in (rw e); least = omega arith }

    itself : (c ≡ 92 → ⊥) → Written c (c ∷ [])
    itself n =
        let k : c ≤ 127 = omega arith in
        record {
          is = λ t. char_plain c t n ∙ (unfold char_of char_or followers in (rw (first_some (one {s = t} k), size_1 c k)));
          least = omega arith;
        }

pub escape_highs : {w : List ℕ} → Highs w → escape w ≡ w
unfolding escape
escape_highs highs_none = refl
escape_highs (highs_more {a} {s} h g) = rw (char_past a (omega arith) (λ e. omega arith), escape_highs g)

high_char : {c : ℕ} {w : List ℕ} → Highs w → Spelled c w → Written c w
high_char {c} {w} h g = go h g.is
  where
    go : {w : List ℕ} → Highs w → w ≡ g.lead ∷ g.rest → Written c w
    go highs_none e = absurd (let l = ap length e in omega arith)
    go (highs_more {a} {s} k m) e =
        let x : a ≡ g.lead = cc in
        let y : s ≡ g.rest = cc in
        let n : g.lead ≡ 92 → ⊥ = λ q. omega arith in
        rw (x, y)
        (record {
          is = λ t. char_plain g.lead (g.rest ++ t) n ∙ (unfold char_of char_or followers in (rw (first_some (begins_more t g.begin), g.size)));
          least = omega arith;
        })

pub char_written : (c : ℕ) → Scalar c → Written c (escape (encode_char c))
char_written c h =
    by_order c 127 (λ l. rw (encode_1 c (omega arith)) (low_char c (omega arith)))
    (λ l. rw (escape_highs (encode_highs c l)) (high_char (encode_highs c l) (spelled c h)))

-- ---- the content of a front and what follows

pub spell_then : {cs : List ℕ} (q : List ℕ) → Scalars cs → content_in (spell cs ++ q) ≡ cs ++ content_in q
unfolding encode escape
spell_then q scalars_none = refl
spell_then q (scalars_more {c} {s} h g) =
    let w = char_written c h in
    let t : List ℕ = escape (encode_char c) ++ (spell s ++ q) in
    let l : 1 ≤ length t = omega (arith, length-append (escape (encode_char c)) (spell s ++ q), w.least) in
    let f : ContentFirst t (char_with c (length (escape (encode_char c)))) = rw (w.is (spell s ++ q)) at (content_first t l) in
    rw (spell_cons c s, append_assoc)
    (f.reads ∙ rw (drop-append_seam (escape (encode_char c)) (spell s ++ q), spell_then q g))

pub content_append : {p : List ℕ} (q : List ℕ) → Field p → content_in (p ++ q) ≡ content_in p ++ content_in q
content_append {p} q h = ap (λ (x : List ℕ). content_in (x ++ q)) (sym (field_spell h)) ∙ spell_then q (content_scalars p)

pub field_append : {p q : List ℕ} → Field p → Field q → Field (p ++ q)
field_append {p} {q} h g =
    let e : spell (content_in p ++ content_in q) ≡ p ++ q = spell_append (content_in p) (content_in q) ∙ rw (field_spell h, field_spell g) in
    rw e at (spell_field (scalars_append (content_scalars p) (content_scalars q)))

pub field_none : Field []
unfolding encode escape
field_none = spell_field scalars_none

-- what follows a field in a field is one
pub field_right : {p q : List ℕ} → Field p → Field (p ++ q) → Field q
field_right {p} {q} h g =
    let e : p ++ q ≡ p ++ spell (content_in q) =
    sym (field_spell g) ∙ rw (content_append q h, spell_append (content_in p) (content_in q), field_spell h) in
    let d : q ≡ spell (content_in q) = sym (drop-append_seam p q) ∙ ap (drop (length p)) e ∙ drop-append_seam p (spell (content_in q)) in
    rw d (spell_field (content_scalars q))

-- the first character of a field, and what follows it
pub record FieldFirst (f : List ℕ) (n : ℕ) : Type 0 where
  pub front : Field (take n f)
  pub back : Field (drop n f)

pub field_first : {f : List ℕ} → Field f → 1 ≤ length f → FieldFirst f (char_in f).size
field_first {f} h l = rw (field_spell h) at (go (content_scalars f) (rw (field_spell h) l))
  where
    go : {cs : List ℕ} → Scalars cs → 1 ≤ length (spell cs) → FieldFirst (spell cs) (char_in (spell cs)).size
    go scalars_none l = absurd (unfold encode escape in omega arith)
    go (scalars_more {c} {s} h g) l =
        let w = char_written c h in
        rw (spell_cons c s, w.is (spell s))
        (record {
          front = rw (take-append_seam (escape (encode_char c)) (spell s), ← spell_one c) (spell_field (scalars_more h scalars_none));
          back = rw (drop-append_seam (escape (encode_char c)) (spell s)) (spell_field g);
        })
