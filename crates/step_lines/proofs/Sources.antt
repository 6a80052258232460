-- A part of a UTF-8 text between places that are not inside a character is UTF-8.
use Prim.Native.Nat.{ℕ, zero, suc, pred, ◌+◌, ◌-◌, ◌≤◌, ◌<◌}
use mathlib.Core.Path.{◌≡◌, refl, sym, ap, ◌∙◌}
use mathlib.Core.Bool.{Bool, true, false, not, ◌&&◌}
use mathlib.Core.List.{List, [], ◌∷◌, ◌++◌, append_assoc}
use native.Mathlib.Omega.{arith}
use borrow.Author.Tests.{leb-true}
use lib.Dec.{leb}
use lib.ListN.{length, get_or, take, drop, length-append, length-drop}
use lib.Seq.{get_or-append-add, get_or-drop, take_at, drop_at}
use Rattle.rules.specs.Utf8.{size_of, encode_char, encode, chars, later, is_inside, is_utf8, Scalar}
use Rattle.rules.specs.Sheet.{escape}
use Rattle.rules.specs.Answer.{is_good_span}
use Rattle.rules.specs.Pass.{source_text}
use Rattle.rules.proofs.Basics.{by_order, no_truth, and_left, and_right}
use Rattle.rules.proofs.Scalars.{Scalars, scalars_none, scalars_more, chars_scalars}
use Rattle.rules.proofs.Encodes.{Spelled, spelled, encode_chars, utf8_encode}
use Rattle.rules.proofs.Begins.{begins_more}
use Rattle.rules.proofs.Insides.{begins_laters}
use Rattle.output.specs.Put.{Put}
use Rattle.output.proofs.Texts.{text_is}
use Rattle.content.specs.Contents.{spell}
use Rattle.parts.specs.Views.{span_in}
use Rattle.parts.specs.declared.Span.{Span}

-- characters of which the first i bytes are whole ones
record Halves (cs : List ℕ) (i : ℕ) : Type 0 where
  front : List ℕ
  back : List ℕ
  is : encode cs ≡ encode front ++ encode back
  long : length (encode front) ≡ i
  scalars : Scalars front
  others : Scalars back

-- inside a character's bytes each is from 80 to BF
within_char : {c : ℕ} {w : List ℕ} (t : List ℕ) (i : ℕ) → Spelled c w → suc i < length w → later (get_or (w ++ t) (suc i) 0) ≡ true
within_char {c} {w} t i g h =
    let l : i < pred (size_of g.lead) = omega (arith, g.size, ap length g.is) in
    rw g.is (begins_laters (begins_more t g.begin) i l)

longer : {c : ℕ} {s : List ℕ} (i : ℕ) → Scalar c → Halves s (i - length (encode_char c)) → length (encode_char c) ≤ i → Halves (c ∷ s) i
unfolding encode
longer {c} i p r l =
    record {
      front = c ∷ r.front;
      back = r.back;
      is = rw (r.is, append_assoc);
      long = omega (arith, length-append (encode_char c) (encode r.front), r.long);
      scalars = scalars_more p r.scalars;
      others = r.others;
    }

extend : {c : ℕ} {s : List ℕ} → Scalar c → Scalars s → (i : ℕ) → i ≤ length (encode (c ∷ s)) → later (get_or (encode (c ∷ s)) i 0) ≡ false
    → ((j : ℕ) → j ≤ length (encode s) → later (get_or (encode s) j 0) ≡ false → Halves s j) → Halves (c ∷ s) i
unfolding encode
extend {c} {s} p g zero h f ih = record { front = []; back = c ∷ s; is = refl; long = refl; scalars = scalars_none; others = scalars_more p g }
extend {c} {s} p g (suc i) h f ih =
    by_order (length (encode_char c)) (suc i)
    (λ l. let n : suc i ≡ length (encode_char c) + (suc i - length (encode_char c)) = omega arith in
    let k : suc i - length (encode_char c) ≤ length (encode s) = omega (arith, length-append (encode_char c) (encode s)) in
    let z : later (get_or (encode s) (suc i - length (encode_char c)) 0) ≡ false =
    ap later (sym (get_or-append-add (encode_char c) (encode s) (suc i - length (encode_char c)) 0) ∙ ap (λ (m : ℕ). get_or (encode_char c ++ encode s) m 0) (sym n)) ∙ f in
    longer (suc i) p (ih (suc i - length (encode_char c)) k z) l)
    (λ l. no_truth (sym f ∙ within_char (encode s) i (spelled c p) l))

halves : {cs : List ℕ} → Scalars cs → (i : ℕ) → i ≤ length (encode cs) → later (get_or (encode cs) i 0) ≡ false → Halves cs i
unfolding encode
halves scalars_none i h f =
    let e : 0 ≡ i = omega arith in
    record { front = []; back = []; is = refl; long = e; scalars = scalars_none; others = scalars_none }
halves (scalars_more {c} {s} p g) i h f = extend p g i h f (halves g)

-- the part of a text between two places
module _ (text : List ℕ) (a e : ℕ) (u : is_utf8 text ≡ true) (h : a ≤ e) (l : e ≤ length text) where
  part_utf8 : later (get_or text a 0) ≡ false → later (get_or text e 0) ≡ false → is_utf8 (take (e - a) (drop a text)) ≡ true
  part_utf8 f g =
      let t : encode (chars text) ≡ text = encode_chars text u in
      let x = halves (chars_scalars text) a (rw t (omega arith)) (rw t f) in
      let d : drop a text ≡ encode x.back = ap (drop a) (sym t ∙ x.is) ∙ drop_at (encode x.front) (encode x.back) a x.long in
      let n : a + (e - a) ≡ e = omega arith in
      let k : e - a ≤ length (encode x.back) = rw (← d) (omega (arith, length-drop a text)) in
      let y = halves x.others (e - a) k (rw (← d, get_or-drop a text (e - a) 0, n) g) in
      rw (d, y.is, take_at (encode y.front) (encode y.back) (e - a) y.long) (utf8_encode y.scalars)

-- ---- a good span

not_false : (b : Bool) → not b ≡ true → b ≡ false
not_false false h = refl
not_false true h = sym h

record Good (a e n : ℕ) (x y : Bool) : Type 0 where
  order : a ≤ e
  end : e ≤ n
  start_out : x ≡ false
  end_out : y ≡ false

good_of : (a e n : ℕ) (x y : Bool) → (leb a e && leb e n && not x && not y) ≡ true → Good a e n x y
good_of a e n x y h =
    let p = and_left (leb a e && leb e n && not x) (not y) h in
    let q = and_left (leb a e && leb e n) (not x) p in
    record {
      order = leb-true a e (and_left (leb a e) (leb e n) q);
      end = leb-true e n (and_right (leb a e) (leb e n) q);
      start_out = not_false x (and_right (leb a e && leb e n) (not x) p);
      end_out = not_false y (and_right (leb a e && leb e n && not x) (not y) h);
    }

module _ (text : List ℕ) (s : Span) (g : is_good_span text (length text) (span_in s) ≡ true) where
  good : Good s.start s.end (length text) (later (get_or text s.start 0)) (later (get_or text s.end 0))
  unfolding is_good_span span_in is_inside
  good = good_of s.start s.end (length text) (later (get_or text s.start 0)) (later (get_or text s.end 0)) g

  pub span_order : s.start ≤ s.end
  span_order = good.order

  pub span_end : s.end ≤ length text
  span_end = good.end

  pub span_inside : (s.end ≤ length text) × (s.start ≤ s.end)
  span_inside = (good.end, good.order)

  -- its source, written as it stands
  pub source_spell : is_utf8 text ≡ true → spell (source_text text (span_in s)) ≡ escape (take (s.end - s.start) (drop s.start text))
  unfolding source_text span_in
  source_spell u =
      ap escape
      (encode_chars (take (s.end - s.start) (drop s.start text))
      (part_utf8 text s.start s.end u span_order span_end good.start_out good.end_out))

  pub source_put : is_utf8 text ≡ true → {o₀ o : List ℕ} {at r : ℕ} → Put (escape (take (s.end - s.start) (drop s.start text))) o₀ at o r → Put (spell (source_text text (span_in s))) o₀ at o r
  source_put u p = text_is _ (source_spell u) p
