-- One turn of the search over the bytes of a text.
use Prim.Native.Nat.{ℕ, ◌≤◌, ◌<◌}
use mathlib.Core.Path.{◌≡◌, refl, sym, ap, ◌∙◌}
use mathlib.Core.Bool.{true, false, ◌&&◌}
use mathlib.Core.List.{List, [], ◌∷◌, ◌++◌}
use native.Mathlib.Nat.{le_refl}
use native.Mathlib.Omega.{arith}
use lib.ListN.{length, drop, length-drop, drop_of_length-le}
use borrow.Author.Tests.{le-leb, lt-leb, not-false}
use Rattle.rules.specs.Basic.{is_digit, is_some}
use Rattle.rules.specs.Unicode.{is_white_space}
use Rattle.content.specs.Contents.{content_in}
use Rattle.content.specs.Readings.{char_in}
use Rattle.content.specs.Parts.{Field}
use Rattle.content.proofs.Chars.{content_first, no_content}
use Rattle.content.proofs.Spells.{content_append, field_append, field_none}
use Rattle.rules.specs.Units.{NamedUnit, find_unit}
use Rattle.rules.specs.Inline.{front, behind, is_no_digit, is_digit_or_point, points, is_number, text_if_any, try_unit, inline_pieces}
use Rattle.rules.proofs.Basics.{by_order}
use Rattle.inline.specs.declared.Span.{Span}
use Rattle.inline.specs.Scans.{is_not_white, part, Front, SignAt, UnitPart}
use Rattle.inline.specs.Found.{FoundAt}
use Rattle.inline.proofs.Fronts.{front_yes, behind_head, digit_number}
use Rattle.inline.proofs.Seeks.{seek, seek_all, seek_none, seek_front}
use Rattle.inline.proofs.Tries.{Sign, unsigned, signed, sign_is, after, number_last, number_unit, unit_known, unit_other}
use Rattle.inline.proofs.Scans.{part_part, part_drop, part_none}

-- ---- parts of a text

-- the characters of two parts that meet
content_join : (s : List ℕ) (a b e : ℕ) → a ≤ b → b ≤ e → Field (part a b s) → content_in (part a e s) ≡ content_in (part a b s) ++ content_in (part b e s)
content_join s a b e h k w = ap content_in (part_part a b e s h k) ∙ content_append (part b e s) w

content_rest : (s : List ℕ) (a b : ℕ) → a ≤ b → Field (part a b s) → content_in (drop a s) ≡ content_in (part a b s) ++ content_in (drop b s)
content_rest s a b h w = ap content_in (part_drop a b s h) ∙ content_append (drop b s) w

field_join : (s : List ℕ) (a b e : ℕ) → a ≤ b → b ≤ e → Field (part a b s) → Field (part b e s) → Field (part a e s)
field_join s a b e h k w v = rw (part_part a b e s h k) (field_append w v)

-- bytes are at least one character
pub record Starting (t : List ℕ) : Type 0 where
  pub head : ℕ
  pub tail : List ℕ
  pub is : content_in t ≡ head ∷ tail

pub some_content : (t : List ℕ) → 1 ≤ length t → Starting t
some_content [] h = absurd (omega arith)
some_content (a ∷ t) h = record { head = (char_in (a ∷ t)).code; tail = content_in (drop (char_in (a ∷ t)).size (a ∷ t)); is = (content_first (a ∷ t) h).reads }

some_at : (s : List ℕ) (d : ℕ) → d < length s → Starting (drop d s)
some_at s d h = some_content (drop d s) (rw (length-drop d s) (omega arith))

-- ---- the search

-- from place i on, with the text from `from` to i passed, the search finds the pieces of the whole
pub record Sought (us : List NamedUnit) (s : List ℕ) (from i : ℕ) : Type 0 where
  pub start : from ≤ i
  pub end : i ≤ length s
  pub is : seek us (content_in (part from i s)) (content_in (drop i s)) ≡ inline_pieces us (content_in (drop from s))
  pub whole : Field (part from i s)
  pub left : Field (drop i s)

pub sought_start : (us : List NamedUnit) (s : List ℕ) (from : ℕ) → from ≤ length s → Field (drop from s) → Sought us s from from
sought_start us s from h w =
    record {
      start = le_refl from;
      end = h;
      is = rw (part_none from s, no_content) (sym (seek_all us (content_in (drop from s))));
      whole = rw (part_none from s) field_none;
      left = w;
    }

points_sign : {g : List ℕ} (n : List ℕ) → Sign g → points (g ++ n) ≡ points n
points_sign n unsigned = refl
points_sign n signed = unfold points in refl

pub turn_none : {us : List NamedUnit} {s : List ℕ} {from i d : ℕ} → Sought us s from i → Front is_no_digit s i d → d ≡ length s → inline_pieces us (content_in (drop from s)) ≡ text_if_any (content_in (drop from s))
turn_none {us} {s} {from} {i} {d} g f h =
    let e : behind is_no_digit (content_in (drop i s)) ≡ [] = sym f.behind ∙ rw (drop_of_length-le s {i = d} (omega arith)) no_content in
    sym g.is ∙ seek_none us (content_in (part from i s)) (content_in (drop i s)) e ∙ ap text_if_any (sym (content_rest s from i g.start g.whole))

-- a number is there
module _ {us : List NamedUnit} {s : List ℕ} {from i d m : ℕ} (g : Sought us s from i) (f : Front is_no_digit s i d) (h : d ≡ length s → ⊥) (k : SignAt s i d m) where
  it : Starting (drop d s)
  it = some_at s d (omega (arith, f.to))

  digit : is_digit it.head ≡ true
  digit = not-false (is_digit it.head) (unfold is_no_digit in (behind_head is_no_digit (content_in (drop i s)) it.head it.tail (sym f.behind ∙ it.is)))

  with_sign : Sign (content_in (part m d s))
  with_sign = rw k.is (sign_is (content_in (part i d s)))

  at_number : seek us (content_in (part from m s)) (content_in (part m d s) ++ (it.head ∷ it.tail)) ≡ inline_pieces us (content_in (drop from s))
  at_number =
      rw (content_join s from i m g.start k.from g.whole, k.before, k.is, f.front, ← it.is, f.behind)
      (sym (seek_front us (content_in (part from i s)) (content_in (drop i s))) ∙ g.is)

  module _ {e : ℕ} (n : Front is_digit_or_point s d e) where
    number_is : content_in (part d e s) ≡ front is_digit_or_point (it.head ∷ it.tail)
    number_is = n.front ∙ ap (front is_digit_or_point) it.is

    after_number : behind is_digit_or_point (it.head ∷ it.tail) ≡ content_in (drop e s)
    after_number = sym (n.behind ∙ ap (behind is_digit_or_point) it.is)

    -- it has a digit
    pub number_more : d < e
    number_more = by_order e d (λ l. absurd (never (omega (arith, n.from)))) (λ l. l)
      where
        never : e ≡ d → ⊥
        never q =
            let z : content_in (part d e s) ≡ [] = rw q (rw (part_none d s) no_content) in
            let y : content_in (part d e s) ≡ it.head ∷ front is_digit_or_point it.tail = number_is ∙ front_yes is_digit_or_point it.head it.tail (digit_number it.head digit) in
            let o : ◌≡◌ {A = ℕ} 0 1 = cc in omega arith

    -- it ends the text
    pub turn_last : {w : ℕ} → Front is_white_space s e w → w ≡ length s → inline_pieces us (content_in (drop from s)) ≡ text_if_any (content_in (drop from s))
    turn_last {w} b l =
        let q : behind is_white_space (behind is_digit_or_point (it.head ∷ it.tail)) ≡ [] =
        ap (behind is_white_space) after_number ∙ sym b.behind ∙ rw (drop_of_length-le s {i = w} (omega arith)) no_content in
        sym at_number ∙ number_last us (content_in (part from m s)) it.head it.tail with_sign digit q
        ∙ ap text_if_any (rw (← it.is, ← content_rest s m d k.to k.sign, ← content_rest s from m (omega (arith, g.start, k.from)) before))
      where
        before : Field (part from m s)
        before = field_join s from i m g.start k.from g.whole k.whole

    -- a word follows
    module _ {w a : ℕ} {u : Span} (b : Front is_white_space s e w) (l : w ≡ length s → ⊥) (v : Front is_not_white s w a) (y : UnitPart s w a u) where
      next : Starting (drop w s)
      next = some_at s w (omega (arith, b.to))

      before : Field (part from m s)
      before = field_join s from i m g.start k.from g.whole k.whole

      number : Field (part m e s)
      number = field_join s m d e k.to n.from k.sign n.whole

      from_m : from ≤ m
      from_m = omega (arith, g.start, k.from)

      number_content : content_in (part m e s) ≡ content_in (part m d s) ++ content_in (part d e s)
      number_content = content_join s m d e k.to n.from k.sign

      passed : content_in (part from a s) ≡ content_in (part from m s) ++ (content_in (part m d s) ++ (content_in (part d e s) ++ (content_in (part e w s) ++ content_in (part w a s))))
      passed =
          content_join s from m a from_m (omega (arith, k.to, n.from, b.from, v.from)) before
          ∙ rw (content_join s m d a k.to (omega (arith, n.from, b.from, v.from)) k.sign, content_join s d e a n.from (omega (arith, b.from, v.from)) n.whole, content_join s e w a b.from v.from b.whole)

      all_passed : Field (part from a s)
      all_passed =
          field_join s from m a from_m (omega (arith, k.to, n.from, b.from, v.from)) before
          (field_join s m e a (omega (arith, k.to, n.from)) (omega (arith, b.from, v.from)) number (field_join s e w a b.from v.from b.whole v.whole))

      -- the search tries the unit
      tried : after us (try_unit us (content_in (part from m s)) (content_in (part m e s)) (content_in (part u.from u.to s)) (content_in (part from a s))) (content_in (drop a s)) ≡ inline_pieces us (content_in (drop from s))
      tried =
          let q : behind is_white_space (content_in (drop e s)) ≡ next.head ∷ next.tail = sym b.behind ∙ next.is in
          rw (y.is, number_content, passed, number_is, b.front, v.front, v.behind, next.is)
          (sym (number_unit us (content_in (part from m s)) it.head it.tail (content_in (drop e s)) next.head next.tail with_sign digit after_number q) ∙ at_number)

      -- the word is further on
      pub turn_less : i < w
      turn_less = omega (arith, f.from, number_more, b.from)

      -- its unit is not known, or it is no number
      other : (is_number (content_in (part m e s)) && is_some (find_unit (content_in (part u.from u.to s)) us)) ≡ false → Sought us s from a
      other q =
          record {
            start = omega (arith, g.start, turn_less, v.from);
            end = v.to;
            is = sym (unit_other us (content_in (part from m s)) (content_in (part m e s)) (content_in (part u.from u.to s)) (content_in (part from a s)) (content_in (drop a s)) q) ∙ tried;
            whole = all_passed;
            left = v.left;
          }

      module _ {r : ℕ} (c : r ≡ points (content_in (part d e s))) where
        points_all : points (content_in (part m e s)) ≡ r
        points_all = rw number_content (points_sign (content_in (part d e s)) with_sign ∙ sym c)

        is_number_lem : r ≤ 1 → is_number (content_in (part m e s)) ≡ true
        is_number_lem h = unfold is_number in rw points_all (le-leb r 1 h)

        pub turn_points : 1 < r → Sought us s from a
        turn_points h =
            let q : is_number (content_in (part m e s)) ≡ false = unfold is_number in rw points_all (lt-leb r 1 h) in
            other (rw q)

        pub turn_unknown : r ≤ 1 → is_some (find_unit (content_in (part u.from u.to s)) us) ≡ false → Sought us s from a
        turn_unknown h q = other (rw (is_number_lem h) q)

        pub turn_found : r ≤ 1 → is_some (find_unit (content_in (part u.from u.to s)) us) ≡ true
            → FoundAt us s from (record { number_from = m; number_to = e; unit_from = u.from; unit_to = u.to; after = a })
        turn_found h q =
            record {
              is = sym tried ∙ unit_known us (content_in (part from m s)) (content_in (part m e s)) (content_in (part u.from u.to s)) (content_in (part from a s)) (content_in (drop a s)) (is_number_lem h) q;
              start = from_m;
              number = omega (arith, k.to, number_more);
              gap = omega (arith, b.from, y.from);
              unit = y.order;
              rest = y.to;
              end = v.to;
              before_field = before;
              number_field = number;
              unit_field = y.whole;
              after_field = v.left;
            }
