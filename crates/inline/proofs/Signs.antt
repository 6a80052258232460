-- The sign of a number, by its last byte.
use Prim.Native.Nat.{ℕ, ◌-◌, ◌≤◌, ◌<◌}
use mathlib.Core.Path.{◌≡◌, refl, sym, ap, ◌∙◌}
use mathlib.Core.Bool.{Bool, true, false}
use mathlib.Core.List.{List, [], ◌∷◌, ◌++◌, append-nil}
use native.Mathlib.Nat.{le_refl}
use native.Mathlib.Omega.{arith}
use lib.Dec.{eqb}
use lib.ListN.{length, get_or}
use lib.Seq.{drop-cons}
use borrow.Author.Tests.{eqb-true}
use Rattle.rules.specs.Basic.{pick, minus}
use Rattle.rules.specs.Sheet.{escaped, bare, escape_char, escape}
use Rattle.rules.specs.Utf8.{encode_char, encode}
use Rattle.content.specs.Contents.{content_in, spell}
use Rattle.content.specs.Parts.{Field}
use Rattle.content.proofs.Chars.{no_content}
use Rattle.content.proofs.Spells.{spell_append, field_spell, spell_field, field_none}
use Rattle.content.proofs.Marks.{Mark, mark_content, mark_left}
use Rattle.rules.proofs.Scalars.{scalars_none, scalars_more, low_scalar}
use Rattle.rules.specs.Inline.{sign, without_sign}
use Rattle.inline.specs.Scans.{part, SignAt}
use Rattle.inline.proofs.Tries.{Sign, unsigned, signed, sign_is}
use Rattle.inline.proofs.Scans.{part_part, part_none}

-- ---- over characters

pub sign_split : (l : List ℕ) → without_sign l ++ sign l ≡ l
unfolding sign without_sign
sign_split [] = refl
sign_split (c ∷ d ∷ l) = ap (λ (x : List ℕ). c ∷ x) (sign_split (d ∷ l))
sign_split (c ∷ []) = by (eqb c minus) refl
  where
    by : (t : Bool) → eqb c minus ≡ t → pick t [] (c ∷ []) ++ pick t (minus ∷ []) [] ≡ c ∷ []
    by true e = rw (eqb-true c minus e)
    by false e = refl

sign_last : (l : List ℕ) → sign (l ++ (minus ∷ [])) ≡ minus ∷ []
unfolding sign
sign_last [] = refl
sign_last (c ∷ []) = refl
sign_last (c ∷ d ∷ l) = sign_last (d ∷ l)

without_last : (l : List ℕ) → without_sign (l ++ (minus ∷ [])) ≡ l
unfolding without_sign
without_last [] = refl
without_last (c ∷ []) = refl
without_last (c ∷ d ∷ l) = ap (λ (x : List ℕ). c ∷ x) (without_last (d ∷ l))

without_none : (l : List ℕ) → sign l ≡ [] → without_sign l ≡ l
without_none l e = sym (append-nil (without_sign l)) ∙ (rw e at (sign_split l))

-- ---- over bytes

unfoldable last_of : List ℕ → ℕ
last_of [] = 0
last_of (c ∷ []) = c
last_of (c ∷ d ∷ l) = last_of (d ∷ l)

last_is : (l : List ℕ) (c : ℕ) → last_of (l ++ (c ∷ [])) ≡ c
unfolding last_of
last_is [] c = refl
last_is (a ∷ []) c = refl
last_is (a ∷ b ∷ l) c = last_is (b ∷ l) c

minus_spelled : spell (minus ∷ []) ≡ minus ∷ []
unfolding encode encode_char escape escape_char
minus_spelled = refl

-- a field whose last character is a minus has it as its last byte
minus_byte : (x : List ℕ) → Field x → sign (content_in x) ≡ minus ∷ [] → last_of x ≡ minus
minus_byte x w e =
    let g : without_sign (content_in x) ++ (minus ∷ []) ≡ content_in x = rw e at (sign_split (content_in x)) in
    let f : spell (without_sign (content_in x)) ++ (minus ∷ []) ≡ x =
    ap (λ (l : List ℕ). spell (without_sign (content_in x)) ++ l) (sym minus_spelled) ∙ sym (spell_append (without_sign (content_in x)) (minus ∷ [])) ∙ ap spell g ∙ field_spell w in
    sym (ap last_of f) ∙ last_is (spell (without_sign (content_in x))) minus

no_sign : (x : List ℕ) → Field x → (last_of x ≡ minus → ⊥) → sign (content_in x) ≡ []
no_sign x w n = by (sign (content_in x)) refl (sign_is (content_in x))
  where
    by : (g : List ℕ) → sign (content_in x) ≡ g → Sign g → g ≡ []
    by g e unsigned = refl
    by g e signed = absurd (n (minus_byte x w e))

minus_mark : Mark 45
unfolding escaped bare
minus_mark = record { low = omega arith; plain = λ e. omega arith; letter = refl; itself = refl }

minus_content : content_in (45 ∷ []) ≡ 45 ∷ []
minus_content = mark_content 45 minus_mark [] [] ∙ rw no_content

minus_field : Field (45 ∷ [])
minus_field = rw minus_spelled at (spell_field (scalars_more (low_scalar 45 (omega arith)) scalars_none))

-- ---- the answers

sign_here : (s : List ℕ) (i d : ℕ) → i ≤ d → Field (part i d s) → sign (content_in (part i d s)) ≡ [] → SignAt s i d d
sign_here s i d h w e =
    record {
      from = h;
      to = le_refl d;
      before = sym (without_none (content_in (part i d s)) e);
      is = rw (part_none d s, no_content) (sym e);
      whole = w;
      sign = rw (part_none d s) field_none;
    }

pub sign_empty : (s : List ℕ) (i d : ℕ) → i ≤ d → d ≤ i → Field (part i d s) → SignAt s i d d
sign_empty s i d h l w =
    let e : part i d s ≡ [] = let q : i ≡ d = omega arith in rw q (part_none d s) in
    sign_here s i d h w (rw (e, no_content) (unfold sign in refl))

module _ (s : List ℕ) (i d m : ℕ) (h : i ≤ d) (l : d ≤ length s) (w : Field (part i d s)) (k : i < d) (e : m ≡ d - 1) where
  last_part_lem : part m d s ≡ get_or s m 0 ∷ []
  last_part_lem = let q : d - m ≡ 1 = omega arith in rw (q, drop-cons s m 0 (omega arith))

  parts : part i d s ≡ part i m s ++ (get_or s m 0 ∷ [])
  parts = part_part i m d s (omega arith) (omega arith) ∙ rw last_part_lem

  pub sign_minus : get_or s m 0 ≡ 45 → SignAt s i d m
  sign_minus q =
      let v : Field (part i m s ++ (45 ∷ [])) = rw (parts, q) at w in
      record {
        from = omega arith;
        to = omega arith;
        before = rw all (sym (without_last (content_in (part i m s))));
        is = rw (last_part_lem, q) (minus_content ∙ rw all (sym (sign_last (content_in (part i m s)))));
        whole = mark_left 45 minus_mark [] (part i m s) v;
        sign = rw (last_part_lem, q) minus_field;
      }
    where
      all : content_in (part i d s) ≡ content_in (part i m s) ++ (45 ∷ [])
      all = ap content_in (parts ∙ ap (λ (x : ℕ). part i m s ++ (x ∷ [])) q) ∙ mark_content 45 minus_mark [] (part i m s) ∙ rw no_content

  pub sign_other : (get_or s m 0 ≡ 45 → ⊥) → SignAt s i d d
  sign_other n = sign_here s i d h w (no_sign (part i d s) w (λ q. n (sym (last_is (part i m s) (get_or s m 0)) ∙ (rw parts at q))))
