-- Collapsing the blanks of a field collapses those of its content; what is trimmed at its ends has no blank at its front.
use Prim.Native.Nat.{ℕ, ◌≤◌}
use mathlib.Core.Path.{◌≡◌, refl, sym, ap, ◌∙◌}
use mathlib.Core.List.{List, [], ◌∷◌, ◌++◌, append-nil}
use mathlib.Core.Bool.{Bool, true, false}
use native.Mathlib.Omega.{arith}
use lib.Dec.{eqb}
use lib.ListN.{length}
use borrow.Author.Tests.{eqb-true, eqb-false, ne_eqb}
use Rattle.rules.specs.Ranges.{member}
use Rattle.rules.specs.WhiteSpace.{white_space}
use Rattle.rules.specs.Unicode.{is_white_space}
use Rattle.rules.specs.Sheet.{escape, escape_char, Without, without_none, without_more}
use Rattle.rules.specs.Text.{trim_start, trim_onto, trim_end, trim_matches, text_outer_trimmed, retain, text_trimmed}
use Rattle.rules.specs.Utf8.{encode_char, encode, Scalar}
use Rattle.rules.proofs.Basics.{pick_either, by_order, no_truth}
use Rattle.rules.proofs.Fields.{escape_cases}
use Rattle.rules.proofs.Encodes.{encode_1}
use Rattle.rules.proofs.Escaped.{Highs, highs_none, highs_more, encode_highs}
use Rattle.rules.proofs.Scalars.{Scalars, scalars_none, scalars_more}
use Rattle.content.specs.Contents.{content_in, kept_in, spell}
use Rattle.content.specs.Parts.{Field}
use Rattle.content.proofs.Spells.{spell_cons, char_written, field_spell, content_scalars, escape_highs}
use Rattle.content.proofs.Kept.{retain_other, retain_keeps, retain_blank}

-- ---- what is written for a character that is no blank

high_without : {w : List ℕ} → Highs w → Without 32 w
high_without highs_none = without_none
high_without (highs_more {a} h g) = without_more (ne_eqb a 32 (λ e. omega arith)) (high_without g)

low_without : (c : ℕ) → (c ≡ 32 → ⊥) → Without 32 (escape (c ∷ []))
unfolding escape
low_without c n =
    rw append-nil
    (escape_cases (Without 32) c (λ _. pair refl) (λ _. pair refl) (λ _. pair refl) (λ _. pair refl) (λ _ _ _ _. without_more (ne_eqb c 32 n) without_none))
  where
    pair : {d : ℕ} → eqb d 32 ≡ false → Without 32 (92 ∷ d ∷ [])
    pair q = without_more refl (without_more q without_none)

char_without : (c : ℕ) → (c ≡ 32 → ⊥) → Without 32 (escape (encode_char c))
char_without c n =
    by_order c 127 (λ l. rw (encode_1 c (omega arith)) (low_without c n))
    (λ l. rw (escape_highs (encode_highs c l)) (high_without (encode_highs c l)))

retain_word : {w : List ℕ} (t : List ℕ) → Without 32 w → retain 0 (w ++ t) ≡ w ++ retain 0 t
retain_word t without_none = refl
retain_word t (without_more {c} {s} q h) = retain_other 0 c (s ++ t) (eqb-false c 32 q) ∙ rw (retain_word t h)

retain_char : (b : ℕ) {w : List ℕ} (t : List ℕ) → 1 ≤ length w → Without 32 w → retain b (w ++ t) ≡ w ++ retain 0 t
retain_char b t l without_none = absurd (omega arith)
retain_char b t l (without_more {c} {s} q h) = retain_other b c (s ++ t) (eqb-false c 32 q) ∙ rw (retain_word t h)

-- ---- over a whole spelling

blank_spelled : escape (encode_char 32) ≡ 32 ∷ []
unfolding escape escape_char encode_char
blank_spelled = refl

spell_blank : (cs : List ℕ) → spell (32 ∷ cs) ≡ 32 ∷ spell cs
spell_blank cs = spell_cons 32 cs ∙ rw blank_spelled

retain_turn : (b c : ℕ) (cs : List ℕ) → Scalar c → retain 0 (spell cs) ≡ spell (retain 0 cs) → retain 32 (spell cs) ≡ spell (retain 32 cs)
    → retain b (spell (c ∷ cs)) ≡ spell (retain b (c ∷ cs))
retain_turn b c cs h i j = go (eqb c 32) refl (eqb b 32) refl
  where
    blanks : (x : Bool) → eqb b 32 ≡ x → retain b (32 ∷ spell cs) ≡ spell (retain b (32 ∷ cs))
    blanks true e = let q = eqb-true b 32 e in rw (q, retain_blank (spell cs), retain_blank cs) j
    blanks false e =
        let n = eqb-false b 32 e in
        rw (retain_keeps b 32 (spell cs) n, retain_keeps b 32 cs n, spell_blank (retain 32 cs)) (ap (λ (x : List ℕ). 32 ∷ x) j)

    go : (x : Bool) → eqb c 32 ≡ x → (y : Bool) → eqb b 32 ≡ y → retain b (spell (c ∷ cs)) ≡ spell (retain b (c ∷ cs))
    go true e y f = rw (eqb-true c 32 e, spell_blank cs) (blanks y f)
    go false e y f =
        let n = eqb-false c 32 e in
        rw (retain_other b c cs n, spell_cons c cs, spell_cons c (retain 0 cs))
        (retain_char b (spell cs) (char_written c h).least (char_without c n) ∙ ap (λ (x : List ℕ). escape (encode_char c) ++ x) i)

pub retain_spell : {cs : List ℕ} (b : ℕ) → Scalars cs → retain b (spell cs) ≡ spell (retain b cs)
unfolding encode escape retain
retain_spell b scalars_none = refl
retain_spell b (scalars_more {c} {s} h g) = retain_turn b c s h (retain_spell 0 g) (retain_spell 32 g)

pub field_retain : {f : List ℕ} (b : ℕ) → Field f → retain b f ≡ spell (retain b (content_in f))
field_retain {f} b h = ap (retain b) (sym (field_spell h)) ∙ retain_spell b (content_scalars f)

-- ---- no blank at the front

data Solid : List ℕ → Type 0 where
  solid_none : Solid []
  solid_more : {c : ℕ} {s : List ℕ} → (c ≡ 32 → ⊥) → Solid (c ∷ s)

white_blank : is_white_space 32 ≡ true
unfolding is_white_space member white_space
white_blank = refl

solid_start : (cs : List ℕ) → Solid (trim_start is_white_space cs)
unfolding trim_start
solid_start [] = solid_none
solid_start (c ∷ cs) =
    pick_either Solid (is_white_space c) _ _ (λ _. solid_start cs) (λ e. solid_more (λ q. no_truth (sym e ∙ ap is_white_space q ∙ white_blank)))

solid_onto : (c : ℕ) (s : List ℕ) → (c ≡ 32 → ⊥) → Solid (trim_onto is_white_space c s)
unfolding trim_onto
solid_onto c [] n = pick_either Solid (is_white_space c) _ _ (λ _. solid_none) (λ _. solid_more n)
solid_onto c (d ∷ s) n = solid_more n

solid_end : {cs : List ℕ} → Solid cs → Solid (trim_end is_white_space cs)
unfolding trim_end
solid_end solid_none = solid_none
solid_end (solid_more {c} {s} n) = solid_onto c (trim_end is_white_space s) n

retain_solid : {cs : List ℕ} → Solid cs → retain 32 cs ≡ retain 0 cs
unfolding retain
retain_solid solid_none = refl
retain_solid (solid_more {c} {s} n) = rw (ne_eqb c 32 n)

-- a text trimmed at its ends: the first blank of each run is kept
pub text_trimmed_lem : (cs : List ℕ) → text_trimmed cs ≡ retain 0 (text_outer_trimmed cs)
unfolding text_trimmed text_outer_trimmed trim_matches
text_trimmed_lem cs = retain_solid (solid_end (solid_start cs))

pub kept_trimmed : (s r : List ℕ) → content_in r ≡ text_outer_trimmed (content_in s) → kept_in r ≡ text_trimmed (content_in s)
unfolding kept_in
kept_trimmed s r e = rw e (sym (text_trimmed_lem (content_in s)))
