-- An ASCII byte that neither is escaped nor ends an escape parts a field, whatever stands before and after it.
use Prim.Native.Nat.{ℕ, ◌<◌}
use mathlib.Core.Path.{◌≡◌, refl, sym, ap, ◌∙◌}
use mathlib.Core.List.{List, [], ◌∷◌, ◌++◌}
use mathlib.Core.Bool.{Bool, true, false, ◌&&◌}
use Rattle.std.specs.Prelude.{Option, None, Some}
use Rattle.rules.specs.Basic.{is_some}
use Rattle.rules.specs.Sheet.{escaped, bare, onto, unescape, Without, without_more}
use Rattle.rules.specs.Utf8.{is_utf8}
use Rattle.rules.proofs.Basics.{and_left, and_right}
use Rattle.rules.proofs.Chars.{chars_split, utf8_split}
use Rattle.rules.proofs.Fields.{without_left, without_right}
use Rattle.rules.proofs.Escaped.{unescape_plain}
use Rattle.content.specs.Contents.{pair_or, plain_of, content_in}
use Rattle.content.specs.Parts.{Field}
use Rattle.content.proofs.Plains.{plain_one, plain_pair, by_backslash}

pub record Mark (b : ℕ) : Type 0 where
  pub low : b < 128
  pub plain : b ≡ 92 → ⊥
  pub letter : escaped b ≡ None
  pub itself : bare b ≡ Some b

module _ (b : ℕ) (m : Mark b) (q : List ℕ) where
  pair_split : (x y s : List ℕ) (o : Option ℕ) → pair_or o (x ++ s) (y ++ s) ≡ pair_or o x y ++ s
  unfolding pair_or
  pair_split x y s None = refl
  pair_split x y s (Some c) = refl

  plain_split : (p : List ℕ) → plain_of (p ++ (b ∷ q)) ≡ plain_of p ++ (b ∷ plain_of q)
  plain_split [] = plain_one b q m.plain ∙ (unfold plain_of in refl)
  plain_split (c ∷ []) =
      by_backslash c
      (λ e. rw e (plain_pair b q ∙ (unfold pair_or plain_of in (rw m.letter (ap (λ (x : List ℕ). 92 ∷ x) (plain_one b q m.plain))))))
      (λ n. plain_one c (b ∷ q) n ∙ (unfold plain_of in (ap (λ (x : List ℕ). c ∷ x) (plain_one b q m.plain))))
  plain_split (c ∷ d ∷ p) =
      by_backslash c
      (λ e. rw (e, plain_pair d (p ++ (b ∷ q)), plain_pair d p, plain_split p, plain_split (d ∷ p)) (pair_split (plain_of p) (plain_of (d ∷ p)) (b ∷ plain_of q) (escaped d)))
      (λ n. plain_one c (d ∷ (p ++ (b ∷ q))) n ∙ rw (plain_split (d ∷ p), plain_one c (d ∷ p) n))

  pub mark_content : (p : List ℕ) → content_in (p ++ (b ∷ q)) ≡ content_in p ++ (b ∷ content_in q)
  unfolding content_in
  mark_content p = rw (plain_split p) (chars_split (plain_of p) (plain_of q) b m.low)

  some_onto : (o : Option ℕ) (s : Option (List ℕ)) → is_some (onto o s) ≡ (is_some o && is_some s)
  unfolding is_some onto
  some_onto None s = refl
  some_onto (Some c) None = refl
  some_onto (Some c) (Some s) = refl

  some_plain : (c : ℕ) (s : List ℕ) → (c ≡ 92 → ⊥) → is_some (unescape (c ∷ s)) ≡ (is_some (bare c) && is_some (unescape s))
  some_plain c s n = ap is_some (unescape_plain c s n) ∙ some_onto (bare c) (unescape s)

  -- the mark itself is well-formed
  some_mark : is_some (unescape (b ∷ q)) ≡ is_some (unescape q)
  some_mark = some_plain b q m.plain ∙ (unfold is_some in (rw m.itself))

  some_pair : (d : ℕ) (s : List ℕ) → is_some (unescape (92 ∷ d ∷ s)) ≡ (is_some (escaped d) && is_some (unescape s))
  some_pair d s = unfold unescape in some_onto (escaped d) (unescape s)

  and_assoc : (x y z : Bool) → (x && (y && z)) ≡ ((x && y) && z)
  and_assoc true y z = refl
  and_assoc false y z = refl

  well_split : (p : List ℕ) → is_some (unescape (p ++ (b ∷ q))) ≡ (is_some (unescape p) && is_some (unescape q))
  well_split [] = some_mark ∙ (unfold unescape is_some in refl)
  well_split (c ∷ []) =
      by_backslash c (λ e. rw e (some_pair b q ∙ (unfold unescape is_some in (rw m.letter))))
      (λ n. some_plain c (b ∷ q) n
      ∙ rw (some_mark, some_plain c [] n, ← and_assoc (is_some (bare c)) (is_some (unescape [])) (is_some (unescape q))) (unfold unescape is_some in refl))
  well_split (c ∷ d ∷ p) =
      by_backslash c
      (λ e. rw (e, some_pair d (p ++ (b ∷ q)), some_pair d p, well_split p) (and_assoc (is_some (escaped d)) (is_some (unescape p)) (is_some (unescape q))))
      (λ n. some_plain c (d ∷ (p ++ (b ∷ q))) n
      ∙ rw (well_split (d ∷ p), some_plain c (d ∷ p) n) (and_assoc (is_some (bare c)) (is_some (unescape (d ∷ p))) (is_some (unescape q))))

  mark_rest : {x : ℕ} → Without x (b ∷ q) → Without x q
  mark_rest (without_more e h) = h

  pub mark_left : (p : List ℕ) → Field (p ++ (b ∷ q)) → Field p
  mark_left p f =
      record {
        utf8 = and_left (is_utf8 p) (is_utf8 q) (sym (utf8_split p q b m.low) ∙ f.utf8);
        well = and_left (is_some (unescape p)) (is_some (unescape q)) (sym (well_split p) ∙ f.well);
        no_tab = without_left p (b ∷ q) f.no_tab;
        no_lf = without_left p (b ∷ q) f.no_lf;
      }

  pub mark_right : (p : List ℕ) → Field (p ++ (b ∷ q)) → Field q
  mark_right p f =
      record {
        utf8 = and_right (is_utf8 p) (is_utf8 q) (sym (utf8_split p q b m.low) ∙ f.utf8);
        well = and_right (is_some (unescape p)) (is_some (unescape q)) (sym (well_split p) ∙ f.well);
        no_tab = mark_rest (without_right p (b ∷ q) f.no_tab);
        no_lf = mark_rest (without_right p (b ∷ q) f.no_lf);
      }
