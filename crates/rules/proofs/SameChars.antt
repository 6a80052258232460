-- Two texts have the same code points where they have the same bytes.
use Prim.Native.Nat.{ℕ}
use mathlib.Core.Path.{◌≡◌, refl, sym, ap, ◌∙◌}
use mathlib.Core.List.{List, [], ◌∷◌}
use mathlib.Core.Bool.{Bool, true, false}
use lib.Dec.{eqb}
use borrow.Author.Tests.{eqb-true, eq-eqb}
use Rattle.rules.specs.Basic.{pick, eq_list}
use Rattle.rules.specs.Utf8.{is_utf8, chars, encode}
use Rattle.rules.proofs.Basics.{no_truth}
use Rattle.rules.proofs.Encodes.{encode_chars}

pub eq_itself : (a : List ℕ) → eq_list a a ≡ true
unfolding eq_list
eq_itself [] = refl
eq_itself (x ∷ a) = rw (eq-eqb x x refl, eq_itself a)

pub eq_true : (a b : List ℕ) → eq_list a b ≡ true → a ≡ b
unfolding eq_list
eq_true [] [] e = refl
eq_true [] (y ∷ b) e = no_truth e
eq_true (x ∷ a) [] e = no_truth e
eq_true (x ∷ a) (y ∷ b) e = go (eqb x y) refl (eq_true a b) e
  where
    go : (t : Bool) → eqb x y ≡ t → (eq_list a b ≡ true → a ≡ b) → pick t (eq_list a b) false ≡ true → x ∷ a ≡ y ∷ b
    go true q ih e = let h : x ≡ y = eqb-true x y q in let g : a ≡ b = ih e in cc
    go false q ih e = no_truth e

pub same_chars : (a b : List ℕ) → is_utf8 a ≡ true → is_utf8 b ≡ true → eq_list (chars a) (chars b) ≡ eq_list a b
same_chars a b u v = go (eq_list a b) refl (eq_list (chars a) (chars b)) refl
  where
    go : (t : Bool) → eq_list a b ≡ t → (w : Bool) → eq_list (chars a) (chars b) ≡ w → w ≡ t
    go true e w f = sym f ∙ (let h : a ≡ b = eq_true a b e in rw h (eq_itself (chars b)))
    go false e true f =
        let h : a ≡ b = sym (encode_chars a u) ∙ ap encode (eq_true (chars a) (chars b) f) ∙ encode_chars b v in
        let k : eq_list a b ≡ true = rw h (eq_itself b) in sym k ∙ e
    go false e false f = refl
