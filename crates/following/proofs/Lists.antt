-- Tables and spans with one more entry.
use Prim.Native.Nat.{ℕ}
use mathlib.Core.Path.{◌≡◌, refl, sym, ap, ◌∙◌}
use mathlib.Core.List.{List, [], ◌∷◌, ◌++◌, reverse, append-nil, append_assoc, reverse-cons}
use mathlib.Core.Bool.{Bool, false, not}
use lib.ListN.{length}
use Rattle.rules.specs.Basic.{pick, comma, join_by, each, is_empty}
use Rattle.rules.specs.Event.{Span}
use Rattle.rules.specs.Page.{lines_onto, table_lines, span_word}
use Rattle.following.specs.Drawn.{span_adds}

-- ---- tables

module _ {A : Type 0} (line : ℕ → A → List ℕ) where
  onto_rest : (t : List A) (rest : List ℕ) → lines_onto line t rest ≡ table_lines line t ++ rest
  unfolding lines_onto table_lines
  onto_rest [] rest = refl
  onto_rest (a ∷ t) rest =
      onto_rest t (line (length t) a ++ rest)
      ∙ (sym (append_assoc (table_lines line t) (line (length t) a) rest)
      ∙ ap (λ (x : List ℕ). x ++ rest) (ap (λ (x : List ℕ). table_lines line t ++ x) (sym (append-nil (line (length t) a))) ∙ sym (onto_rest t (line (length t) a ++ []))))

  pub table_more : (a : A) (t : List A) → table_lines line (a ∷ t) ≡ table_lines line t ++ line (length t) a
  unfolding lines_onto table_lines
  table_more a t = onto_rest t (line (length t) a ++ []) ∙ ap (λ (x : List ℕ). table_lines line t ++ x) (append-nil (line (length t) a))

-- ---- the spans of finding 3

module _ {A B : Type 0} (f : A → B) where
  each_append : (xs ys : List A) → each f (xs ++ ys) ≡ each f xs ++ each f ys
  unfolding each
  each_append [] ys = refl
  each_append (x ∷ xs) ys = ap (λ (l : List B). f x ∷ l) (each_append xs ys)

joined : (xs : List (List ℕ)) (y : List ℕ) → join_by comma (xs ++ (y ∷ [])) ≡ join_by comma xs ++ pick (not (is_empty xs)) (comma ∷ y) y
unfolding join_by is_empty
joined [] y = refl
joined (x ∷ []) y = refl
joined (x ∷ z ∷ xs) y =
    ap (λ (l : List ℕ). x ++ (comma ∷ l)) (joined (z ∷ xs) y) ∙ sym (append_assoc x (comma ∷ join_by comma (z ∷ xs)) (comma ∷ y))

empty_each : {A B : Type 0} (f : A → B) (xs : List A) → is_empty (each f xs) ≡ is_empty xs
unfolding each is_empty
empty_each f [] = refl
empty_each f (x ∷ xs) = refl

empty_more : {A : Type 0} (xs : List A) (y : A) → is_empty (xs ++ (y ∷ [])) ≡ false
unfolding is_empty
empty_more [] y = refl
empty_more (x ∷ xs) y = refl

empty_reverse : {A : Type 0} (xs : List A) → is_empty (reverse xs) ≡ is_empty xs
unfolding is_empty
empty_reverse [] = refl
empty_reverse (x ∷ xs) = ap is_empty (reverse-cons x xs) ∙ empty_more (reverse xs) x

pub span_more : (s : Span) (ss : List Span) → join_by comma (each span_word (reverse (s ∷ ss))) ≡ join_by comma (each span_word (reverse ss)) ++ span_adds (not (is_empty ss)) s
unfolding span_adds each
span_more s ss =
    ap (λ (l : List Span). join_by comma (each span_word l)) (reverse-cons s ss)
    ∙ (ap (join_by comma) (each_append span_word (reverse ss) (s ∷ []))
    ∙ (joined (each span_word (reverse ss)) (span_word s)
    ∙ ap (λ (b : Bool). join_by comma (each span_word (reverse ss)) ++ pick (not b) (comma ∷ span_word s) (span_word s)) (empty_each span_word (reverse ss) ∙ empty_reverse ss)))
