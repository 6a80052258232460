-- A span, and spans one after the other.
use Prim.Native.Nat.{ℕ, ◌≤◌, ◌<◌}
use mathlib.Core.Path.{◌≡◌, refl, sym, ◌∙◌}
use mathlib.Core.Bool.{Bool, true, false, ◌&&◌, not}
use mathlib.Core.List.{List, [], ◌∷◌, ◌++◌}
use borrow.Author.Tests.{le-leb, lt-leb}
use lib.ListN.{length}
use Rattle.rules.specs.Basic.{all}
use Rattle.rules.specs.Utf8.{is_inside}
use Rattle.rules.specs.Event.{Span}
use Rattle.rules.specs.Answer.{is_good_span}
use Rattle.rules.proofs.Basics.{and_assoc, and_true}
use Rattle.parts.specs.declared.Span.{Span as View}
use Rattle.parts.specs.Views.{span_in}
use Rattle.spans.specs.Goods.{Goods}

-- ---- one span
module _ (text : List ℕ) (s : View) where
  pub span_reversed : s.end < s.start → false ≡ is_good_span text (length text) (span_in s)
  unfolding is_good_span span_in
  span_reversed h = simp (lt-leb _ _ h)

  module _ (h : s.start ≤ s.end) where
    pub span_past : length text < s.end → false ≡ is_good_span text (length text) (span_in s)
    unfolding is_good_span span_in
    span_past g = simp (le-leb _ _ h, lt-leb _ _ g)

    module _ (g : s.end ≤ length text) {t : Bool} (e : t ≡ is_inside text s.start) where
      pub span_inside : t ≡ true → false ≡ is_good_span text (length text) (span_in s)
      unfolding is_good_span span_in
      span_inside q = simp (le-leb _ _ h, le-leb _ _ g, sym e ∙ q)

      pub span_is : t ≡ false → {u : Bool} → u ≡ is_inside text s.end → not u ≡ is_good_span text (length text) (span_in s)
      unfolding is_good_span span_in
      span_is q p = simp (le-leb _ _ h, le-leb _ _ g, sym e ∙ q, p)

-- ---- some spans
all_append : (f : Span → Bool) (xs ys : List Span) → all f (xs ++ ys) ≡ (all f xs && all f ys)
unfolding all
all_append f [] ys = refl
all_append f (x ∷ xs) ys = rw (all_append f xs ys) (sym (and_assoc (f x) _ _))

pub no_span : {text : List ℕ} → Goods text [] true
unfolding all
no_span = record { is = refl }

pub one_span : {text : List ℕ} {s : Span} {r : Bool} → r ≡ is_good_span text (length text) s → Goods text (s ∷ []) r
unfolding all
one_span e = record { is = e ∙ sym (and_true _) }

pub and_then : {text : List ℕ} {xs ys : List Span} {a b : Bool} → Goods text xs a → Goods text ys b → Goods text (xs ++ ys) (a && b)
and_then {text} {xs} {ys} p q = record { is = rw (p.is, q.is) (sym (all_append (is_good_span text (length text)) xs ys)) }

-- the spans of a value that is told
pub shown : {A : Type 0} (spans : A → List Span) {v u : A} → v ≡ u → {text : List ℕ} {r : Bool} → Goods text (spans u) r → Goods text (spans v) r
shown spans q p = rw q p
