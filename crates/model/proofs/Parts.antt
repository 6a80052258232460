-- Rows read and written: what small answers say.
use Prim.Native.Nat.{ℕ, ◌+◌, ◌-◌, ◌≤◌}
use mathlib.Core.Path.{◌≡◌, sym, ap, ◌∙◌}
use mathlib.Core.List.{List, [], ◌∷◌}
use native.Mathlib.Omega.{arith}
use lib.ListN.{length, get_or, take, drop, length-drop}
use lib.Seq.{length-take-le}
use lib.Dec.{eqb}
use lib.Seq.{sets}
use Rattle.model.specs.Rows.{bit_of, relation_word, relation_of, row_of, row_words, noted_words}
use Rattle.model.specs.declared.Row.{Row}
use Rattle.model.specs.declared.Noted.{Noted}
use Rattle.model.specs.declared.Target.{Target}
use Rattle.model.specs.declared.Relation.{Relation}
use Rattle.model.specs.declared.Relation.TheVariants.{Reference}

pub word_of : (n : ℕ) (r : Relation) (t : Target) (u : Target) → r ≡ Reference t → t ≡ u → relation_word (Reference u) ≡ n → n ≡ relation_word r
word_of n r t u e f q = sym q ∙ ap (λ (x : Target). relation_word (Reference x)) (sym f) ∙ ap relation_word (sym e)

-- a row lent as a part
pub part_length : (k : ℕ) (w : List ℕ) (at : ℕ) → at + k ≤ length w → length (take (at + k - at) (drop at w)) ≡ k
part_length k w at h = let e : at + k - at ≡ k = omega arith in rw e (length-take-le k (drop at w) (omega (arith, length-drop at w)))

pub part_row : {A : Type 0} (f : List ℕ → A) (r : A) (k : ℕ) (w : List ℕ) (at : ℕ) → r ≡ f (take (at + k - at) (drop at w)) → r ≡ f (take k (drop at w))
part_row f r k w at h = let e : at + k - at ≡ k = omega arith in rw e at h

-- ---- rows made of their parts

pub row_made : (w : List ℕ) (x : Relation) → x ≡ relation_of (get_or w 9 0)
    → ◌≡◌ {A = Row} (record { line_at = get_or w 0 0; line_end = get_or w 1 0; name_at = get_or w 2 0; name_end = get_or w 3 0; recipe = eqb (get_or w 4 0) 1; reference = eqb (get_or w 5 0) 1; hidden = eqb (get_or w 6 0) 1; opt = eqb (get_or w 7 0) 1; new = eqb (get_or w 8 0) 1; relation = record { relation = x; in_step = eqb (get_or w 11 0) 1; index = get_or w 10 0 } }) (row_of w)
unfolding row_of
row_made w x e = rw e

pub row_put : {o : List ℕ} (s : List ℕ) (at : ℕ) (r : Row) (a b c d e f g : ℕ) → a ≡ bit_of r.recipe → b ≡ bit_of r.reference → c ≡ bit_of r.hidden → d ≡ bit_of r.opt → e ≡ bit_of r.new
    → f ≡ relation_word r.relation.relation → g ≡ bit_of r.relation.in_step
    → o ≡ sets s at (r.line_at ∷ r.line_end ∷ r.name_at ∷ r.name_end ∷ a ∷ b ∷ c ∷ d ∷ e ∷ f ∷ r.relation.index ∷ g ∷ []) → o ≡ sets s at (row_words r)
unfolding row_words
row_put s at r a b c d e f g qa qb qc qd qe qf qg h = rw (qa, qb, qc, qd, qe, qf, qg) at h

pub noted_put : {o : List ℕ} (s : List ℕ) (at : ℕ) (x : Noted) (a b : ℕ) → a ≡ bit_of x.parse → b ≡ bit_of x.flag
    → o ≡ sets s at (a ∷ x.code ∷ x.spans ∷ x.start ∷ x.end ∷ x.start2 ∷ x.end2 ∷ b ∷ []) → o ≡ sets s at (noted_words x)
unfolding noted_words
noted_put s at x a b qa qb h = rw (qa, qb) at h
