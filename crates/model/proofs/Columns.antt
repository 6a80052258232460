-- Words of a row read one by one.
use Prim.Native.Nat.{ℕ, ◌+◌, ◌*◌, ◌<◌}
use mathlib.Core.Path.{◌≡◌, refl, sym, ap, ◌∙◌}
use mathlib.Core.List.{List}
use mathlib.Core.Bool.{Bool, true, false}
use Rattle.std.specs.Prelude.{None, Some}
use native.Mathlib.Omega.{arith}
use borrow.Author.Tests.{eq-eqb, ne_eqb}
use lib.Dec.{eqb}
use lib.ListN.{get_or}
use Rattle.rules.specs.Basic.{pick}
use Rattle.model.specs.Rows.{row_at, row_of, row_on, relation_of, own_target}
use Rattle.model.specs.declared.Relation.TheVariants.{Definition, Reference}
use Rattle.model.specs.declared.Target.TheVariants.{Step, Section}
use Rattle.model.proofs.Stores.{get_or_mid}
use Rattle.model.specs.declared.layout.TheConstants.{ROW}

target_one : (x i : ℕ) → x ≡ 1 → own_target (relation_of x) i ≡ Some i
unfolding relation_of own_target
target_one x i e = rw (ne_eqb x 0 (λ q. omega arith), eq-eqb x 1 e)

target_other : (x i : ℕ) → (x ≡ 1 → ⊥) → own_target (relation_of x) i ≡ None
unfolding relation_of own_target
target_other x i n = rw (ne_eqb x 1 n) (go (eqb x 0) (eqb x 2))
  where
    go : (b c : Bool) → own_target (pick b Definition (pick c (Reference Step) (Reference Section))) i ≡ None
    go true c = refl
    go false true = refl
    go false false = refl

module _ (rows : List ℕ) (i : ℕ) where
  word : (j : ℕ) → j < ROW → get_or (row_at ROW rows i) j 0 ≡ get_or rows (i * ROW + j) 0
  word j h = get_or_mid (i * ROW) ROW rows j h

  pub reference_word : eqb (get_or rows (i * ROW + 5) 0) 1 ≡ (row_on rows i).reference
  unfolding row_of
  reference_word = sym (ap (λ (n : ℕ). eqb n 1) (word 5 (omega arith)))

  pub opt_word : eqb (get_or rows (i * ROW + 7) 0) 1 ≡ (row_on rows i).opt
  unfolding row_of
  opt_word = sym (ap (λ (n : ℕ). eqb n 1) (word 7 (omega arith)))

  pub name_words : (get_or rows (i * ROW + 2) 0 ≡ (row_on rows i).name_at) × (get_or rows (i * ROW + 3) 0 ≡ (row_on rows i).name_end)
  unfolding row_of
  name_words = (sym (word 2 (omega arith)), sym (word 3 (omega arith)))

  target_words : own_target (row_on rows i).relation.relation (row_on rows i).relation.index ≡ own_target (relation_of (get_or rows (i * ROW + 9) 0)) (get_or rows (i * ROW + 10) 0)
  unfolding row_of
  target_words = rw (word 9 (omega arith), word 10 (omega arith))

  pub target_found : get_or rows (i * ROW + 9) 0 ≡ 1 → Some (get_or rows (i * ROW + 10) 0) ≡ own_target (row_on rows i).relation.relation (row_on rows i).relation.index
  target_found q = sym (target_words ∙ target_one (get_or rows (i * ROW + 9) 0) (get_or rows (i * ROW + 10) 0) q)

  pub target_none : (get_or rows (i * ROW + 9) 0 ≡ 1 → ⊥) → None ≡ own_target (row_on rows i).relation.relation (row_on rows i).relation.index
  target_none q = sym (target_words ∙ target_other (get_or rows (i * ROW + 9) 0) (get_or rows (i * ROW + 10) 0) q)
