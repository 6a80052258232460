-- The turns of the functions that look for a fault.
use Prim.Native.Nat.{ℕ, ◌-◌, ◌≤◌}
use mathlib.Core.Path.{◌≡◌, refl, sym, ap, ◌∙◌}
use mathlib.Core.List.{List}
use mathlib.Core.Bool.{Bool, true, false}
use Rattle.std.specs.Prelude.{Option, None, Some, Result, Ok, Err}
use native.Mathlib.Omega.{arith}
use borrow.Author.Tests.{eq-eqb, ne_eqb}
use lib.ListN.{length, take, drop}
use Rattle.rules.specs.Unicode.{fold_name}
use Rattle.refusals.specs.Told.{number_told}
use Rattle.refusals.specs.declared.Reason.{Reason}
use Rattle.refusals.specs.declared.Reason.TheVariants as reason
use Rattle.content.specs.Contents.{kept_in}
use Rattle.model.specs.Rows.{row_on, own_target}
use Rattle.lookup.specs.Names.{name_part, same_row}
use Rattle.lookup.proofs.Names.{part_slice}
use Rattle.plain_walk.specs.Rows.{fault_as, implicit_row, last_row}
use Rattle.plain_walk.specs.Faults.{RowNamed, ImplicitFound, RowFault}

-- ---- what a row refers to

module _ {rows : List ℕ} {n : ℕ} {ref : Bool} where
  pub implicit_marked : ref ≡ true → ImplicitFound rows ref n None
  unfolding implicit_row
  implicit_marked e = record { is = rw e }

  pub implicit_at_lem : {r : Option ℕ} → ref ≡ false → r ≡ own_target (row_on rows n).relation.relation (row_on rows n).relation.index → ImplicitFound rows ref n r
  unfolding implicit_row
  implicit_at_lem e q = record { is = rw e q }

-- ---- the last of its name

-- the name of row n stands there
module _ {sheet rows : List ℕ} {n from to : ℕ} (z : RowNamed sheet rows n) (x : (from ≡ (row_on rows n).name_at) × (to ≡ (row_on rows n).name_end)) where
  pub last_part_lem : (from ≤ to) × (to ≤ length sheet)
  last_part_lem = let p = z.names.at n (omega arith) in rw (x.0, x.1) (p.order, p.most)

  last_name : take (to - from) (drop from sheet) ≡ name_part sheet (row_on rows n)
  last_name = part_slice from to sheet last_part_lem.0 ∙ rw (x.0, x.1)

  last_fault : (r : Option ℕ) (d : ℕ) (o : Option ℕ) {m : Result (Unit {0}) Reason} → r ≡ same_row sheet (fold_name (kept_in (take (to - from) (drop from sheet)))) true false rows n → r ≡ o
      → number_told m ≡ fault_as (Some d) o → RowFault sheet rows n (Some d) m
  unfolding last_row
  last_fault r d o k q g =
      record { is = g ∙ ap (λ (x : Option ℕ). fault_as (Some d) x) (sym q ∙ (k ∙ ap (λ (x : List ℕ). same_row sheet (fold_name (kept_in x)) true false rows n) last_name)) }

  module _ (r : Option ℕ) (k : r ≡ same_row sheet (fold_name (kept_in (take (to - from) (drop from sheet)))) true false rows n) {d : ℕ} where
    pub last_none : r ≡ None → RowFault sheet rows n (Some d) (Err reason.NotLast)
    unfolding fault_as
    last_none q = last_fault r d None k q refl

    pub last_same : (l : ℕ) → r ≡ Some l → l ≡ d → RowFault sheet rows n (Some d) (Ok tt)
    unfolding fault_as
    last_same l q g = last_fault r d (Some l) k q (rw (eq-eqb d l (sym g)))

    pub last_other : (l : ℕ) → r ≡ Some l → (l ≡ d → ⊥) → RowFault sheet rows n (Some d) (Err reason.NotLast)
    unfolding fault_as
    last_other l q g = last_fault r d (Some l) k q (rw (ne_eqb d l (λ (x : d ≡ l). g (sym x))))

module _ {sheet rows : List ℕ} {ref : Bool} {n : ℕ} {to : Option ℕ} (i : ImplicitFound rows ref n to) where
  pub row_none : to ≡ None → RowFault sheet rows n (implicit_row rows ref n) (Ok tt)
  unfolding fault_as
  row_none q = record { is = ap (λ (x : Option ℕ). fault_as x (last_row rows sheet n)) (sym q ∙ i.is) }

  pub row_at_lem : (d : ℕ) {r : Result (Unit {0}) Reason} → to ≡ Some d → RowFault sheet rows n (Some d) r → RowFault sheet rows n (implicit_row rows ref n) r
  row_at_lem d q f = record { is = f.is ∙ ap (λ (x : Option ℕ). fault_as x (last_row rows sheet n)) (sym q ∙ i.is) }
