-- A table as it is lent: the records and then empty ones, the pairs and then zeros.
use mathlib.Core.Path.{◌≡◌, sym, ◌∙◌, ap, subst}
use Prim.Native.Nat.{ℕ, zero, suc, ◌-◌, ◌*◌, ◌<◌, ◌≤◌}
use native.Mathlib.Omega.{arith}
use mathlib.Core.List.{List, ◌++◌}
use lib.ListN.{length, get_or, take, drop, replicate, length-append, length-replicate}
use native.Mathlib.Nat.{sub-zero, zero-sub}
use mathlib.Core.Bool.{true}
use Rattle.model.specs.declared.Relation.TheVariants.{Definition}
use Rattle.component_records.specs.declared.Component.{Component}
use Rattle.component_records.specs.Records.{no_component, component_in, records_in}
use Rattle.component_records.specs.Links.{is_own, pairs_of, own_count, RefersBack, Linkable}
use Rattle.component_records.proofs.Records.{length_records, get_or_records, take_records}
use Rattle.component_records.proofs.Pairs.{count_le}

abbrev none : ℕ → List ℕ
none n = replicate n 0

drop_zeros : (k n : ℕ) → drop k (none n) ≡ none (n - k)
drop_zeros zero n = ap none (sym (sub-zero n))
drop_zeros (suc k) zero = ap none (sym (zero-sub (suc k)))
drop_zeros (suc k) (suc n) = let e : n - k ≡ suc n - suc k = omega arith in drop_zeros k n ∙ ap none e

module _ (words : List ℕ) (from count : ℕ) (ys : List Component) (ps : List ℕ) where
  abbrev rows : List Component
  rows = records_in words from count

  abbrev pub lent : List Component
  lent = rows ++ replicate (length ys - count) no_component

  abbrev pub zeros : List ℕ
  zeros = replicate (length ps) 0

  front : take count lent ≡ rows
  front = take_records words from count (replicate (length ys - count) no_component)

  pub length_lent : count ≤ length ys → length lent ≡ length ys
  length_lent h =
      let a = length-append rows (replicate (length ys - count) no_component) in
      let b = length_records words from count in
      let c = length-replicate (length ys - count) no_component in
      omega (arith, a, b, c)

  pub length_zeros : length zeros ≡ length ps
  length_zeros = length-replicate (length ps) 0

  pub lent_linkable : Linkable rows (length ps) → Linkable (take count lent) (length zeros)
  lent_linkable h = subst (λ (l : List Component). Linkable l (length zeros)) (sym front) (subst (λ (n : ℕ). Linkable rows n) (sym length_zeros) h)

  pub lent_pairs : {zs : List ℕ} → zs ≡ pairs_of (take count lent) ++ drop (length (pairs_of (take count lent))) zeros
      → zs ≡ pairs_of rows ++ replicate (length ps - length (pairs_of rows)) 0
  lent_pairs e =
      e ∙ ap (λ (l : List Component). pairs_of l ++ drop (length (pairs_of l)) zeros) front
      ∙ ap (λ (l : List ℕ). pairs_of rows ++ l) (drop_zeros (length (pairs_of rows)) (length ps))

  pub lent_count : {r : ℕ} → r ≡ own_count (take count lent) → r ≡ own_count rows
  lent_count e = e ∙ ap own_count front

-- ---- what lets a table's records be linked, in the words of its rows
module _ (words : List ℕ) (from n : ℕ) where
  abbrev row : ℕ → Component
  row i = component_in words from i

  pub records_linkable : {room : ℕ} → n * 2 ≤ room
      → ((i : ℕ) → i < n → is_own (row i).relation.relation ≡ true → ((row i).relation.index < i) × ((row (row i).relation.index).relation.relation ≡ Definition))
      → Linkable (records_in words from n) room
  records_linkable {room} h back =
      record {
        back = λ i l own. at i (subst (λ (k : ℕ). i < k) (length_records words from n) l) own;
        fits = let c = count_le (records_in words from n) in let e = length_records words from n in omega (arith, c, e, h);
      }
    where
      at : (i : ℕ) → i < n → is_own (get_or (records_in words from n) i no_component).relation.relation ≡ true → RefersBack (records_in words from n) i
      at i l own =
          let e : get_or (records_in words from n) i no_component ≡ row i = get_or_records words from n i l in
          let r = back i l (ap (λ (c : Component). is_own c.relation.relation) (sym e) ∙ own) in
          let k = (row i).relation.index in
          let b : k < i = r.0 in
          record {
            before = subst (λ (c : Component). c.relation.index < i) (sym e) b;
            there =
                ap (λ (c : Component). (get_or (records_in words from n) c.relation.index no_component).relation.relation) e
                ∙ ap (λ (c : Component). c.relation.relation) (get_or_records words from n k (omega arith)) ∙ r.1;
          }
