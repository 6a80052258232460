-- How many of a table's rows refer to their own kind.
use Prim.Native.Nat.{ℕ, ◌+◌, ◌*◌, ◌≤◌, ◌<◌}
use mathlib.Core.Path.{◌≡◌, refl, sym, subst, ◌∙◌}
use mathlib.Core.List.{List}
use mathlib.Core.Bool.{Bool, true, false}
use native.Mathlib.Omega.{arith}
use native.Mathlib.Numerals.{add-one}
use lib.Dec.{leb, ltb}
use borrow.Author.Tests.{le-leb, lt-leb, lt-ltb}
use Rattle.rules.specs.Basic.{pick}
use Rattle.component_records.specs.Records.{no_component, component_in, records_in}
use Rattle.component_records.specs.Links.{is_own, own_at, own_count}
use Rattle.component_records.specs.Tables.{TableRoom, OwnCounted, is_room_for}
use Rattle.component_records.specs.declared.Component.{Component}
use Rattle.component_records.proofs.Pairs.{count_snoc}

-- ---- a reference to its own kind
module _ (c : Component) {b : Bool} (p : b ≡ is_own c.relation.relation) where
  pub own_one : b ≡ true → 1 ≡ own_at c
  unfolding own_at
  own_one q = rw (sym p ∙ q)

  pub own_none : b ≡ false → 0 ≡ own_at c
  unfolding own_at
  own_none q = rw (sym p ∙ q)

pub own_few : (c : Component) → own_at c ≤ 1
unfolding own_at
own_few c = go (is_own c.relation.relation)
  where
    go : (b : Bool) → pick {X = ℕ} b 1 0 ≤ 1
    go true = omega arith
    go false = omega arith

-- ---- the loop over the rows
pub own_start : (w : List ℕ) (from : ℕ) → OwnCounted w from 0 0
unfolding records_in own_count
own_start w from = record { is = refl; few = omega arith }

pub own_turn : {w : List ℕ} {from count i n m : ℕ} {c : Component} → OwnCounted w from i n → i < count
    → c ≡ pick (ltb i count) (component_in w from i) no_component → m ≡ n + own_at c → OwnCounted w from (i + 1) m
unfolding records_in
own_turn {w} {from} {count} {i} {n} {m} {c} o l e q =
    let d : c ≡ component_in w from i = rw (lt-ltb i count l) at e in
    record {
      is = rw (q, add-one i) (rw (o.is, d) (sym (count_snoc (records_in w from i) (component_in w from i))));
      few = omega (arith, o.few, q, own_few c);
    }

pub own_end : {w : List ℕ} {from count i n : ℕ} → OwnCounted w from i n → i ≤ count → count ≤ i → OwnCounted w from count n
own_end {w} {from} {count} {i} {n} o a b = let e : i ≡ count = omega arith in subst (λ (j : ℕ). OwnCounted w from j n) e o

-- ---- what fits
module _ (count pairs : ℕ) (m : TableRoom) where
  pub records_short : m.records < count → leb count m.records ≡ is_room_for count pairs m
  unfolding is_room_for
  records_short h = rw (lt-leb count m.records h)

  pub records_long : count ≤ m.records → leb (pairs * 2) m.pairs ≡ is_room_for count pairs m
  unfolding is_room_for
  records_long h = rw (le-leb count m.records h)
