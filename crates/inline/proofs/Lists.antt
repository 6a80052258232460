-- The search for a name along a chain of the unit list.
use Prim.Native.Nat.{ℕ, ◌-◌, ◌≤◌, ◌<◌}
use mathlib.Core.Path.{◌≡◌, ap, sym, ◌∙◌}
use mathlib.Core.Bool.{Bool, true, false}
use mathlib.Core.List.{List}
use native.Mathlib.Omega.{arith}
use lib.ListN.{length}
use Rattle.rules.specs.Basic.{eq_list, is_some}
use Rattle.content.specs.Contents.{content_in}
use Rattle.rules.specs.Units.{NamedUnit, read_units, find_unit, units_or}
use Rattle.units.specs.Lists.{units_from}
use Rattle.units.proofs.Walks.{units_start}
use Rattle.chains.proofs.Seeks.{Seeking}
use Rattle.unit_index.specs.Index.{next, bucket, first_of, names, Indexed, Linked}
use Rattle.unit_index.proofs.Searches.{seek_content, seek_less, seek_next, content_linked, content_none, content_has}

-- the lines that are left of the chain of a name
pub record Along (units index name : List ℕ) (p : ℕ) : Type 0 where
  pub seeks : Seeking bucket (names units) (length (units_from units 0)) (content_in name) p

module _ (name : List ℕ) {units index : List ℕ} (x : Indexed units index) where
  pub along_first : {p : ℕ} → p ≡ first_of index name → Along units index name p
  along_first e = record { seeks = seek_content x.filled name e }

  module _ {p : ℕ} (v : Along units index name p) where
    pub along_end : p ≡ 0 → is_some (find_unit (content_in name) (units_or (read_units units))) ≡ false
    along_end q = ap (λ (us : List NamedUnit). is_some (find_unit (content_in name) us)) (sym (units_start units x.list)) ∙ content_none x v.seeks q

    module _ (t : p ≡ 0 → ⊥) where
      pub along_linked : Linked units p
      along_linked = content_linked x v.seeks t

      pub along_few : (0 < p) × (p ≤ 1024)
      along_few = (along_linked.some, omega (arith, along_linked.most, x.filled.most))

      pub along_less : {q : ℕ} → q ≡ next index (p - 1) → q < p
      along_less g = seek_less x.filled v.seeks t g

      module _ {r : Bool} (s : r ≡ eq_list (content_in name) (names units (p - 1))) where
        pub along_hit : r ≡ true → is_some (find_unit (content_in name) (units_or (read_units units))) ≡ true
        along_hit h = ap (λ (us : List NamedUnit). is_some (find_unit (content_in name) us)) (sym (units_start units x.list)) ∙ content_has x v.seeks t s h

        pub along_on : {q : ℕ} → r ≡ false → q ≡ next index (p - 1) → Along units index name q
        along_on h g = record { seeks = seek_next x.filled v.seeks t s h g }
