-- The rows of a table in work memory: their records, and the pairs of those that refer to their own kind.
use Prim.Native.Nat.{ℕ, zero, suc, ◌+◌, ◌*◌, ◌≤◌, ◌<◌}
use mathlib.Core.Path.{◌≡◌, refl, sym, ap, ◌∙◌}
use mathlib.Core.List.{List, [], ◌∷◌, ◌++◌}
use mathlib.Core.Bool.{Bool, true, false}
use Rattle.std.specs.Prelude.{Some}
use native.Mathlib.Omega.{arith}
use lib.ListN.{length, get_or, take, drop}
use lib.Seq.{take-take}
use Rattle.rules.specs.Basic.{pick}
use Rattle.rules.specs.Model.{Kind, ingredient, cookware, to_step, to_section, reference, target_of, Entry, set_relation, set_modifiers, is_own}
use Rattle.rules.specs.Reference.{entry_at, is_definition, is_own_reference, own_references}
use Rattle.rules.proofs.Basics.{no_truth, some_inj}
use Rattle.rules.proofs.Referrers.{own_target, Linked, DefinedAt, entry_below}
use Rattle.model.specs.Rows.{row_of, row_on, modifiers_in, relation_as, relation_in, entry_as, entry_in, entries_in}
use Rattle.model.specs.Fits.{Fits, EachRow}
use Rattle.model.specs.declared.Target.TheVariants.{Ingredient, Step, Section}
use Rattle.model.specs.declared.Relation as memory
use Rattle.model.specs.declared.Relation.TheVariants.{Definition, Reference}
use Rattle.model.specs.declared.Row.{Row}
use Rattle.model.proofs.Tables.{entries_length, entries_at}
use Rattle.component_records.specs.Records.{no_component, lent_as, lent_relation, component_of, component_in, records_in}
use Rattle.component_records.specs.Links as links
use Rattle.component_records.specs.Links.{pair_at, pairs_from, pairs_of, own_at, own_count, RefersBack, Linkable}
use Rattle.recipe_components.specs.Components.{relation_record_of, modifiers_of, RecordOf, RecordsOf, pair_of, table_pairs}
use Rattle.component_records.proofs.Records.{length_records, get_or_records}
use Rattle.component_records.proofs.Pairs.{count_snoc, pairs_snoc}
use Rattle.model.specs.declared.layout.TheConstants.{ROW}

-- ---- a row's window

mid_take : (j k m : ℕ) (xs : List ℕ) → j + k ≤ m → take k (drop j (take m xs)) ≡ take k (drop j xs)
mid_take zero k m xs h = take-take k m xs (omega arith)
mid_take (suc j) k zero xs h = absurd (omega arith)
mid_take (suc j) k (suc m) [] h = refl
mid_take (suc j) k (suc m) (x ∷ xs) h = mid_take j k m xs (omega arith)

-- ---- a relation

lent_own : (k : Kind) (index : ℕ) → record { relation = Reference Ingredient; in_step = false; index = index } ≡ relation_record_of (reference (target_of k) index)
unfolding relation_record_of target_of
lent_own ingredient index = refl
lent_own cookware index = refl

module _ (k : Kind) (in_step : Bool) (index : ℕ) (by : List ℕ) where
  lent_is : (x : memory.Relation) → lent_as x in_step index ≡ relation_record_of (relation_as k x in_step index by)
  unfolding lent_as relation_record_of relation_as target_of
  lent_is Definition = refl
  lent_is (Reference Ingredient) = lent_own k index
  lent_is (Reference Step) = refl
  lent_is (Reference Section) = refl

  own_is : (x : memory.Relation) → links.is_own (lent_as x in_step index).relation ≡ true → relation_as k x in_step index by ≡ reference (target_of k) (lent_as x in_step index).index
  unfolding lent_as relation_as
  own_is Definition q = no_truth q
  own_is (Reference Ingredient) q = refl
  own_is (Reference Step) q = no_truth q
  own_is (Reference Section) q = no_truth q

  defines_is : (x : memory.Relation) → is_definition (relation_as k x in_step index by) ≡ true → (lent_as x in_step index).relation ≡ Definition
  unfolding lent_as relation_as is_definition
  defines_is Definition q = refl
  defines_is (Reference Ingredient) q = no_truth q
  defines_is (Reference Step) q = no_truth q
  defines_is (Reference Section) q = no_truth q

no_step : (k : Kind) → is_own k to_step ≡ false
unfolding is_own
no_step ingredient = refl
no_step cookware = refl

no_section : (k : Kind) → is_own k to_section ≡ false
unfolding is_own
no_section ingredient = refl
no_section cookware = refl

module _ (k : Kind) (in_step : Bool) (index : ℕ) (by : List ℕ) (i : ℕ) where
  pair_is : (x : memory.Relation) → pick (links.is_own (lent_as x in_step index).relation) ((lent_as x in_step index).index ∷ i ∷ []) [] ≡ pair_of k (relation_as k x in_step index by) i
  unfolding lent_as relation_as pair_of
  pair_is Definition = refl
  pair_is (Reference Ingredient) = rw (own_target k)
  pair_is (Reference Step) = rw (no_step k)
  pair_is (Reference Section) = rw (no_section k)

  one_is : (x : memory.Relation) → pick {X = ℕ} (links.is_own (lent_as x in_step index).relation) 1 0 ≡ pick {X = ℕ} (is_own_reference k (relation_as k x in_step index by)) 1 0
  unfolding lent_as relation_as is_own_reference
  one_is Definition = refl
  one_is (Reference Ingredient) = rw (own_target k)
  one_is (Reference Step) = rw (no_step k)
  one_is (Reference Section) = rw (no_section k)

-- ---- a row

module _ (k : Kind) (sheet : List ℕ) (r : Row) (by : List ℕ) where
  record_of : Fits k sheet r → RecordOf k sheet (entry_as k sheet r by) (component_of r)
  unfolding component_of lent_relation entry_as set_relation set_modifiers relation_in modifiers_of modifiers_in
  record_of f =
      record {
        relation = lent_is k r.relation.in_step r.relation.index by r.relation.relation;
        modifiers = refl;
        line = f.line;
        is_line = f.is_line;
        is_entry = refl;
        name_at = f.name_at;
        name = f.name;
        name_end = f.name_end;
        is_name = f.is_name;
      }

  row_pair : (i : ℕ) → pair_at i (component_of r) ≡ pair_of k (entry_as k sheet r by).relation i
  unfolding pair_at component_of lent_relation entry_as set_relation set_modifiers relation_in
  row_pair i = pair_is k r.relation.in_step r.relation.index by i r.relation.relation

  row_one : own_at (component_of r) ≡ pick {X = ℕ} (is_own_reference k (entry_as k sheet r by).relation) 1 0
  unfolding own_at component_of lent_relation entry_as set_relation set_modifiers relation_in
  row_one = one_is k r.relation.in_step r.relation.index by 0 r.relation.relation

  row_own : links.is_own (component_of r).relation.relation ≡ true → (entry_as k sheet r by).relation ≡ reference (target_of k) (component_of r).relation.index
  unfolding component_of lent_relation entry_as set_relation set_modifiers relation_in
  row_own q = own_is k r.relation.in_step r.relation.index by r.relation.relation q

  row_defines : is_definition (entry_as k sheet r by).relation ≡ true → (component_of r).relation.relation ≡ Definition
  unfolding component_of lent_relation entry_as set_relation set_modifiers relation_in
  row_defines q = defines_is k r.relation.in_step r.relation.index by r.relation.relation q

-- ---- the table of n rows in the window of `size` words from `from` on, with m pairs

abbrev pub window_table : Kind → List ℕ → List ℕ → ℕ → ℕ → (ℕ → List ℕ) → ℕ → List Entry
window_table k sheet w from size by n = entries_in k sheet (take size (drop from w)) by n

module _ (k : Kind) (sheet w : List ℕ) (from size : ℕ) (by : ℕ → List ℕ) (n : ℕ) (room : n * ROW ≤ size) where
  abbrev es : List Entry
  es = window_table k sheet w from size by n

  row_in : (i : ℕ) → i < n → component_in w from i ≡ component_of (row_on (take size (drop from w)) i)
  unfolding component_in
  row_in i l = ap (λ (x : List ℕ). component_of (row_of x)) (sym (mid_take (i * ROW) ROW size (drop from w) (omega arith)))

  entry_is : (i : ℕ) (e : Entry) → i < n → entry_at i es ≡ Some e → e ≡ entry_in k sheet (take size (drop from w)) by i
  entry_is i e l q = some_inj (sym q ∙ entries_at k sheet (take size (drop from w)) by i n l)

  pub table_records : EachRow (Fits k sheet) (take size (drop from w)) n → RecordsOf k sheet es (records_in w from n)
  unfolding entry_in
  table_records f =
      record {
        long = length_records w from n ∙ sym (entries_length k sheet (take size (drop from w)) by n);
        at = at;
      }
    where
      at : (i : ℕ) (e : Entry) → entry_at i es ≡ Some e → RecordOf k sheet e (get_or (records_in w from n) i no_component)
      at i e q =
          let l : i < n = omega (arith, entry_below i es e q, entries_length k sheet (take size (drop from w)) by n) in
          rw (get_or_records w from n i l, row_in i l, entry_is i e l q)
          (record_of k sheet (row_on (take size (drop from w)) i) (by i) (f.at i l))

  pub table_linkable : Linked k es → (words : ℕ) → own_count (records_in w from n) * 2 ≤ words → Linkable (records_in w from n) words
  unfolding entry_in
  table_linkable h words fits = record { back = back; fits = fits }
    where
      there : (d : ℕ) → d < n → DefinedAt d es → (component_in w from d).relation.relation ≡ Definition
      there d l x =
          let e : x.entry ≡ entry_in k sheet (take size (drop from w)) by d = entry_is d x.entry l x.stands in
          rw (row_in d l) (row_defines k sheet (row_on (take size (drop from w)) d) (by d) (rw e at x.is))

      at : (i : ℕ) → i < n → links.is_own (component_in w from i).relation.relation ≡ true
          → ((component_in w from i).relation.index < i) × ((component_in w from (component_in w from i).relation.index).relation.relation ≡ Definition)
      at i l q =
          let o = row_own k sheet (row_on (take size (drop from w)) i) (by i) (rw (row_in i l) at q) in
          let t = h.target i (component_in w from i).relation.index (entry_in k sheet (take size (drop from w)) by i)
          (entries_at k sheet (take size (drop from w)) by i n l) (rw (row_in i l) o) in
          (t.0, there _ (omega (arith, t.0)) t.1)

      back : (i : ℕ) → i < length (records_in w from n) → links.is_own (get_or (records_in w from n) i no_component).relation.relation ≡ true → RefersBack (records_in w from n) i
      back i l q =
          let g : i < n = omega (arith, length_records w from n) in
          let a = at i g (rw (get_or_records w from n i g) at q) in
          record {
            before = rw (get_or_records w from n i g) a.0;
            there = rw (get_or_records w from n i g) (rw (get_or_records w from n (component_in w from i).relation.index (omega (arith, a.0))) a.1);
          }

-- pairs and counts, row by row
module _ (k : Kind) (sheet w : List ℕ) (from size : ℕ) (by : ℕ → List ℕ) where
  pub table_pairs_lem : (n : ℕ) → n * ROW ≤ size → pairs_of (records_in w from n) ≡ table_pairs k (window_table k sheet w from size by n)
  unfolding records_in pairs_of pairs_from table_pairs entries_in entry_in
  table_pairs_lem zero h = refl
  table_pairs_lem (suc n) h =
      pairs_snoc (records_in w from n) (component_in w from n)
      ∙ rw (table_pairs_lem n (omega arith), length_records w from n, row_in k sheet w from size by (suc n) h n (omega arith), entries_length k sheet (take size (drop from w)) by n)
      (ap (λ (l : List ℕ). table_pairs k (window_table k sheet w from size by n) ++ l) (row_pair k sheet (row_on (take size (drop from w)) n) (by n) n))

  pub table_own : (n : ℕ) → n * ROW ≤ size → own_count (records_in w from n) ≡ own_references k (window_table k sheet w from size by n)
  unfolding records_in own_count own_references entries_in entry_in
  table_own zero h = refl
  table_own (suc n) h =
      let a = count_snoc (records_in w from n) (component_in w from n) in
      let b = ap own_at (row_in k sheet w from size by (suc n) h n (omega arith)) ∙ row_one k sheet (row_on (take size (drop from w)) n) (by n) in
      let c = table_own n (omega arith) in
      omega (arith, a, b, c)
