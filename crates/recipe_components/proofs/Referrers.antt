-- The lent pairs say of a definition what the pass keeps of it: its referrers, oldest first.
use Prim.Native.Nat.{ℕ, suc, ◌+◌, ◌*◌}
use mathlib.Core.Path.{◌≡◌, refl, sym, ap, ◌∙◌}
use mathlib.Core.List.{List, [], ◌∷◌, ◌++◌, append_assoc}
use mathlib.Core.Bool.{Bool, true, false, ◌&&◌}
use Rattle.std.specs.Prelude.{Option, Some, Result, Ok, Err}
use native.Mathlib.Nat.{zero-add}
use native.Mathlib.Omega.{arith}
use lib.Dec.{eqb, ltb}
use lib.ListN.{length, get_or, length-append}
use lib.Seq.{get_or_at, get_or-append-add}
use Rattle.rules.specs.Input.{Input}
use Rattle.rules.specs.Basic.{pick}
use Rattle.rules.specs.Model.{Kind, ingredient, cookware, Relation, definition, reference, Entry, is_own}
use Rattle.rules.specs.Reference.{entry_at, is_definition, referrers, is_own_reference, own_references}
use Rattle.rules.specs.State.{State, table_of, Outcome, recipe}
use Rattle.rules.specs.Answer.{words_needed, collection}
use Rattle.rules.proofs.Basics.{pick_either, no_truth}
use Rattle.rules.proofs.SimWalk.{no_recipe_lem}
use Rattle.rules.proofs.Referrers.{Linked, refers_own, own_referrers}
use Rattle.rules.proofs.LinkedRecipe.{collection_linked}
use Rattle.model.specs.Rows.{referrers_in, referrers_from}
use Rattle.model.proofs.Searches.{referrers_oldest}
use Rattle.component_records.specs.declared.Component.{Component}
use Rattle.recipe_components.specs.declared.ComponentCounts.{ComponentCounts}
use Rattle.recipe_components.specs.Components.{pair_of, table_pairs, Room, both_fit, counts_of, answer_of, told_answer, table_lent, outcome_of, ComponentsLeft}

-- ---- two numbers a pair

pair_length : (k : Kind) (r : Relation) (i : ℕ) → length (pair_of k r i) ≡ pick {X = ℕ} (is_own_reference k r) 1 0 * 2
unfolding pair_of is_own_reference
pair_length k (definition b by) i = refl
pair_length k (reference t d) i = go (is_own k t)
  where
    go : (b : Bool) → length (pick b (d ∷ i ∷ []) []) ≡ pick {X = ℕ} b 1 0 * 2
    go true = refl
    go false = refl

pub pairs_length : (k : Kind) (es : List Entry) → length (table_pairs k es) ≡ own_references k es * 2
unfolding table_pairs own_references
pairs_length k [] = refl
pairs_length k (e ∷ es) =
    let a = length-append (table_pairs k es) (pair_of k e.relation (length es)) in
    omega (arith, a, pairs_length k es, pair_length k e.relation (length es))

-- ---- the pairs of a definition, newest first

-- one pair more
module _ (d j i n : ℕ) (xs rest : List ℕ) (long : length xs ≡ n * 2) where
  pair_read : referrers_in (xs ++ (j ∷ i ∷ rest)) d (suc n) ≡ pick (eqb j d) (i ∷ referrers_in (xs ++ (j ∷ i ∷ rest)) d n) (referrers_in (xs ++ (j ∷ i ∷ rest)) d n)
  unfolding referrers_in
  pair_read =
      let a : get_or (xs ++ (j ∷ i ∷ rest)) (n * 2) 0 ≡ j = get_or_at xs j (i ∷ rest) 0 (n * 2) long in
      let b : get_or (xs ++ (j ∷ i ∷ rest)) (n * 2 + 1) 0 ≡ i =
      ap (λ (m : ℕ). get_or (xs ++ (j ∷ i ∷ rest)) (m + 1) 0) (sym long) ∙ get_or-append-add xs (j ∷ i ∷ rest) 1 0 in
      rw (a, b)

module _ (k : Kind) (d : ℕ) (es : List Entry) (rest : List ℕ) where
  entry_pairs : ((rest' : List ℕ) → referrers_in (table_pairs k es ++ rest') d (own_references k es) ≡ own_referrers k d es) → (r : Relation)
      → referrers_in (table_pairs k es ++ (pair_of k r (length es) ++ rest)) d (pick {X = ℕ} (is_own_reference k r) 1 0 + own_references k es)
      ≡ pick (refers_own k d r) (length es ∷ own_referrers k d es) (own_referrers k d es)
  unfolding pair_of is_own_reference refers_own
  entry_pairs ih (definition b by) = ap (λ (n : ℕ). referrers_in (table_pairs k es ++ rest) d n) (zero-add (own_references k es)) ∙ ih rest
  entry_pairs ih (reference t j) = by (is_own k t)
    where
      by : (b : Bool) → referrers_in (table_pairs k es ++ (pick b (j ∷ length es ∷ []) [] ++ rest)) d (pick {X = ℕ} b 1 0 + own_references k es)
          ≡ pick (b && eqb j d) (length es ∷ own_referrers k d es) (own_referrers k d es)
      by true =
          ap (λ (n : ℕ). referrers_in (table_pairs k es ++ (j ∷ length es ∷ rest)) d n) (let z : 1 + own_references k es ≡ suc (own_references k es) = omega arith in z)
          ∙ pair_read d j (length es) (own_references k es) (table_pairs k es) rest (pairs_length k es) ∙ rw (ih (j ∷ length es ∷ rest))
      by false = ap (λ (n : ℕ). referrers_in (table_pairs k es ++ rest) d n) (zero-add (own_references k es)) ∙ ih rest

table_referrers : (k : Kind) (d : ℕ) (es : List Entry) (rest : List ℕ) → referrers_in (table_pairs k es ++ rest) d (own_references k es) ≡ own_referrers k d es
unfolding table_pairs own_references own_referrers
table_referrers k d [] rest = unfold referrers_in in refl
table_referrers k d (e ∷ es) rest =
    ap (λ (l : List ℕ). referrers_in l d (pick {X = ℕ} (is_own_reference k e.relation) 1 0 + own_references k es)) (append_assoc (table_pairs k es) (pair_of k e.relation (length es)) rest)
    ∙ entry_pairs k d es rest (λ rest'. table_referrers k d es rest') e.relation

-- the pairs of a table, whatever stands after them: the referrers of a definition, oldest first, are those that the rules keep
pub pairs_referrers : (k : Kind) (es : List Entry) (rest : List ℕ) → Linked k es → (d : ℕ) (e : Entry) → entry_at d es ≡ Some e → is_definition e.relation ≡ true
    → referrers_from (table_pairs k es ++ rest) d 0 (own_references k es) ≡ referrers e.relation
pairs_referrers k es rest l d e q p = go e.relation refl p
  where
    go : (r : Relation) → e.relation ≡ r → is_definition r ≡ true → referrers_from (table_pairs k es ++ rest) d 0 (own_references k es) ≡ referrers r
    go (definition b by) h g =
        sym (referrers_oldest (table_pairs k es ++ rest) d (own_references k es) b)
        ∙ ap (λ (x : List ℕ). referrers (definition b x)) (table_referrers k d es rest ∙ sym (l.referrers d e b by q h))
    go (reference t j) h g = no_truth (unfold is_definition in g)

-- ---- of every recipe that `collect_components` lends

module _ {n : ComponentCounts} where
  no_counts : {P : Type 0} {r : ℕ × ℕ} → Ok (Some n) ≡ Err r → P
  no_counts q = absurd (let z : ◌≡◌ {A = ℕ} 0 1 = cc in omega arith)

  same_counts : {k : ComponentCounts} → ◌≡◌ {A = Result (Option ComponentCounts) (ℕ × ℕ)} (Ok (Some n)) (Ok (Some k)) → n ≡ k
  same_counts q = cc

module _ (m : Room) (st : State) {n : ComponentCounts} (a : Ok (Some n) ≡ answer_of m (recipe st)) where
  all_fits : both_fit m st ≡ true
  unfolding answer_of
  all_fits = go (both_fit m st) a
    where
      go : (b : Bool) → ◌≡◌ {A = Result (Option ComponentCounts) (ℕ × ℕ)} (Ok (Some n)) (pick b (Ok (Some (counts_of st))) (Err (20, 0))) → b ≡ true
      go true q = refl
      go false q = no_counts q

  counts_are : n ≡ counts_of st
  unfolding answer_of
  counts_are = same_counts (a ∙ rw all_fits)

  pairs_counted : (n.ingredient_pairs ≡ own_references ingredient (table_of ingredient st)) × (n.cookware_pairs ≡ own_references cookware (table_of cookware st))
  unfolding counts_of
  pairs_counted = (ap (λ (c : ComponentCounts). c.ingredient_pairs) counts_are, ap (λ (c : ComponentCounts). c.cookware_pairs) counts_are)

module _ {i : Input} {m : Room} {w : List ℕ} {is : List Component} {ips : List ℕ} {cs : List Component} {cps : List ℕ} {n : ComponentCounts}
    (x : ComponentsLeft i m w is ips cs cps (Ok (Some n))) (st : State) (o : outcome_of i m ≡ recipe st) where
  collects : collection i ≡ recipe st
  unfolding outcome_of
  collects = pick_either (λ (y : Outcome). y ≡ recipe st → collection i ≡ recipe st) (ltb m.words words_needed) _ _ (λ b q. no_recipe_lem q) (λ b q. q) o

  answered : Ok (Some n) ≡ answer_of m (recipe st)
  unfolding told_answer
  answered = x.answer ∙ ap (answer_of m) o

  lent : (k : Kind) → table_lent m k (outcome_of i m) ≡ table_of k st
  unfolding table_lent
  lent k = rw (o, all_fits m st answered)

  pub ingredient_referrers : (d : ℕ) (e : Entry) → entry_at d (table_of ingredient st) ≡ Some e → is_definition e.relation ≡ true → referrers_from ips d 0 n.ingredient_pairs ≡ referrers e.relation
  ingredient_referrers d e q p =
      rw (x.ingredients.pairs, lent ingredient, (pairs_counted m st answered).0)
      (pairs_referrers ingredient (table_of ingredient st) _ (collection_linked i st collects ingredient) d e q p)

  pub cookware_referrers : (d : ℕ) (e : Entry) → entry_at d (table_of cookware st) ≡ Some e → is_definition e.relation ≡ true → referrers_from cps d 0 n.cookware_pairs ≡ referrers e.relation
  cookware_referrers d e q p =
      rw (x.cookware.pairs, lent cookware, (pairs_counted m st answered).1)
      (pairs_referrers cookware (table_of cookware st) _ (collection_linked i st collects cookware) d e q p)
