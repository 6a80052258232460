-- Of every recipe: its tables are linked, and keep as many referrers as they have references to their own entries.
use Prim.Native.Nat.{ℕ, suc, ◌+◌}
use mathlib.Core.Path.{◌≡◌, refl, sym, ap, ◌∙◌, subst}
use mathlib.Core.List.{List, [], ◌∷◌}
use mathlib.Core.Bool.{Bool, true, false}
use Rattle.std.specs.Prelude.{Option, Some}
use native.Mathlib.Omega.{arith}
use lib.Dec.{eqb}
use lib.ListN.{length}
use Rattle.rules.specs.Input.{Input, Context, context_of}
use Rattle.rules.specs.Basic.{pick, is_some}
use Rattle.rules.specs.Event.{Event}
use Rattle.rules.specs.Model.{Kind, ingredient, cookware, Relation, definition, reference, Entry, set_relation}
use Rattle.rules.specs.Reference.{Earlier, entry_at, referred_by, set_referenced_from, is_definition, is_own_reference, own_references}
use Rattle.rules.specs.State.{State, first_state, set_kept, table_of, report, over_limits, going, Outcome, recipe}
use Rattle.rules.specs.Components.{Made, referred, pushed}
use Rattle.rules.specs.Pass.{is_open, is_empty_section, close_section, walk, ended, unless_over, finish, parse_events}
use Rattle.rules.specs.Answer.{events_of, collection}
use Rattle.rules.specs.Demand.{is_accepted}
use Rattle.rules.proofs.Basics.{pick_either, no_some, no_truth, some_inj}
use Rattle.rules.proofs.SimWalk.{Went, went}
use Rattle.rules.proofs.Order.{collected, collected_is}
use Rattle.rules.proofs.TableSteps.{Onward, walk_related}
use Rattle.rules.proofs.Referrers.{Linked, MadeLinked, made_definition, made_elsewhere, made_reference, own_target, made_linked, walk_linked}

-- ---- every recipe

ended_table : (k : Kind) (st : State) → table_of k (ended st) ≡ table_of k st
unfolding ended report close_section set_kept table_of
ended_table ingredient st = pick_either (λ (s : State). s.tables.ingredients ≡ st.tables.ingredients) (is_empty_section st.place.section) _ _ (λ b. refl) (λ b. refl)
ended_table cookware st = pick_either (λ (s : State). s.tables.cookware ≡ st.tables.cookware) (is_empty_section st.place.section) _ _ (λ b. refl) (λ b. refl)

finished : (last st : State) → finish (going last) ≡ recipe st → ended last ≡ st
unfolding finish unless_over
finished last st =
    pick_either P (is_open last.place.block) _ _ (λ b q. absurd (let z : ◌≡◌ {A = ℕ} 0 1 = cc in omega arith))
    (λ b. pick_either P (over_limits (ended last)) _ _ (λ c q. absurd (let z : ◌≡◌ {A = ℕ} 0 1 = cc in omega arith)) (λ c q. cc))
  where
    P : Outcome → Type 0
    P o = o ≡ recipe st → ended last ≡ st

-- what holds of the tables of every walk, holds of every recipe
recipe_tables : (P : Kind → List Entry → Type 0) (cx : Context) (es : List Event) (st : State)
    → ((last : State) → walk cx 1 (going first_state) es ≡ going last → (k : Kind) → P k (table_of k last))
    → parse_events cx es ≡ recipe st → (k : Kind) → P k (table_of k st)
recipe_tables P cx es st h q k =
    let w : Went cx es st = went cx es st q in
    subst (P k) (sym (ended_table k w.last) ∙ ap (table_of k) (finished w.last st w.done)) (h w.last w.there k)

pub recipe_linked : (cx : Context) (es : List Event) (st : State) → parse_events cx es ≡ recipe st → (k : Kind)
    → Linked k (table_of k st)
recipe_linked cx es st q = recipe_tables Linked cx es st (walk_linked cx es) q

pub collection_linked : (i : Input) (st : State) → collection i ≡ recipe st → (k : Kind) → Linked k (table_of k st)
unfolding is_accepted
collection_linked i st q = recipe_linked (context_of i) (events_of i) st (sym (collected_is i (collected i (ap is_accepted q))) ∙ q)

-- ---- how many refer

unfoldable pub referrers_of : Relation → ℕ
referrers_of (definition in_step by) = length by
referrers_of (reference t j) = 0

-- the referrers that the definitions of a table keep
unfoldable pub kept_referrers : List Entry → ℕ
kept_referrers [] = 0
kept_referrers (e ∷ es) = referrers_of e.relation + kept_referrers es

own_stays : (k : Kind) (n : ℕ) (r : Relation) → is_own_reference k (referred_by n r) ≡ is_own_reference k r
unfolding is_own_reference referred_by
own_stays k n (definition b by) = refl
own_stays k n (reference t j) = refl

set_references : (k : Kind) (d n : ℕ) (es : List Entry) → own_references k (set_referenced_from d n es) ≡ own_references k es
unfolding set_referenced_from own_references set_relation
set_references k d n [] = refl
set_references k d n (e ∷ es) =
    pick_either (λ (l : List Entry). own_references k l ≡ own_references k (e ∷ es)) (eqb d (length es)) _ _ (λ b. rw (own_stays k n e.relation))
    (λ b. rw (set_references k d n es))

one_more : (n : ℕ) (r : Relation) → is_definition r ≡ true → referrers_of (referred_by n r) ≡ suc (referrers_of r)
unfolding is_definition referrers_of referred_by
one_more n (definition b by) q = refl
one_more n (reference t j) q = no_truth q

set_referrers : (d n : ℕ) (x : Entry) → is_definition x.relation ≡ true → (es : List Entry) → entry_at d es ≡ Some x
    → kept_referrers (set_referenced_from d n es) ≡ suc (kept_referrers es)
unfolding set_referenced_from entry_at kept_referrers set_relation
set_referrers d n x h [] q = no_some q
set_referrers d n x h (e ∷ es) q = go (eqb d (length es)) (set_referrers d n x h es) q
  where
    go : (b : Bool) → (entry_at d es ≡ Some x → kept_referrers (set_referenced_from d n es) ≡ suc (kept_referrers es)) → pick b (Some e) (entry_at d es) ≡ Some x
        → kept_referrers (pick b (set_relation (referred_by n e.relation) e ∷ es) (e ∷ set_referenced_from d n es)) ≡ suc (referrers_of e.relation + kept_referrers es)
    go true ih p =
        let z : e ≡ x = some_inj p in
        let u : referrers_of (referred_by n e.relation) ≡ suc (referrers_of e.relation) = one_more n e.relation (ap (λ (y : Entry). is_definition y.relation) z ∙ h) in
        omega arith
    go false ih p = let z : kept_referrers (set_referenced_from d n es) ≡ suc (kept_referrers es) = ih p in omega arith

-- each component that refers to one of its table is a reference more, and a referrer more
module _ (k : Kind) (m : Made) (es : List Entry) where
  pub pushed_references : MadeLinked k es m.entry.relation m.refers_to → own_references k (pushed m es) ≡ pick (is_some m.refers_to) 1 0 + own_references k es
  unfolding pushed referred own_references is_own_reference is_some
  pushed_references h = go h refl
    where
      go : {r : Relation} {o : Option Earlier} → MadeLinked k es r o → m.entry.relation ≡ r
          → pick (is_own_reference k m.entry.relation) 1 0 + own_references k (referred o es) ≡ pick (is_some o) 1 0 + own_references k es
      go (made_definition b) p = rw p
      go (made_elsewhere t j n) p = rw (p, n)
      go (made_reference d f) p = rw (p, own_target k, set_references k d.index (length es) es)

  pub pushed_referrers : MadeLinked k es m.entry.relation m.refers_to → kept_referrers (pushed m es) ≡ pick (is_some m.refers_to) 1 0 + kept_referrers es
  unfolding pushed referred kept_referrers referrers_of is_some
  pushed_referrers h = go h refl
    where
      go : {r : Relation} {o : Option Earlier} → MadeLinked k es r o → m.entry.relation ≡ r
          → referrers_of m.entry.relation + kept_referrers (referred o es) ≡ pick (is_some o) 1 0 + kept_referrers es
      go (made_definition b) p = rw p
      go (made_elsewhere t j n) p = rw p
      go (made_reference d f) p =
          let u : kept_referrers (set_referenced_from d.index (length es) es) ≡ suc (kept_referrers es) = set_referrers d.index (length es) f.entry f.is es f.stands in
          rw p (omega arith)

abbrev CountedAfter : Kind → List Entry → List Entry → Type 0
CountedAfter k es fs = kept_referrers es ≡ own_references k es → kept_referrers fs ≡ own_references k fs

counted_onward : (cx : Context) → Onward cx CountedAfter
counted_onward cx =
    record {
      same = λ k es c. c;
      further = λ f g c. g (f c);
      more = λ k m st h n c.
          let l : MadeLinked k (table_of k st) m.entry.relation m.refers_to = made_linked cx k m st h n in
          pushed_referrers k m (table_of k st) l ∙ (ap (λ (x : ℕ). pick (is_some m.refers_to) 1 0 + x) c ∙ sym (pushed_references k m (table_of k st) l));
    }

first_counted : (k : Kind) → kept_referrers (table_of k first_state) ≡ own_references k (table_of k first_state)
unfolding table_of first_state kept_referrers own_references
first_counted ingredient = refl
first_counted cookware = refl

-- the pass keeps a referrer for each reference
pub walk_references : (cx : Context) (es : List Event) (st : State) → walk cx 1 (going first_state) es ≡ going st → (k : Kind)
    → kept_referrers (table_of k st) ≡ own_references k (table_of k st)
walk_references cx es st q k = walk_related cx CountedAfter (counted_onward cx) es 1 first_state st q k (first_counted k)
