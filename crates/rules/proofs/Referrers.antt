-- The referrers of a definition are the entries that refer to it; a reference goes to an earlier definition.
use Prim.Native.Nat.{ℕ, suc, ◌≤◌, ◌<◌}
use mathlib.Core.Path.{◌≡◌, refl, sym, ap, ◌∙◌, subst}
use mathlib.Core.List.{List, [], ◌∷◌}
use mathlib.Core.Bool.{Bool, true, false, ◌&&◌, not}
use Rattle.std.specs.Prelude.{Option, None, Some}
use native.Mathlib.Omega.{arith}
use lib.Dec.{eqb}
use lib.ListN.{length}
use borrow.Author.Tests.{eqb-true, eqb-false, eq-eqb, ne_eqb}
use Rattle.rules.specs.Input.{Context}
use Rattle.rules.specs.Basic.{pick, on_some}
use Rattle.rules.specs.Words.{IntermediateTarget, target_step, target_section}
use Rattle.rules.specs.Event.{Component, Intermediate, Event}
use Rattle.rules.specs.Model.{Kind, ingredient, cookware, Target, to_ingredient, to_cookware, to_step, to_section, target_of, Relation, definition, reference, Entry, entry_with, entry_of, set_relation, set_modifiers, is_own}
use Rattle.rules.specs.Reference.{Earlier, same_name_of, entry_at, refers_to, as_referring, referred_by, set_referenced_from, is_definition}
use Rattle.rules.specs.Checks.{intermediate_target, intermediate_relation}
use Rattle.rules.specs.State.{State, first_state, table_of, going}
use Rattle.rules.specs.Pass.{walk}
use Rattle.rules.specs.Components.{Made, new_entry, found_same, made_with, made_by_name, made_intermediate, make_ingredient, referred, pushed, refers_to_reference}
use Rattle.rules.proofs.Basics.{pick_either, no_some, no_truth, some_inj, and_left, and_right}
use Rattle.rules.proofs.Walks.{found_at}
use Rattle.rules.proofs.Chained.{refers_same}
use Rattle.rules.proofs.TableSteps.{MadeBy, by_name, by_place, Onward, walk_related}

-- ---- the entries that refer to an entry of their own table

module _ (k : Kind) (d : ℕ) where
  unfoldable pub refers_own : Relation → Bool
  refers_own (definition in_step by) = false
  refers_own (reference t j) = is_own k t && eqb j d

  -- the indices of the entries that refer to the entry at d of their own kind, newest first
  unfoldable pub own_referrers : List Entry → List ℕ
  own_referrers [] = []
  own_referrers (e ∷ es) = pick (refers_own e.relation) (length es ∷ own_referrers es) (own_referrers es)

-- a definition stands at d
pub record DefinedAt (d : ℕ) (es : List Entry) : Type 0 where
  pub entry : Entry
  pub stands : entry_at d es ≡ Some entry
  pub is : is_definition entry.relation ≡ true

pub record Linked (k : Kind) (es : List Entry) : Type 0 where
  -- a reference to an entry of its own kind goes to an earlier definition
  pub target : (i d : ℕ) (e : Entry) → entry_at i es ≡ Some e → e.relation ≡ reference (target_of k) d → (d < i) × DefinedAt d es
  -- the referrers of a definition are all entries that refer to it
  pub referrers : (d : ℕ) (e : Entry) (in_step : Bool) (by : List ℕ) → entry_at d es ≡ Some e → e.relation ≡ definition in_step by → by ≡ own_referrers k d es

-- ---- what refers

pub own_target : (k : Kind) → is_own k (target_of k) ≡ true
unfolding is_own target_of
own_target ingredient = refl
own_target cookware = refl

own_only : (k : Kind) (t : Target) → is_own k t ≡ true → t ≡ target_of k
unfolding is_own target_of
own_only ingredient to_ingredient q = refl
own_only ingredient to_cookware q = no_truth q
own_only ingredient to_step q = no_truth q
own_only ingredient to_section q = no_truth q
own_only cookware to_ingredient q = no_truth q
own_only cookware to_cookware q = refl
own_only cookware to_step q = no_truth q
own_only cookware to_section q = no_truth q

pub refers_own_lem : (k : Kind) (d : ℕ) → refers_own k d (reference (target_of k) d) ≡ true
unfolding refers_own
refers_own_lem k d = rw (own_target k, eq-eqb d d refl)

pub refers_only : (k : Kind) (d : ℕ) (r : Relation) → refers_own k d r ≡ true → r ≡ reference (target_of k) d
unfolding refers_own
refers_only k d (definition b by) q = no_truth q
refers_only k d (reference t j) q =
    let a : t ≡ target_of k = own_only k t (and_left _ _ q) in
    let b : j ≡ d = eqb-true j d (and_right (is_own k t) (eqb j d) q) in cc

refers_another : (k : Kind) (c d : ℕ) → eqb c d ≡ false → refers_own k c (reference (target_of k) d) ≡ false
unfolding refers_own
refers_another k c d q = rw (own_target k, ne_eqb d c (λ x. eqb-false c d q (sym x)))

module _ (k : Kind) (d : ℕ) (e : Entry) (es : List Entry) where
  pub own_more : refers_own k d e.relation ≡ true → own_referrers k d (e ∷ es) ≡ length es ∷ own_referrers k d es
  unfolding own_referrers
  own_more q = rw q

  pub own_less : refers_own k d e.relation ≡ false → own_referrers k d (e ∷ es) ≡ own_referrers k d es
  unfolding own_referrers
  own_less q = rw q

-- ---- entries by their indices

pub entry_below : (i : ℕ) (es : List Entry) (e : Entry) → entry_at i es ≡ Some e → i < length es
unfolding entry_at
entry_below i [] e q = no_some q
entry_below i (x ∷ es) e q =
    pick_either (λ (o : Option Entry). o ≡ Some e → i < suc (length es)) (eqb i (length es)) _ _
    (λ b p. let h : i ≡ length es = eqb-true i (length es) b in omega arith) (λ b p. let h : i < length es = entry_below i es e p in omega arith) q

pub entry_older : (i : ℕ) (e : Entry) (es : List Entry) → i < length es → entry_at i (e ∷ es) ≡ entry_at i es
unfolding entry_at
entry_older i e es h = rw (ne_eqb i (length es) (λ q. omega arith))

-- the newest entry, or an older one
data Either (i : ℕ) (e : Entry) (es : List Entry) (x : Entry) : Type 0 where
  newest : i ≡ length es → x ≡ e → Either i e es x
  older : i < length es → entry_at i es ≡ Some x → Either i e es x

which : (i : ℕ) (e : Entry) (es : List Entry) (x : Entry) → entry_at i (e ∷ es) ≡ Some x → Either i e es x
unfolding entry_at
which i e es x q =
    pick_either (λ (o : Option Entry). o ≡ Some x → Either i e es x) (eqb i (length es)) _ _
    (λ b p. newest (eqb-true i (length es) b) (sym (some_inj p))) (λ b p. older (entry_below i es x p) p) q

defined_older : {d : ℕ} {es : List Entry} (e : Entry) → DefinedAt d es → DefinedAt d (e ∷ es)
defined_older {d} {es} e f =
    record { entry = f.entry; stands = entry_older d e es (entry_below d es f.entry f.stands) ∙ f.stands; is = f.is }

-- nothing refers to what is not yet there
own_none : (k : Kind) (n : ℕ) (es : List Entry)
    → ((i d : ℕ) (e : Entry) → entry_at i es ≡ Some e → e.relation ≡ reference (target_of k) d → d < i) → length es ≤ n → own_referrers k n es ≡ []
unfolding own_referrers
own_none k n [] h g = refl
own_none k n (e ∷ es) h g =
    pick_either (λ (l : List ℕ). l ≡ []) (refers_own k n e.relation) _ _
    (λ b.
    let at : entry_at (length es) (e ∷ es) ≡ Some e = unfold entry_at in rw (eq-eqb (length es) (length es) refl) in
    let u : n < length es = h (length es) n e at (refers_only k n e.relation b) in absurd (omega arith))
    (λ b.
    own_none k n es (λ i d x q r. h i d x (entry_older i e es (entry_below i es x q) ∙ q) r) (omega arith))

-- ---- one referrer more

with_referrer : ℕ → Entry → Entry
with_referrer n e = set_relation (referred_by n e.relation) e

module _ (d n : ℕ) where
  set_length : (es : List Entry) → length (set_referenced_from d n es) ≡ length es
  unfolding set_referenced_from
  set_length [] = refl
  set_length (e ∷ es) =
      pick_either (λ (l : List Entry). length l ≡ suc (length es)) (eqb d (length es)) _ _ (λ b. refl) (λ b. ap suc (set_length es))

  set_that : (es : List Entry) → entry_at d (set_referenced_from d n es) ≡ on_some (with_referrer n) (entry_at d es)
  unfolding set_referenced_from entry_at on_some with_referrer
  set_that [] = refl
  set_that (e ∷ es) = go (eqb d (length es)) refl (set_that es)
    where
      go : (b : Bool) → eqb d (length es) ≡ b → entry_at d (set_referenced_from d n es) ≡ on_some (with_referrer n) (entry_at d es)
          → entry_at d (pick b (with_referrer n e ∷ es) (e ∷ set_referenced_from d n es)) ≡ on_some (with_referrer n) (pick b (Some e) (entry_at d es))
      go true q ih = rw q
      go false q ih = rw (set_length es, q) ih

  set_other : (i : ℕ) (es : List Entry) → eqb i d ≡ false → entry_at i (set_referenced_from d n es) ≡ entry_at i es
  unfolding set_referenced_from entry_at with_referrer
  set_other i [] z = refl
  set_other i (e ∷ es) z = go (eqb d (length es)) refl (set_other i es z)
    where
      go : (b : Bool) → eqb d (length es) ≡ b → entry_at i (set_referenced_from d n es) ≡ entry_at i es
          → entry_at i (pick b (with_referrer n e ∷ es) (e ∷ set_referenced_from d n es)) ≡ pick (eqb i (length es)) (Some e) (entry_at i es)
      go true q ih =
          let h : d ≡ length es = eqb-true d (length es) q in
          let g : eqb i (length es) ≡ false = subst (λ (x : ℕ). eqb i x ≡ false) h z in rw g
      go false q ih = rw (set_length es, ih)

  own_referred : (k : Kind) (c : ℕ) (r : Relation) → refers_own k c (referred_by n r) ≡ refers_own k c r
  unfolding refers_own referred_by
  own_referred k c (definition b by) = refl
  own_referred k c (reference t j) = refl

  set_own : (k : Kind) (c : ℕ) (es : List Entry) → own_referrers k c (set_referenced_from d n es) ≡ own_referrers k c es
  unfolding set_referenced_from own_referrers set_relation
  set_own k c [] = refl
  set_own k c (e ∷ es) =
      pick_either (λ (l : List Entry). own_referrers k c l ≡ own_referrers k c (e ∷ es)) (eqb d (length es)) _ _
      (λ b. rw (own_referred k c e.relation)) (λ b. rw (set_length es, set_own k c es))

-- what a relation was before the referrer came
reference_before : (n : ℕ) (r : Relation) (t : Target) (j : ℕ) → referred_by n r ≡ reference t j → r ≡ reference t j
unfolding referred_by
reference_before n (definition b by) t j q = absurd (let z : ◌≡◌ {A = ℕ} 0 1 = cc in omega arith)
reference_before n (reference s i) t j q = q

definition_before : {P : Type 0} (n : ℕ) (r : Relation) (b : Bool) (by : List ℕ) → referred_by n r ≡ definition b by
    → ((rest : List ℕ) → r ≡ definition b rest → by ≡ n ∷ rest → P) → P
unfolding referred_by
definition_before n (definition c rest) b by q f =
    let h : c ≡ b = cc in let g : n ∷ rest ≡ by = cc in f rest (ap (λ (x : Bool). definition x rest) h) (sym g)
definition_before n (reference s i) b by q f = absurd (let z : ◌≡◌ {A = ℕ} 0 1 = cc in omega arith)

definition_after : (n : ℕ) (r : Relation) → is_definition r ≡ true → is_definition (referred_by n r) ≡ true
unfolding referred_by is_definition
definition_after n (definition b by) q = refl
definition_after n (reference t j) q = no_truth q

-- an entry of the table with one referrer more: another one as it was, or that with the referrer
data SetEntry (d n i : ℕ) (es : List Entry) (x : Entry) : Type 0 where
  as_it_was : eqb i d ≡ false → entry_at i es ≡ Some x → SetEntry d n i es x
  referred_to_lem : (e : Entry) → i ≡ d → entry_at i es ≡ Some e → x.relation ≡ referred_by n e.relation → SetEntry d n i es x

set_entry : (d n i : ℕ) (es : List Entry) (x : Entry) → entry_at i (set_referenced_from d n es) ≡ Some x → SetEntry d n i es x
unfolding on_some with_referrer set_relation
set_entry d n i es x q = go (eqb i d) refl
  where
    that : (o : Option Entry) → entry_at d es ≡ o → on_some (with_referrer n) o ≡ Some x → i ≡ d → SetEntry d n i es x
    that None p h e = no_some h
    that (Some y) p h e = referred_to_lem y e (ap (λ (a : ℕ). entry_at a es) e ∙ p) (ap (λ (z : Entry). z.relation) (sym (some_inj h)))

    go : (b : Bool) → eqb i d ≡ b → SetEntry d n i es x
    go true e =
        let h : i ≡ d = eqb-true i d e in
        that (entry_at d es) refl (sym (set_that d n es) ∙ subst (λ (a : ℕ). entry_at a (set_referenced_from d n es) ≡ Some x) h q) h
    go false e = as_it_was e (sym (set_other d n i es e) ∙ q)

set_defined : (d n c : ℕ) (es : List Entry) → DefinedAt c es → DefinedAt c (set_referenced_from d n es)
unfolding with_referrer set_relation on_some
set_defined d n c es f = go (eqb c d) refl
  where
    go : (b : Bool) → eqb c d ≡ b → DefinedAt c (set_referenced_from d n es)
    go true e =
        let h : c ≡ d = eqb-true c d e in
        let s : entry_at d es ≡ Some f.entry = subst (λ (a : ℕ). entry_at a es ≡ Some f.entry) h f.stands in
        record {
          entry = with_referrer n f.entry;
          stands = ap (λ (a : ℕ). entry_at a (set_referenced_from d n es)) h ∙ set_that d n es ∙ ap (on_some (with_referrer n)) s;
          is = definition_after n f.entry.relation f.is;
        }
    go false e = record { entry = f.entry; stands = set_other d n c es e ∙ f.stands; is = f.is }

-- ---- a table with one entry more

pub first_linked : (k : Kind) → Linked k []
unfolding entry_at
first_linked k = record { target = λ i d e q r. no_some q; referrers = λ d e b by q r. no_some q }

-- an entry that refers to none of its table, and to which nothing refers yet
push_alone : (k : Kind) (e : Entry) (es : List Entry) → ((d : ℕ) → refers_own k d e.relation ≡ false)
    → ((b : Bool) (by : List ℕ) → e.relation ≡ definition b by → by ≡ []) → Linked k es → Linked k (e ∷ es)
push_alone k e es alone empty l = record { target = to; referrers = from }
  where
    to : (i d : ℕ) (x : Entry) → entry_at i (e ∷ es) ≡ Some x → x.relation ≡ reference (target_of k) d → (d < i) × DefinedAt d (e ∷ es)
    to i d x q r = go (which i e es x q)
      where
        go : Either i e es x → (d < i) × DefinedAt d (e ∷ es)
        go (newest p h) =
            let s : e.relation ≡ reference (target_of k) d = ap (λ (y : Entry). y.relation) (sym h) ∙ r in
            no_truth (sym (alone d) ∙ (ap (refers_own k d) s ∙ refers_own_lem k d))
        go (older p h) = let t = l.target i d x h r in (t.0, defined_older e t.1)

    from : (d : ℕ) (x : Entry) (b : Bool) (by : List ℕ) → entry_at d (e ∷ es) ≡ Some x → x.relation ≡ definition b by → by ≡ own_referrers k d (e ∷ es)
    from d x b by q r = go (which d e es x q)
      where
        go : Either d e es x → by ≡ own_referrers k d (e ∷ es)
        go (newest p h) =
            empty b by (ap (λ (y : Entry). y.relation) (sym h) ∙ r)
            ∙ sym (own_less k d e es (alone d) ∙ own_none k d es (λ i c y z s. (l.target i c y z s).0) (omega arith))
        go (older p h) = l.referrers d x b by h r ∙ sym (own_less k d e es (alone d))

-- an entry that refers to a definition of its table, which gets it among its referrers
push_reference : (k : Kind) (d : ℕ) (e : Entry) (es : List Entry) → e.relation ≡ reference (target_of k) d → DefinedAt d es → Linked k es
    → Linked k (e ∷ set_referenced_from d (length es) es)
push_reference k d e es is-reference f l = record { target = to; referrers = from }
  where
    fs : List Entry
    fs = set_referenced_from d (length es) es

    to : (i c : ℕ) (x : Entry) → entry_at i (e ∷ fs) ≡ Some x → x.relation ≡ reference (target_of k) c → (c < i) × DefinedAt c (e ∷ fs)
    to i c x q r = go (which i e fs x q)
      where
        same : (y : Entry) → entry_at i es ≡ Some y → y.relation ≡ reference (target_of k) c → (c < i) × DefinedAt c (e ∷ fs)
        same y h s = let t = l.target i c y h s in (t.0, defined_older e (set_defined d (length es) c es t.1))

        by_set : SetEntry d (length es) i es x → (c < i) × DefinedAt c (e ∷ fs)
        by_set (as_it_was z h) = same x h r
        by_set (referred_to_lem y z h s) = same y h (reference_before (length es) y.relation (target_of k) c (sym s ∙ r))

        go : Either i e fs x → (c < i) × DefinedAt c (e ∷ fs)
        go (newest p h) =
            let s : reference (target_of k) d ≡ reference (target_of k) c = sym is-reference ∙ (ap (λ (y : Entry). y.relation) (sym h) ∙ r) in
            let z : d ≡ c = cc in
            let g : DefinedAt c fs = set_defined d (length es) c es (subst (λ (a : ℕ). DefinedAt a es) z f) in
            let b : c < length fs = entry_below c fs g.entry g.stands in
            (omega arith, defined_older e g)
        go (older p h) = by_set (set_entry d (length es) i es x h)

    from : (c : ℕ) (x : Entry) (b : Bool) (by : List ℕ) → entry_at c (e ∷ fs) ≡ Some x → x.relation ≡ definition b by → by ≡ own_referrers k c (e ∷ fs)
    from c x b by q r = go (which c e fs x q)
      where
        not_that : eqb c d ≡ false → own_referrers k c (e ∷ fs) ≡ own_referrers k c es
        not_that z = own_less k c e fs (ap (refers_own k c) is-reference ∙ refers_another k c d z) ∙ set_own d (length es) k c es

        that : c ≡ d → own_referrers k c (e ∷ fs) ≡ length es ∷ own_referrers k c es
        that z =
            own_more k c e fs (ap (refers_own k c) (is-reference ∙ ap (reference (target_of k)) (sym z)) ∙ refers_own_lem k c)
            ∙ (ap (λ (n : ℕ). n ∷ own_referrers k c fs) (set_length d (length es) es) ∙ ap (λ (o : List ℕ). length es ∷ o) (set_own d (length es) k c es))

        by_set : SetEntry d (length es) c es x → by ≡ own_referrers k c (e ∷ fs)
        by_set (as_it_was z h) = l.referrers c x b by h r ∙ sym (not_that z)
        by_set (referred_to_lem y z h s) =
            definition_before (length es) y.relation b by (sym s ∙ r)
            (λ rest p g. g ∙ (ap (λ (o : List ℕ). length es ∷ o) (l.referrers c y b rest h p) ∙ sym (that z)))

        go : Either c e fs x → by ≡ own_referrers k c (e ∷ fs)
        go (newest p h) =
            let s : reference (target_of k) d ≡ definition b by = sym is-reference ∙ (ap (λ (y : Entry). y.relation) (sym h) ∙ r) in
            absurd (let z : ◌≡◌ {A = ℕ} 0 1 = cc in omega arith)
        go (older p h) = by_set (set_entry d (length es) c es x h)

-- ---- what a line makes: a definition without referrers, a reference elsewhere, or one to a definition of its table

pub data MadeLinked (k : Kind) (es : List Entry) : Relation → Option Earlier → Type 0 where
  made_definition : (b : Bool) → MadeLinked k es (definition b []) None
  made_elsewhere : (t : Target) (j : ℕ) → is_own k t ≡ false → MadeLinked k es (reference t j) None
  made_reference : (d : Earlier) → DefinedAt d.index es → MadeLinked k es (reference (target_of k) d.index) (Some d)

pub pushed_linked : (k : Kind) (m : Made) (es : List Entry) → MadeLinked k es m.entry.relation m.refers_to → Linked k es → Linked k (pushed m es)
unfolding pushed referred refers_own
pushed_linked k m es h l = go h refl
  where
    go : {r : Relation} {o : Option Earlier} → MadeLinked k es r o → m.entry.relation ≡ r → Linked k (m.entry ∷ referred o es)
    go (made_definition b) p = push_alone k m.entry es (λ d. ap (refers_own k d) p) (λ c by q. let z : definition b [] ≡ definition c by = sym p ∙ q in cc) l
    go (made_elsewhere t j n) p =
        push_alone k m.entry es (λ d. ap (refers_own k d) p ∙ rw n)
        (λ c by q. let z : reference t j ≡ definition c by = sym p ∙ q in absurd (let y : ◌≡◌ {A = ℕ} 0 1 = cc in omega arith)) l
    go (made_reference d f) p = push_reference k d.index m.entry es p f l

elsewhere : (t : IntermediateTarget) → is_own ingredient (intermediate_target t) ≡ false
unfolding is_own intermediate_target
elsewhere target_step = refl
elsewhere target_section = refl

made_intermediate_lem : (es : List Entry) (i : Intermediate) (b : Bool) (o : Option ℕ) → MadeLinked ingredient es (intermediate_relation i (definition b []) o) None
unfolding intermediate_relation
made_intermediate_lem es i b None = made_definition b
made_intermediate_lem es i b (Some j) = made_elsewhere _ j (elsewhere i.target)

abbrev pub LinkedAfter : Kind → List Entry → List Entry → Type 0
LinkedAfter k es fs = Linked k es → Linked k fs

not_false : (b : Bool) → not b ≡ false → b ≡ true
not_false true q = refl
not_false false q = no_truth (sym q)

module _ (cx : Context) where
  -- what the search finds is a definition, or 18
  by_name_linked : (k : Kind) (c : Component) (st : State) → refers_to_reference (made_by_name cx.units cx.flags k c st).refers_to ≡ false
      → MadeLinked k (table_of k st) (made_by_name cx.units cx.flags k c st).entry.relation (made_by_name cx.units cx.flags k c st).refers_to
  unfolding made_by_name made_with as_referring set_relation set_modifiers new_entry entry_of entry_with found_same same_name_of refers_to_reference
  by_name_linked k c st s = go (refers_to st.modes (new_entry k c st) (found_same (new_entry k c st) (table_of k st))) refl s
    where
      go : (o : Option Earlier) → refers_to st.modes (new_entry k c st) (found_same (new_entry k c st) (table_of k st)) ≡ o → refers_to_reference o ≡ false
          → MadeLinked k (table_of k st) (as_referring k o (new_entry k c st)).relation o
      go None q n = made_definition _
      go (Some d) q n =
          let p : found_same (new_entry k c st) (table_of k st) ≡ Some d = refers_same st.modes (new_entry k c st) _ d q in
          made_reference d (record { entry = d.entry; stands = found_at _ _ _ (table_of k st) d p; is = not_false (is_definition d.entry.relation) n })

  intermediate_linked : (c : Component) (i : Intermediate) (st : State)
      → MadeLinked ingredient (table_of ingredient st) (make_ingredient cx c (Some i) st).entry.relation (make_ingredient cx c (Some i) st).refers_to
  unfolding make_ingredient made_intermediate set_relation new_entry entry_of entry_with
  intermediate_linked c i st = made_intermediate_lem (table_of ingredient st) i _ _

  pub made_linked : (k : Kind) (m : Made) (st : State) → MadeBy cx st k m → refers_to_reference m.refers_to ≡ false
      → MadeLinked k (table_of k st) m.entry.relation m.refers_to
  made_linked k m st h n = by st k m h n
    where
      by : (st : State) (k : Kind) (m : Made) → MadeBy cx st k m → refers_to_reference m.refers_to ≡ false → MadeLinked k (table_of k st) m.entry.relation m.refers_to
      by st k m (by_name x c) n = by_name_linked x c st n
      by st k m (by_place c i r) n = intermediate_linked c i st

  -- linked tables stay linked
  pub linked_onward : Onward cx LinkedAfter
  linked_onward =
      record {
        same = λ k es l. l;
        further = λ f g l. g (f l);
        more = λ k m st h n l. pushed_linked k m (table_of k st) (made_linked k m st h n) l;
      }

first_tables : (k : Kind) → Linked k (table_of k first_state)
unfolding table_of first_state
first_tables ingredient = first_linked ingredient
first_tables cookware = first_linked cookware

-- in every state that the pass reaches the tables are linked
pub walk_linked : (cx : Context) (es : List Event) (st : State) → walk cx 1 (going first_state) es ≡ going st → (k : Kind)
    → Linked k (table_of k st)
walk_linked cx es st q k = walk_related cx LinkedAfter (linked_onward cx) es 1 first_state st q k (first_tables k)
