-- The pairs of a list of records: their number, and as the loop of `link_records` puts them.
use mathlib.Core.Path.{◌≡◌, refl, sym, ◌∙◌, ap, subst}
use Prim.Native.Nat.{ℕ, zero, suc, ◌+◌, ◌-◌, ◌*◌, ◌<◌, ◌≤◌}
use native.Mathlib.Nat.{le_refl, le_of_lt, add-zero, zero-add, add-suc}
use native.Mathlib.Omega.{arith}
use mathlib.Core.Bool.{Bool, true, false}
use mathlib.Core.List.{List, [], ◌∷◌, ◌++◌, append_assoc, append-nil}
use lib.ListN.{length, get_or, take, drop, length-append}
use lib.Seq.{sets, length-sets, sets-eq, take-suc, take_at, drop-append-add, drop-drop, get_or-take, length-take-le}
use Rattle.rules.specs.Basic.{pick}
use Rattle.model.specs.declared.Relation.TheVariants.{Definition}
use Rattle.component_records.specs.declared.Component.{Component}
use Rattle.component_records.specs.Records.{no_component}
use Rattle.component_records.specs.Links.{is_own, pair_at, pairs_from, pairs_of, own_at, own_count, RefersBack, LinkableAt, Linkable}
use Rattle.model.specs.declared.layout.TheConstants.{MOST_ROWS}

-- ---- their number: two words a pair
length_by : (t : Bool) (a b : ℕ) → length (pick t (a ∷ b ∷ []) []) ≡ pick t 1 0 * 2
length_by true a b = refl
length_by false a b = refl

length_pair : (i : ℕ) (c : Component) → length (pair_at i c) ≡ own_at c * 2
unfolding pair_at own_at
length_pair i c = length_by (is_own c.relation.relation) c.relation.index i

at_most : (t : Bool) → pick t 1 0 ≤ 1
at_most true = omega arith
at_most false = omega arith

own_one : (c : Component) → own_at c ≤ 1
unfolding own_at
own_one c = at_most (is_own c.relation.relation)

own_is_one : (c : Component) → is_own c.relation.relation ≡ true → own_at c ≡ 1
unfolding own_at
own_is_one c e = simp e

length_from : (k : ℕ) (cs : List Component) → length (pairs_from k cs) ≡ own_count cs * 2
unfolding pairs_from own_count
length_from k [] = refl
length_from k (c ∷ cs) =
    let e = length-append (pair_at k c) (pairs_from (suc k) cs) in
    let a = length_pair k c in
    let h = length_from (suc k) cs in
    omega (arith, e, a, h)

pub length_pairs : (cs : List Component) → length (pairs_of cs) ≡ own_count cs * 2
unfolding pairs_of
length_pairs cs = length_from 0 cs

pub count_le : (cs : List Component) → own_count cs ≤ length cs
unfolding own_count
count_le [] = omega arith
count_le (c ∷ cs) = let o = own_one c in let h = count_le cs in omega (arith, o, h)

-- ---- one record more
pub count_snoc : (cs : List Component) (c : Component) → own_count (cs ++ (c ∷ [])) ≡ own_count cs + own_at c
unfolding own_count
count_snoc [] c = add-zero (own_at c) ∙ sym (zero-add (own_at c))
count_snoc (d ∷ cs) c = let h = count_snoc cs c in omega (arith, h)

from_snoc : (k : ℕ) (cs : List Component) (c : Component) → pairs_from k (cs ++ (c ∷ [])) ≡ pairs_from k cs ++ pair_at (k + length cs) c
unfolding pairs_from
from_snoc k [] c = append-nil (pair_at k c) ∙ ap (λ (j : ℕ). pair_at j c) (sym (add-zero k))
from_snoc k (d ∷ cs) c =
    let e : suc k + length cs ≡ k + suc (length cs) = omega arith in
    ap (λ (l : List ℕ). pair_at k d ++ l) (from_snoc (suc k) cs c ∙ ap (λ (j : ℕ). pairs_from (suc k) cs ++ pair_at j c) e)
    ∙ sym (append_assoc (pair_at k d) (pairs_from (suc k) cs) (pair_at (k + suc (length cs)) c))

pub pairs_snoc : (cs : List Component) (c : Component) → pairs_of (cs ++ (c ∷ [])) ≡ pairs_of cs ++ pair_at (length cs) c
unfolding pairs_of
pairs_snoc cs c = from_snoc 0 cs c ∙ ap (λ (j : ℕ). pairs_from 0 cs ++ pair_at j c) (zero-add (length cs))

-- ---- the loop
module _ (all : List Component) where
  abbrev at : ℕ → Component
  at i = get_or all i no_component

  abbrev pub counted : ℕ → ℕ
  counted zero = 0
  counted (suc i) = counted i + own_at (at i)

  -- the pairs after i turns
  abbrev pub linked : List ℕ → ℕ → List ℕ
  linked ps zero = ps
  linked ps (suc i) = sets (linked ps i) (counted i * 2) (pair_at i (at i))

  pub length_linked : (ps : List ℕ) (i : ℕ) → length (linked ps i) ≡ length ps
  length_linked ps zero = refl
  length_linked ps (suc i) = length-sets (linked ps i) (counted i * 2) (pair_at i (at i)) ∙ length_linked ps i

  pub counted_le : (i : ℕ) → counted i ≤ i
  counted_le zero = omega arith
  counted_le (suc i) = let h = counted_le i in let o = own_one (at i) in omega (arith, h, o)

  pub counted_is : (i : ℕ) → i ≤ length all → counted i ≡ own_count (take i all)
  unfolding own_count
  counted_is zero h = refl
  counted_is (suc i) h =
      ap (λ (n : ℕ). n + own_at (at i)) (counted_is i (omega arith)) ∙ sym (count_snoc (take i all) (at i)) ∙ ap own_count (sym (take-suc all i no_component h))

  counted_mono : (i k : ℕ) → counted i ≤ counted (i + k)
  counted_mono i zero = subst (λ (j : ℕ). counted i ≤ counted j) (sym (add-zero i)) (le_refl (counted i))
  counted_mono i (suc k) = subst (λ (j : ℕ). counted i ≤ counted j) (sym (add-suc i k)) (let h = counted_mono i k in omega (arith, h))

  pub counted_upto : (i m : ℕ) → i ≤ m → counted i ≤ counted m
  counted_upto i m h = let e : i + (m - i) ≡ m = omega arith in subst (λ (j : ℕ). counted i ≤ counted j) e (counted_mono i (m - i))

  -- the pairs of one record more
  pairs_suc : (i : ℕ) → i < length all → pairs_of (take (suc i) all) ≡ pairs_of (take i all) ++ pair_at i (at i)
  unfolding pairs_of
  pairs_suc i h =
      let e : 0 + length (take i all) ≡ i = zero-add (length (take i all)) ∙ length-take-le i all (le_of_lt h) in
      ap (pairs_from 0) (take-suc all i no_component h) ∙ from_snoc 0 (take i all) (at i) ∙ ap (λ (j : ℕ). pairs_from 0 (take i all) ++ pair_at j (at i)) e

  length_so_far : (i : ℕ) → i ≤ length all → length (pairs_of (take i all)) ≡ counted i * 2
  length_so_far i h = length_pairs (take i all) ∙ ap (λ (n : ℕ). n * 2) (sym (counted_is i h))

  -- they are the front
  front : (ps : List ℕ) (i : ℕ) → i ≤ length all → counted i * 2 ≤ length ps → linked ps i ≡ pairs_of (take i all) ++ drop (counted i * 2) ps
  unfolding pairs_of pairs_from
  front ps zero h r = refl
  front ps (suc i) h r =
      let k = counted i * 2 in
      let vs = pair_at i (at i) in
      let so_far = pairs_of (take i all) in
      let v : length vs ≡ own_at (at i) * 2 = length_pair i (at i) in
      let s : length so_far ≡ k = length_so_far i (le_of_lt h) in
      let e : k + length vs ≡ counted (suc i) * 2 = omega (arith, v) in
      let l : length (linked ps i) ≡ length ps = length_linked ps i in
      let is : linked ps i ≡ so_far ++ drop k ps = front ps i (le_of_lt h) (omega arith) in
      let kept : take k (linked ps i) ≡ so_far = ap (take k) is ∙ take_at so_far (drop k ps) k s in
      let rest : drop (k + length vs) (linked ps i) ≡ drop (counted (suc i) * 2) ps
      = ap (drop (k + length vs)) is ∙ ap (λ (n : ℕ). drop (n + length vs) (so_far ++ drop k ps)) (sym s) ∙ drop-append-add so_far (drop k ps) (length vs)
      ∙ drop-drop (length vs) k ps ∙ ap (λ (n : ℕ). drop n ps) e in
      sets-eq vs (linked ps i) k (omega (arith, v, l))
      ∙ ap (λ (x : List ℕ). (x ++ vs) ++ drop (k + length vs) (linked ps i)) kept
      ∙ ap (λ (x : List ℕ). (so_far ++ vs) ++ x) rest
      ∙ ap (λ (x : List ℕ). x ++ drop (counted (suc i) * 2) ps) (sym (pairs_suc i h))

  -- ---- records that can be linked
  module _ (m : ℕ) (ps : List ℕ) (upto : m ≤ length all) (able : Linkable (take m all) (length ps)) where
    room : counted m * 2 ≤ length ps
    room = let e = counted_is m upto in let f = able.fits in omega (arith, e, f)

    pub all_linked : linked ps m ≡ pairs_of (take m all) ++ drop (length (pairs_of (take m all))) ps
    all_linked = front ps m upto room ∙ ap (λ (n : ℕ). pairs_of (take m all) ++ drop n ps) (sym (length_so_far m upto))

    back : (i : ℕ) → i < m → is_own (at i).relation.relation ≡ true → RefersBack all i
    back i h own =
        let e : get_or (take m all) i no_component ≡ at i = get_or-take m all i no_component h in
        let r = able.back i (subst (λ (n : ℕ). i < n) (sym (length-take-le m all upto)) h) (ap (λ (c : Component). is_own c.relation.relation) e ∙ own) in
        let b : (at i).relation.index < i = subst (λ (c : Component). c.relation.index < i) e r.before in
        record {
          before = b;
          there =
              ap (λ (c : Component). c.relation.relation) (sym (get_or-take m all (at i).relation.index no_component (omega arith)))
              ∙ subst (λ (c : Component). (get_or (take m all) c.relation.index no_component).relation.relation ≡ Definition) e r.there;
        }

    pub linkable_at : (i : ℕ) → i < m → LinkableAt all i (counted i) (length (linked ps i))
    linkable_at i h =
        record {
          back = back i h;
          fits = λ own. let o = own_is_one (at i) own in let c = counted_upto (suc i) m h in let r = room in let l = length_linked ps i in omega (arith, o, c, r, l);
        }

    -- a turn may be done
    pub asked : {all' : List Component} {i n : ℕ} {ps' : List ℕ} → all' ≡ all → n ≡ counted i → ps' ≡ linked ps i → m ≤ MOST_ROWS → i < m
        → (i < length all') × (i < MOST_ROWS) × (n < MOST_ROWS) × LinkableAt all' i n (length ps')
    asked {i = i} a b c few l =
        let le = counted_le i in
        let k : counted i < MOST_ROWS = omega (arith, le) in
        rw (a, b, c) (omega arith, omega arith, k, linkable_at i l)
