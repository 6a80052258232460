-- Walks over pairs and over kinds of blocks, one law for each way through a turn.
use Prim.Native.Nat.{ℕ, zero, suc, ◌+◌, ◌-◌, ◌*◌, ◌≤◌, ◌<◌}
use mathlib.Core.Path.{◌≡◌, refl, sym, ap, ◌∙◌}
use mathlib.Core.List.{List, [], ◌∷◌, ◌++◌, reverse, reverse-cons, nil≢cons, head-eq_of_cons-eq}
use mathlib.Core.Bool.{Bool, true, false}
use Rattle.std.specs.Prelude.{None, Some, Option}
use native.Mathlib.Omega.{arith}
use native.Mathlib.Numerals.{add-one}
use native.Mathlib.Nat.{add-zero, zero-add, add-suc, suc-add}
use lib.Dec.{eqb}
use lib.ListN.{length, get_or, length-reverse}
use borrow.Author.Tests.{eq-eqb, ne_eqb}
use Rattle.rules.specs.Basic.{pick}
use Rattle.rules.specs.Reference.{referrers}
use Rattle.rules.specs.Model.{definition, Block, step_block, text_block}
use Rattle.rules.specs.Words.{target_step, target_section}
use Rattle.rules.specs.Event.{Intermediate}
use Rattle.rules.specs.Checks.{step_indices, section_indices, candidates, nth, resolve_intermediate_ref}
use Rattle.model.specs.Rows.{referrers_in, referrers_from, block_of, blocks_in, steps_from}
use Rattle.model.specs.Searches.{NextReferrer, TargetFound}
use Rattle.model.specs.Memory.{Below}
use Rattle.rules.proofs.Basics.{by_order}
use Rattle.model.specs.declared.layout.TheConstants.{PAIR}

-- ---- referrers

pub record Seeking (pairs : List ℕ) (n d from i : ℕ) : Type 0 where
  pub low : from ≤ i
  pub is : referrers_from pairs d i (n - i) ≡ referrers_from pairs d from (n - from)

less : (n i : ℕ) → i < n → n - i ≡ suc (n - suc i)
less n i h = omega arith

module _ {pairs : List ℕ} {n d from i : ℕ} (z : Seeking pairs n d from i) where
  pub seek_hit : i < n → get_or pairs (i * PAIR) 0 ≡ d → NextReferrer pairs n d from (Some ((get_or pairs (i * PAIR + 1) 0), (i + 1)))
  unfolding referrers_from
  seek_hit h q = record { is = (omega arith, omega arith, sym z.is ∙ rw (less n i h, eq-eqb (get_or pairs (i * PAIR) 0) d q, add-one i)) }

  pub seek_miss : i < n → (get_or pairs (i * PAIR) 0 ≡ d → ⊥) → Seeking pairs n d from (i + 1)
  unfolding referrers_from
  seek_miss h q = record { low = omega arith; is = rw (add-one i) (rw (less n i h, ne_eqb (get_or pairs (i * PAIR) 0) d q) at z.is) }

  pub seek_end : n ≤ i → NextReferrer pairs n d from None
  unfolding referrers_from
  seek_end h = let e : n - i ≡ 0 = omega arith in record { is = sym z.is ∙ rw e }

pub seek_start : (pairs : List ℕ) (n d from : ℕ) → Seeking pairs n d from from
seek_start pairs n d from = record { low = omega arith; is = refl }

-- ---- indices that pass a test, newest first and oldest first

module _ (test : ℕ → Bool) (value : ℕ → ℕ) where
  unfoldable downs : ℕ → List ℕ
  downs zero = []
  downs (suc j) = pick (test j) (value j ∷ downs j) (downs j)

  unfoldable ups : ℕ → ℕ → List ℕ
  ups at zero = []
  ups at (suc k) = pick (test at) (value at ∷ ups (suc at) k) (ups (suc at) k)

  ups_snoc : (at k : ℕ) → ups at (suc k) ≡ pick (test (at + k)) (ups at k ++ (value (at + k) ∷ [])) (ups at k)
  unfolding ups
  ups_snoc at zero = rw (add-zero at)
  ups_snoc at (suc k) = rw (ups_snoc (suc at) k, suc-add at k, add-suc at k) (go (test at) (test (suc (at + k))) (ups (suc at) k))
    where
      go : (a b : Bool) (l : List ℕ)
          → pick a (value at ∷ pick b (l ++ (value (suc (at + k)) ∷ [])) l) (pick b (l ++ (value (suc (at + k)) ∷ [])) l)
          ≡ pick b (pick a (value at ∷ l) l ++ (value (suc (at + k)) ∷ [])) (pick a (value at ∷ l) l)
      go true true l = refl
      go true false l = refl
      go false true l = refl
      go false false l = refl

  ups_none : (at : ℕ) → ups at 0 ≡ []
  unfolding ups
  ups_none at = refl

  oldest_first : (n : ℕ) → reverse (downs n) ≡ ups 0 n
  unfolding downs
  oldest_first zero = sym (ups_none 0)
  oldest_first (suc n) = go (test n) (oldest_first n) ∙ sym (ups_snoc 0 n ∙ rw (zero-add n))
    where
      go : (b : Bool) → reverse (downs n) ≡ ups 0 n → reverse (pick b (value n ∷ downs n) (downs n)) ≡ pick b (ups 0 n ++ (value n ∷ [])) (ups 0 n)
      go true ih = reverse-cons (value n) (downs n) ∙ rw ih
      go false ih = ih

module _ (pairs : List ℕ) (d : ℕ) where
  referrers_up : (at k : ℕ) → referrers_from pairs d at k ≡ ups (λ (j : ℕ). eqb (get_or pairs (j * PAIR) 0) d) (λ (j : ℕ). get_or pairs (j * PAIR + 1) 0) at k
  unfolding referrers_from ups
  referrers_up at zero = refl
  referrers_up at (suc k) = rw (referrers_up (suc at) k)

  referrers_down : (n : ℕ) → referrers_in pairs d n ≡ downs (λ (j : ℕ). eqb (get_or pairs (j * PAIR) 0) d) (λ (j : ℕ). get_or pairs (j * PAIR + 1) 0) n
  unfolding referrers_in downs
  referrers_down zero = refl
  referrers_down (suc n) = rw (referrers_down n)

  -- the referrers of a definition in the order in which they came
  pub referrers_all : (n : ℕ) → reverse (referrers_in pairs d n) ≡ referrers_from pairs d 0 (n - 0)
  referrers_all n = let e : n - 0 ≡ n = omega arith in rw e (ap reverse (referrers_down n) ∙ oldest_first _ _ n ∙ sym (referrers_up 0 n))

  -- they are below what bounds all pairs
  pub referrers_below : {n m : ℕ} → Below pairs m n → (at k : ℕ) → at + k ≤ m → {r : ℕ} {rest : List ℕ} → referrers_from pairs d at k ≡ r ∷ rest → r < n
  unfolding referrers_from
  referrers_below b at zero l e = absurd (nil≢cons e)
  referrers_below {n} {m} b at (suc k) l {r} {rest} e = go (eqb (get_or pairs (at * PAIR) 0) d) (λ q. referrers_below b (suc at) k (omega arith) q) e
    where
      go : (t : Bool) → (referrers_from pairs d (suc at) k ≡ r ∷ rest → r < n) → pick t (get_or pairs (at * PAIR + 1) 0 ∷ referrers_from pairs d (suc at) k) (referrers_from pairs d (suc at) k) ≡ r ∷ rest → r < n
      go true f q = let i : get_or pairs (at * PAIR + 1) 0 ≡ r = head-eq_of_cons-eq q in let g : get_or pairs (at * PAIR + 1) 0 < n = b.referrer at (omega arith) in omega arith
      go false f q = f q

  pub referrers_oldest : (n : ℕ) (in_step : Bool) → referrers (definition in_step (referrers_in pairs d n)) ≡ referrers_from pairs d 0 n
  unfolding referrers
  referrers_oldest n in_step = ap reverse (referrers_down n) ∙ oldest_first _ _ n ∙ sym (referrers_up 0 n)

-- ---- steps, newest first

-- the indices of the steps among the first n blocks, newest first, by the kinds alone
module _ (kinds : List ℕ) where
  pub blocks_length : (n : ℕ) → length (blocks_in kinds n) ≡ n
  unfolding blocks_in
  blocks_length zero = refl
  blocks_length (suc n) = ap suc (blocks_length n)

  steps_more : (n : ℕ) → get_or kinds n 0 ≡ 1 → step_indices (blocks_in kinds (suc n)) ≡ n ∷ step_indices (blocks_in kinds n)
  unfolding blocks_in step_indices block_of
  steps_more n q = rw (eq-eqb (get_or kinds n 0) 1 q, blocks_length n)

  steps_same : (n : ℕ) → (get_or kinds n 0 ≡ 1 → ⊥) → step_indices (blocks_in kinds (suc n)) ≡ step_indices (blocks_in kinds n)
  unfolding blocks_in step_indices block_of
  steps_same n q = rw (ne_eqb (get_or kinds n 0) 1 q)

pub nth_zero : (l : List ℕ) → nth 0 l ≡ None
unfolding nth
nth_zero [] = refl
nth_zero (x ∷ xs) = refl

pub nth_none : (v : ℕ) → nth v [] ≡ None
unfolding nth
nth_none v = refl

nth_one : (x : ℕ) (xs : List ℕ) → nth 1 (x ∷ xs) ≡ Some x
unfolding nth
nth_one x xs = refl

nth_next : (v x : ℕ) (xs : List ℕ) → 1 ≤ v → (v ≡ 1 → ⊥) → nth v (x ∷ xs) ≡ nth (v - 1) xs
unfolding nth
nth_next zero x xs h q = absurd (omega arith)
nth_next (suc zero) x xs h q = absurd (q refl)
nth_next (suc (suc v)) x xs h q = let e : suc (suc v) - 1 ≡ suc v = omega arith in rw e

pub none_of_zero : (v : ℕ) (l : List ℕ) → v ≡ 0 → None ≡ nth v l
none_of_zero v l q = rw q (sym (nth_zero l))

-- the walk back: what is left among the first i blocks
pub record Backing (kinds : List ℕ) (n value i v : ℕ) : Type 0 where
  pub high : i ≤ n
  pub some : 1 ≤ v
  pub few : v ≤ value
  pub is : nth v (step_indices (blocks_in kinds i)) ≡ nth value (step_indices (blocks_in kinds n))

pub back_start : (kinds : List ℕ) (n value : ℕ) → (value ≡ 0 → ⊥) → Backing kinds n value n value
back_start kinds n value q = record { high = omega arith; some = omega arith; few = omega arith; is = refl }

module _ {kinds : List ℕ} {n value i v : ℕ} (z : Backing kinds n value i v) where
  pub back_hit : 0 < i → get_or kinds (i - 1) 0 ≡ 1 → v ≡ 1 → Some (i - 1) ≡ nth value (step_indices (blocks_in kinds n))
  back_hit h q e =
      let k : i ≡ suc (i - 1) = omega arith in
      sym (sym z.is ∙ ap (λ (j : ℕ). nth v (step_indices (blocks_in kinds j))) k ∙ ap (nth v) (steps_more kinds (i - 1) q) ∙ ap (λ (u : ℕ). nth u ((i - 1) ∷ step_indices (blocks_in kinds (i - 1)))) e ∙ nth_one (i - 1) (step_indices (blocks_in kinds (i - 1))))

  pub back_step : 0 < i → get_or kinds (i - 1) 0 ≡ 1 → (v ≡ 1 → ⊥) → Backing kinds n value (i - 1) (v - 1)
  back_step h q e =
      let k : i ≡ suc (i - 1) = omega arith in
      record {
        high = omega arith;
        some = omega arith;
        few = omega arith;
        is = sym (ap (λ (j : ℕ). nth v (step_indices (blocks_in kinds j))) k ∙ ap (nth v) (steps_more kinds (i - 1) q) ∙ nth_next v (i - 1) (step_indices (blocks_in kinds (i - 1))) z.some e) ∙ z.is;
      }

  pub back_text : 0 < i → (get_or kinds (i - 1) 0 ≡ 1 → ⊥) → Backing kinds n value (i - 1) v
  back_text h q =
      let k : i ≡ suc (i - 1) = omega arith in
      record {
        high = omega arith;
        some = z.some;
        few = z.few;
        is = sym (ap (λ (j : ℕ). nth v (step_indices (blocks_in kinds j))) k ∙ ap (nth v) (steps_same kinds (i - 1) q)) ∙ z.is;
      }

  pub back_end : i ≤ 0 → None ≡ nth value (step_indices (blocks_in kinds n))
  unfolding blocks_in step_indices nth
  back_end h = let k : i ≡ 0 = omega arith in ap (λ (j : ℕ). nth v (step_indices (blocks_in kinds j))) (sym k) ∙ z.is

-- ---- steps, oldest first

module _ (kinds : List ℕ) where
  steps_up : (at k : ℕ) → steps_from kinds at k ≡ ups (λ (j : ℕ). eqb (get_or kinds j 0) 1) (λ (j : ℕ). j) at k
  unfolding steps_from ups
  steps_up at zero = refl
  steps_up at (suc k) = rw (steps_up (suc at) k)

  steps_down : (n : ℕ) → step_indices (blocks_in kinds n) ≡ downs (λ (j : ℕ). eqb (get_or kinds j 0) 1) (λ (j : ℕ). j) n
  unfolding step_indices blocks_in block_of downs
  steps_down zero = refl
  steps_down (suc n) = go (eqb (get_or kinds n 0) 1) (steps_down n)
    where
      go : (b : Bool) → step_indices (blocks_in kinds n) ≡ downs (λ (j : ℕ). eqb (get_or kinds j 0) 1) (λ (j : ℕ). j) n
          → step_indices (pick b (step_block 0 []) (text_block []) ∷ blocks_in kinds n) ≡ pick b (n ∷ downs (λ (j : ℕ). eqb (get_or kinds j 0) 1) (λ (j : ℕ). j) n) (downs (λ (j : ℕ). eqb (get_or kinds j 0) 1) (λ (j : ℕ). j) n)
      go true ih = rw (blocks_length kinds n, ih)
      go false ih = ih

  pub steps_oldest : (n : ℕ) → reverse (step_indices (blocks_in kinds n)) ≡ steps_from kinds 0 n
  steps_oldest n = ap reverse (steps_down n) ∙ oldest_first _ _ n ∙ sym (steps_up 0 n)

-- the walk ahead: what is left from the block i on
pub record Ahead (kinds : List ℕ) (n value i v : ℕ) : Type 0 where
  pub some : 1 ≤ v
  pub few : v ≤ value
  pub is : nth v (steps_from kinds i (n - i)) ≡ nth value (reverse (step_indices (blocks_in kinds n)))

pub ahead_start : (kinds : List ℕ) (n value : ℕ) → (value ≡ 0 → ⊥) → Ahead kinds n value 0 value
ahead_start kinds n value q = record { some = omega arith; few = omega arith; is = let e : n - 0 ≡ n = omega arith in rw e (ap (nth value) (sym (steps_oldest kinds n))) }

module _ {kinds : List ℕ} {n value i v : ℕ} (z : Ahead kinds n value i v) where
  pub ahead_hit : i < n → get_or kinds i 0 ≡ 1 → v ≡ 1 → Some i ≡ nth value (reverse (step_indices (blocks_in kinds n)))
  unfolding steps_from
  ahead_hit h q e = sym (nth_one i (steps_from kinds (suc i) (n - suc i))) ∙ (rw (e, less n i h, eq-eqb (get_or kinds i 0) 1 q) at z.is)

  pub ahead_step : i < n → get_or kinds i 0 ≡ 1 → (v ≡ 1 → ⊥) → Ahead kinds n value (i + 1) (v - 1)
  unfolding steps_from
  ahead_step h q e =
      record {
        some = omega (arith, z.some);
        few = omega (arith, z.few);
        is = rw (add-one i) (sym (nth_next v i (steps_from kinds (suc i) (n - suc i)) z.some e) ∙ (rw (less n i h, eq-eqb (get_or kinds i 0) 1 q) at z.is));
      }

  pub ahead_text : i < n → (get_or kinds i 0 ≡ 1 → ⊥) → Ahead kinds n value (i + 1) v
  unfolding steps_from
  ahead_text h q = record { some = z.some; few = z.few; is = rw (add-one i) (rw (less n i h, ne_eqb (get_or kinds i 0) 1 q) at z.is) }

  pub ahead_end : n ≤ i → None ≡ nth value (reverse (step_indices (blocks_in kinds n)))
  unfolding steps_from
  ahead_end h = let k : n - i ≡ 0 = omega arith in sym (nth_none v) ∙ (rw k at z.is)

-- ---- sections

-- counted back
pub sections_back : (n v : ℕ) → 1 ≤ v → v ≤ n → nth v (section_indices n) ≡ Some (n - v)
unfolding section_indices
sections_back zero v l h = absurd (omega arith)
sections_back (suc n) v l h = by_order v 1 (λ q. one q) (λ q. more q (λ a b. sections_back n (v - 1) a b))
  where
    one : v ≤ 1 → nth v (n ∷ section_indices n) ≡ Some (suc n - v)
    one q = let e : v ≡ 1 = omega arith in let f : suc n - 1 ≡ n = omega arith in rw (e, f) (nth_one n (section_indices n))

    more : 1 < v → (1 ≤ v - 1 → v - 1 ≤ n → nth (v - 1) (section_indices n) ≡ Some (n - (v - 1))) → nth v (n ∷ section_indices n) ≡ Some (suc n - v)
    more q ih = let f : suc n - v ≡ n - (v - 1) = omega arith in nth_next v n (section_indices n) l (λ e. omega arith) ∙ ih (omega arith) (omega arith) ∙ ap Some (sym f)

nth_past : (l : List ℕ) (v : ℕ) → length l < v → nth v l ≡ None
nth_past [] v h = nth_none v
nth_past (x ∷ xs) v h = nth_next v x xs (omega arith) (λ e. omega arith) ∙ nth_past xs (v - 1) (omega arith)

sections_length : (n : ℕ) → length (section_indices n) ≡ n
unfolding section_indices
sections_length zero = refl
sections_length (suc n) = ap suc (sections_length n)

nth_up : (k at v : ℕ) → 1 ≤ v → v ≤ k → nth v (ups (λ (j : ℕ). true) (λ (j : ℕ). j) at k) ≡ Some (at + v - 1)
unfolding ups
nth_up zero at v l h = absurd (omega arith)
nth_up (suc k) at v l h = by_order v 1 (λ q. one q) (λ q. more q (λ a b. nth_up k (suc at) (v - 1) a b))
  where
    one : v ≤ 1 → nth v (at ∷ ups (λ (j : ℕ). true) (λ (j : ℕ). j) (suc at) k) ≡ Some (at + v - 1)
    one q = let e : v ≡ 1 = omega arith in let f : at + 1 - 1 ≡ at = omega arith in rw (e, f) (nth_one at (ups (λ (j : ℕ). true) (λ (j : ℕ). j) (suc at) k))

    more : 1 < v → (1 ≤ v - 1 → v - 1 ≤ k → nth (v - 1) (ups (λ (j : ℕ). true) (λ (j : ℕ). j) (suc at) k) ≡ Some (suc at + (v - 1) - 1)) → nth v (at ∷ ups (λ (j : ℕ). true) (λ (j : ℕ). j) (suc at) k) ≡ Some (at + v - 1)
    more q ih =
        let f : suc at + (v - 1) - 1 ≡ at + v - 1 = omega arith in
        nth_next v at (ups (λ (j : ℕ). true) (λ (j : ℕ). j) (suc at) k) l (λ e. omega arith) ∙ ih (omega arith) (omega arith) ∙ ap Some f

sections_down : (n : ℕ) → section_indices n ≡ downs (λ (j : ℕ). true) (λ (j : ℕ). j) n
unfolding section_indices downs
sections_down zero = refl
sections_down (suc n) = rw (sections_down n)

-- counted from the first
pub sections_ahead : (n v : ℕ) → 1 ≤ v → v ≤ n → nth v (reverse (section_indices n)) ≡ Some (v - 1)
sections_ahead n v l h =
    let f : 0 + v - 1 ≡ v - 1 = omega arith in
    ap (λ (x : List ℕ). nth v (reverse x)) (sections_down n) ∙ ap (nth v) (oldest_first _ _ n) ∙ nth_up n 0 v l h ∙ ap Some f

-- ---- what `section_target` answers

module _ (n v : ℕ) (relative : Bool) where
  pub section_zero : v ≡ 0 → TargetFound relative v (section_indices n) None
  section_zero q = record { is = rw q (sym (nth_zero (pick relative (section_indices n) (reverse (section_indices n))))) }

  pub section_past : n < v → TargetFound relative v (section_indices n) None
  section_past h = record { is = sym (go relative) }
    where
      go : (b : Bool) → nth v (pick b (section_indices n) (reverse (section_indices n))) ≡ None
      go true = nth_past (section_indices n) v (omega (arith, sections_length n))
      go false = nth_past (reverse (section_indices n)) v (omega (arith, sections_length n, length-reverse (section_indices n)))

  pub section_back : (v ≡ 0 → ⊥) → v ≤ n → relative ≡ true → TargetFound relative v (section_indices n) (Some (n - v))
  section_back q h t = record { is = rw t (sym (sections_back n v (omega arith) h)) }

  pub section_ahead : (v ≡ 0 → ⊥) → v ≤ n → relative ≡ false → TargetFound relative v (section_indices n) (Some (v - 1))
  section_ahead q h t = record { is = rw t (sym (sections_ahead n v (omega arith) h)) }

-- ---- what `step_target` answers, and what it is of the rules

module _ {r : Option ℕ} (l : List ℕ) (v : ℕ) (relative : Bool) where
  pub target_back : r ≡ nth v l → relative ≡ true → TargetFound relative v l r
  target_back e t = record { is = rw t e }

  pub target_ahead : r ≡ nth v (reverse l) → relative ≡ false → TargetFound relative v l r
  target_ahead e t = record { is = rw t e }

module _ (i : Intermediate) (blocks : List Block) (sections : ℕ) {r : Option ℕ} where
  pub step_resolved : i.target ≡ target_step → TargetFound i.relative i.value.size (step_indices blocks) r → r ≡ resolve_intermediate_ref i blocks sections
  unfolding resolve_intermediate_ref candidates
  step_resolved t z = rw t z.is

  pub section_resolved : i.target ≡ target_section → TargetFound i.relative i.value.size (section_indices sections) r → r ≡ resolve_intermediate_ref i blocks sections
  unfolding resolve_intermediate_ref candidates
  section_resolved t z = rw t z.is

pub ruleset ahead_cases = (ahead_start, ahead_hit, ahead_step, ahead_text, ahead_end, none_of_zero)

pub ruleset back_cases = (back_start, back_hit, back_step, back_text, back_end, none_of_zero)
