-- The lent records: their number, one of them, and the list as the loop of `lend_records` fills it.
use mathlib.Core.Path.{◌≡◌, refl, sym, ◌∙◌, ap, subst}
use Prim.Native.Nat.{ℕ, zero, suc, ◌+◌, ◌-◌, ◌<◌, ◌≤◌}
use native.Mathlib.Nat.{le_of_suc-le-suc, not-suc-le-zero, le_antisymm, le_refl, add-zero, add-suc}
use native.Mathlib.Numerals.{add-one}
use native.Mathlib.Omega.{arith}
use mathlib.Core.Bool.{Bool, true, false}
use mathlib.Core.List.{List, [], ◌∷◌, ◌++◌, append_assoc, append-nil}
use lib.Dec.{ltb}
use lib.ListN.{length, get_or, set, take, drop, replicate, length-set, replicate-append-replicate, get_or-append}
use lib.Seq.{drop-cons, drop-length, take-append_seam}
use borrow.Author.Tests.{lt-ltb, le-ltb, ltb-true, ltb-false}
use Rattle.rules.specs.Basic.{pick}
use Rattle.component_records.specs.declared.Component.{Component}
use Rattle.component_records.specs.Records.{no_component, component_in, records_in}

length_snoc : (xs : List Component) (c : Component) → length (xs ++ (c ∷ [])) ≡ suc (length xs)
length_snoc [] c = refl
length_snoc (x ∷ xs) c = ap suc (length_snoc xs c)

set_after : (xs : List Component) (y c : Component) (zs : List Component) → set (xs ++ (y ∷ zs)) (length xs) c ≡ (xs ++ (c ∷ [])) ++ zs
set_after [] y c zs = refl
set_after (x ∷ xs) y c zs = ap (λ (l : List Component). x ∷ l) (set_after xs y c zs)

set_at : (xs : List Component) (i : ℕ) (y c : Component) (zs : List Component) → length xs ≡ i → set (xs ++ (y ∷ zs)) i c ≡ (xs ++ (c ∷ [])) ++ zs
set_at xs i y c zs e = subst (λ (k : ℕ). set (xs ++ (y ∷ zs)) k c ≡ (xs ++ (c ∷ [])) ++ zs) e (set_after xs y c zs)

get_or_after : (xs : List Component) (c d : Component) → get_or (xs ++ (c ∷ [])) (length xs) d ≡ c
get_or_after [] c d = refl
get_or_after (x ∷ xs) c d = get_or_after xs c d

by_test : {X : Type 0} (t : Bool) → (t ≡ true → X) → (t ≡ false → X) → X
by_test true f g = f refl
by_test false f g = g refl

module _ (words : List ℕ) (from : ℕ) where
  pub length_records : (n : ℕ) → length (records_in words from n) ≡ n
  unfolding records_in
  length_records zero = refl
  length_records (suc n) = length_snoc (records_in words from n) (component_in words from n) ∙ ap suc (length_records n)

  -- the i-th of the first n
  pub get_or_records : (n i : ℕ) → i < n → get_or (records_in words from n) i no_component ≡ component_in words from i
  unfolding records_in
  get_or_records zero i l = absurd (not-suc-le-zero l)
  get_or_records (suc n) i l = by_test (ltb i n) (λ e. before (ltb-true i n e) (get_or_records n i)) (λ e. last (le_antisymm (le_of_suc-le-suc l) (ltb-false i n e)))
    where
      before : i < n → (i < n → get_or (records_in words from n) i no_component ≡ component_in words from i)
          → get_or (records_in words from n ++ (component_in words from n ∷ [])) i no_component ≡ component_in words from i
      before h same =
          get_or-append (records_in words from n) (component_in words from n ∷ []) no_component i (subst (λ (k : ℕ). i < k) (sym (length_records n)) h)
          ∙ same h

      last : i ≡ n → get_or (records_in words from n ++ (component_in words from n ∷ [])) i no_component ≡ component_in words from i
      last e =
          subst (λ (k : ℕ). get_or (records_in words from n ++ (component_in words from n ∷ [])) k no_component ≡ component_in words from k) (sym e)
          (subst (λ (k : ℕ). get_or (records_in words from n ++ (component_in words from n ∷ [])) k no_component ≡ component_in words from n) (length_records n)
          (get_or_after (records_in words from n) (component_in words from n) no_component))

  -- the records are the front of what is lent
  pub take_records : (n : ℕ) (zs : List Component) → take n (records_in words from n ++ zs) ≡ records_in words from n
  take_records n zs = subst (λ (k : ℕ). take k (records_in words from n ++ zs) ≡ records_in words from n) (length_records n) (take-append_seam (records_in words from n) zs)

-- ---- the loop: one record more a turn
module _ (words : List ℕ) (from count : ℕ) where
  abbrev pub shown_at : ℕ → Component
  shown_at i = pick (ltb i count) (component_in words from i) no_component

  abbrev pub filled : List Component → ℕ → List Component
  filled ys zero = ys
  filled ys (suc i) = set (filled ys i) i (shown_at i)

  pub length_filled : (ys : List Component) (i : ℕ) → length (filled ys i) ≡ length ys
  length_filled ys zero = refl
  length_filled ys (suc i) = length-set (filled ys i) i (shown_at i) ∙ length_filled ys i

  abbrev shown : ℕ → List Component
  shown zero = []
  shown (suc i) = shown i ++ (shown_at i ∷ [])

  length_shown : (i : ℕ) → length (shown i) ≡ i
  length_shown zero = refl
  length_shown (suc i) = length_snoc (shown i) (shown_at i) ∙ ap suc (length_shown i)

  filled_is : (ys : List Component) (i : ℕ) → i ≤ length ys → filled ys i ≡ shown i ++ drop i ys
  filled_is ys zero h = refl
  filled_is ys (suc i) h =
      ap (λ (l : List Component). set l i (shown_at i)) (filled_is ys i (omega arith) ∙ ap (λ (l : List Component). shown i ++ l) (drop-cons ys i no_component h))
      ∙ set_at (shown i) i _ (shown_at i) _ (length_shown i)

  -- up to `count`, and past it
  shown_rows : (i : ℕ) → i ≤ count → shown i ≡ records_in words from i
  unfolding records_in
  shown_rows zero h = refl
  shown_rows (suc i) h =
      ap (λ (l : List Component). l ++ (shown_at i ∷ [])) (shown_rows i (omega arith))
      ∙ ap (λ (c : Component). records_in words from i ++ (c ∷ [])) (ap (λ (t : Bool). pick t (component_in words from i) no_component) (lt-ltb i count h))

  shown_past : (k : ℕ) → shown (count + k) ≡ records_in words from count ++ replicate k no_component
  shown_past zero = ap shown (add-zero count) ∙ shown_rows count (le_refl count) ∙ sym (append-nil (records_in words from count))
  shown_past (suc k) =
      ap shown (add-suc count k)
      ∙ ap (λ (c : Component). shown (count + k) ++ (c ∷ [])) (ap (λ (t : Bool). pick t (component_in words from (count + k)) no_component) (le-ltb (count + k) count (omega arith)))
      ∙ ap (λ (l : List Component). l ++ (no_component ∷ [])) (shown_past k)
      ∙ append_assoc (records_in words from count) (replicate k no_component) (no_component ∷ [])
      ∙ ap (λ (l : List Component). records_in words from count ++ l) (replicate-append-replicate k 1 no_component ∙ ap (λ (n : ℕ). replicate n no_component) (add-one k))

  pub all_filled : (ys : List Component) → count ≤ length ys
      → filled ys (length ys) ≡ records_in words from count ++ replicate (length ys - count) no_component
  all_filled ys h =
      let e : length ys ≡ count + (length ys - count) = omega arith in
      filled_is ys (length ys) (le_refl (length ys))
      ∙ ap (λ (l : List Component). shown (length ys) ++ l) (drop-length ys) ∙ append-nil (shown (length ys))
      ∙ ap shown e ∙ shown_past (length ys - count)
