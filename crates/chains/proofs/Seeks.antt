-- Chains of rows by the hashes of their keys, and the search along one of them.
use Prim.Native.Nat.{ℕ, zero, suc, ◌≤◌, ◌<◌}
use mathlib.Core.Path.{◌≡◌, refl, ap, sym, ◌∙◌}
use mathlib.Core.Bool.{Bool, true, false}
use mathlib.Core.List.{List}
use Rattle.std.specs.Prelude.{Option, None, Some}
use native.Mathlib.Omega.{arith}
use borrow.Author.Tests.{eq-eqb, eqb-true}
use lib.Dec.{eqb}
use Rattle.rules.specs.Basic.{pick, eq_list}
use Rattle.rules.proofs.Basics.{no_truth, no_some, some_inj, by_order}
use Rattle.rules.proofs.SameChars.{eq_true}
use Rattle.chains.specs.Rows.{find_in, head_in}

-- ---- the row of a key

module _ (keys : ℕ → List ℕ) where
  pub find_hit : (k : List ℕ) (i : ℕ) → eq_list k (keys i) ≡ true → find_in keys k (suc i) ≡ Some i
  unfolding find_in
  find_hit k i e = rw e

  pub find_miss : (k : List ℕ) (i : ℕ) → eq_list k (keys i) ≡ false → find_in keys k (suc i) ≡ find_in keys k i
  unfolding find_in
  find_miss k i e = rw e

  -- a row that is found
  pub find_below : (k : List ℕ) (n i : ℕ) → find_in keys k n ≡ Some i → i < n
  unfolding find_in
  find_below k zero i q = no_some q
  find_below k (suc j) i q = go (eq_list k (keys j)) q (λ p. find_below k j i p)
    where
      go : (t : Bool) → pick t (Some j) (find_in keys k j) ≡ Some i → (find_in keys k j ≡ Some i → i < j) → i < suc j
      go true p ih = let z : j ≡ i = some_inj p in omega arith
      go false p ih = let z = ih p in omega arith

  pub find_equal : (k : List ℕ) (n i : ℕ) → find_in keys k n ≡ Some i → eq_list k (keys i) ≡ true
  unfolding find_in
  find_equal k zero i q = no_some q
  find_equal k (suc j) i q = go (eq_list k (keys j)) refl q (λ p. find_equal k j i p)
    where
      go : (t : Bool) → eq_list k (keys j) ≡ t → pick t (Some j) (find_in keys k j) ≡ Some i → (find_in keys k j ≡ Some i → eq_list k (keys i) ≡ true) → eq_list k (keys i) ≡ true
      go true e p ih = let z : j ≡ i = some_inj p in ap (λ (x : ℕ). eq_list k (keys x)) (sym z) ∙ e
      go false e p ih = ih p

  -- none is found: the last differs, and none of those before is it
  pub find_none : (k : List ℕ) (i : ℕ) → find_in keys k (suc i) ≡ None → (eq_list k (keys i) ≡ false) × (find_in keys k i ≡ None)
  unfolding find_in
  find_none k i q = go (eq_list k (keys i)) q
    where
      go : (t : Bool) → pick t (Some i) (find_in keys k i) ≡ None → (t ≡ false) × (find_in keys k i ≡ None)
      go true p = no_some (sym p)
      go false p = (refl, p)

  pub find_others : (k : List ℕ) (n : ℕ) → find_in keys k n ≡ None → (i : ℕ) → i < n → eq_list k (keys i) ≡ false
  find_others k zero q i l = absurd (omega arith)
  find_others k (suc n) q i l =
      let z = find_none k n q in
      by_order n i (λ h. let e : i ≡ n = omega arith in ap (λ (x : ℕ). eq_list k (keys x)) e ∙ z.0) (λ h. find_others k n z.1 i h)

-- ---- heads and rows

module _ (hash : List ℕ → ℕ) (keys : ℕ → List ℕ) where
  -- a key with another hash is another key
  other_key : (k : List ℕ) (i : ℕ) → eqb (hash (keys i)) (hash k) ≡ false → eq_list k (keys i) ≡ false
  other_key k i q = go (eq_list k (keys i)) refl
    where
      go : (t : Bool) → eq_list k (keys i) ≡ t → t ≡ false
      go false e = refl
      go true e = no_truth (sym q ∙ eq-eqb (hash (keys i)) (hash k) (ap hash (sym (eq_true k (keys i) e))))

  head_most : (b k : ℕ) → head_in hash keys b k ≤ k
  unfolding head_in
  head_most b zero = omega arith
  head_most b (suc j) = go (eqb (hash (keys j)) b) (head_most b j)
    where
      go : (t : Bool) → head_in hash keys b j ≤ j → pick t (suc j) (head_in hash keys b j) ≤ suc j
      go true h = omega arith
      go false h = omega arith

  head_hash : (b k i : ℕ) → head_in hash keys b k ≡ suc i → hash (keys i) ≡ b
  unfolding head_in
  head_hash b zero i q = absurd (omega arith)
  head_hash b (suc j) i q = go (eqb (hash (keys j)) b) refl q (λ p. head_hash b j i p)
    where
      go : (t : Bool) → eqb (hash (keys j)) b ≡ t → pick t (suc j) (head_in hash keys b j) ≡ suc i → (head_in hash keys b j ≡ suc i → hash (keys i) ≡ b) → hash (keys i) ≡ b
      go true e p ih = let z : j ≡ i = omega arith in ap (λ (x : ℕ). hash (keys x)) (sym z) ∙ eqb-true (hash (keys j)) b e
      go false e p ih = ih p

  find_skip : (k : List ℕ) (n i : ℕ) → head_in hash keys (hash k) n ≡ suc i → find_in keys k n ≡ find_in keys k (suc i)
  unfolding head_in
  find_skip k zero i q = absurd (omega arith)
  find_skip k (suc j) i q = go (eqb (hash (keys j)) (hash k)) refl q (λ p. find_skip k j i p)
    where
      go : (t : Bool) → eqb (hash (keys j)) (hash k) ≡ t → pick t (suc j) (head_in hash keys (hash k) j) ≡ suc i → (head_in hash keys (hash k) j ≡ suc i → find_in keys k j ≡ find_in keys k (suc i)) → find_in keys k (suc j) ≡ find_in keys k (suc i)
      go true e p ih = let z : j ≡ i = omega arith in ap (λ (x : ℕ). find_in keys k (suc x)) z
      go false e p ih = find_miss keys k j (other_key k j e) ∙ ih p

  find_gone : (k : List ℕ) (n : ℕ) → head_in hash keys (hash k) n ≡ 0 → find_in keys k n ≡ None
  unfolding head_in find_in
  find_gone k zero q = refl
  find_gone k (suc j) q = go (eqb (hash (keys j)) (hash k)) refl q (λ p. find_gone k j p)
    where
      go : (t : Bool) → eqb (hash (keys j)) (hash k) ≡ t → pick t (suc j) (head_in hash keys (hash k) j) ≡ 0 → (head_in hash keys (hash k) j ≡ 0 → find_in keys k j ≡ None) → pick (eq_list k (keys j)) (Some j) (find_in keys k j) ≡ None
      go true e p ih = absurd (omega arith)
      go false e p ih = ap (λ (t : Bool). pick t (Some j) (find_in keys k j)) (other_key k j e) ∙ ih p

  -- ---- the walk along a chain

  pub record Seeking (n : ℕ) (k : List ℕ) (p : ℕ) : Type 0 where
    pub upto : ℕ
    pub most : upto ≤ n
    pub at : p ≡ head_in hash keys (hash k) upto
    pub is : find_in keys k upto ≡ find_in keys k n

  pub seek_starts : {n p : ℕ} {k : List ℕ} → p ≡ head_in hash keys (hash k) n → Seeking n k p
  seek_starts {n} e = record { upto = n; most = omega arith; at = e; is = refl }

  module _ {n p : ℕ} {k : List ℕ} (v : Seeking n k p) where
    pub seek_most : p ≤ n
    seek_most = omega (arith, head_most (hash k) v.upto, v.at, v.most)

    pub seek_gone : p ≡ 0 → None ≡ find_in keys k n
    seek_gone q = sym (sym v.is ∙ find_gone k v.upto (sym v.at ∙ q))

    module _ {i : ℕ} (q : p ≡ suc i) where
      here : find_in keys k (suc i) ≡ find_in keys k n
      here = sym (find_skip k v.upto i (sym v.at ∙ q)) ∙ v.is

      pub seek_hit : eq_list k (keys i) ≡ true → Some i ≡ find_in keys k n
      seek_hit e = sym (find_hit keys k i e) ∙ here

      pub seek_hash : hash (keys i) ≡ hash k
      seek_hash = head_hash (hash k) v.upto i (sym v.at ∙ q)

      pub seek_on : {next : ℕ} → eq_list k (keys i) ≡ false → next ≡ head_in hash keys (hash (keys i)) i → Seeking n k next
      seek_on e g = record { upto = i; most = omega (arith, seek_most); at = g ∙ ap (λ (b : ℕ). head_in hash keys b i) seek_hash; is = sym (find_miss keys k i e) ∙ here }

      pub next_less : {next : ℕ} → next ≡ head_in hash keys (hash (keys i)) i → next < p
      next_less g = omega (arith, head_most (hash (keys i)) i)

-- ---- the same keys

module _ (keys also : ℕ → List ℕ) where
  pub find_same : (k : List ℕ) (n : ℕ) → ((i : ℕ) → i < n → keys i ≡ also i) → find_in keys k n ≡ find_in also k n
  unfolding find_in
  find_same k zero e = refl
  find_same k (suc j) e =
      ap (λ (x : List ℕ). pick (eq_list k x) (Some j) (find_in keys k j)) (e j (omega arith))
      ∙ ap (λ (o : Option ℕ). pick (eq_list k (also j)) (Some j) o) (find_same k j (λ i l. e i (omega arith)))

module _ (hash : List ℕ → ℕ) (keys also : ℕ → List ℕ) where
  pub head_same : (b n : ℕ) → ((i : ℕ) → i < n → keys i ≡ also i) → head_in hash keys b n ≡ head_in hash also b n
  unfolding head_in
  head_same b zero e = refl
  head_same b (suc j) e =
      ap (λ (x : List ℕ). pick (eqb (hash x) b) (suc j) (head_in hash keys b j)) (e j (omega arith))
      ∙ ap (λ (h : ℕ). pick (eqb (hash (also j)) b) (suc j) h) (head_same b j (λ i l. e i (omega arith)))
