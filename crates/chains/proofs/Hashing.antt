-- The hash of bytes, character by character.
use Prim.Native.Nat.{ℕ, ◌+◌, ◌*◌, ◌%◌, ◌≤◌, ◌<◌}
use mathlib.Core.Path.{◌≡◌, refl, ap, ◌∙◌}
use mathlib.Core.List.{List, ◌∷◌}
use native.Mathlib.Omega.{arith}
use lib.ListN.{length, drop}
use Rattle.content.proofs.Compare.{Stepped, Ending}
use Rattle.chains.specs.Hashes.{hash_from, hash_of, Hashed}

-- g reads the bytes f; h is the hash of what stands before place i
pub record Hashing (g : List ℕ → List ℕ) (f : List ℕ) (h i : ℕ) : Type 0 where
  pub small : h < 1024
  pub most : i ≤ length f
  pub is : hash_from h (g (drop i f)) ≡ hash_of (g f)

pub hash_starts : (g : List ℕ → List ℕ) (f : List ℕ) → Hashing g f 0 0
hash_starts g f = record { small = omega arith; most = omega arith; is = refl }

module _ {g : List ℕ → List ℕ} {f : List ℕ} {h i : ℕ} (v : Hashing g f h i) where
  pub hash_on : {c n m : ℕ} → Stepped g f i c n → m ≡ (h * 31 + c) % 1024 → m < 1024 → Hashing g f m (i + n)
  unfolding hash_from
  hash_on {c} {n} k e l =
      let q : hash_from h (c ∷ g (drop (i + n) f)) ≡ hash_of (g f) = rw k.reads at v.is in
      record { small = l; most = k.most; is = ap (λ (x : ℕ). hash_from x (g (drop (i + n) f))) e ∙ q }

  pub hash_ends : Ending g f i → length f ≤ i → Hashed (g f) h
  unfolding hash_from
  hash_ends e l = record { is = rw (e.none l) at v.is; small = v.small }
