-- The turns of `same_whole`.
use Prim.Native.Nat.{ℕ, ◌-◌, ◌<◌}
use mathlib.Core.Path.{◌≡◌, refl, sym, ◌∙◌}
use mathlib.Core.Bool.{Bool, false}
use mathlib.Core.List.{List}
use native.Mathlib.Omega.{arith}
use lib.ListN.{length, take, drop}
use Rattle.rules.specs.Unicode.{same_name}
use Rattle.utf8.proofs.Firsts.{part_rest}
use Rattle.content.specs.Contents.{kept_in}
use Rattle.fronts.specs.Seams.{same_at}
use Rattle.fronts.proofs.Seams.{Facing}
use Rattle.text.specs.declared.meets.Meeting.{Meeting}
use Rattle.text.specs.declared.meets.Meeting.TheVariants.{Answer, On}
use Rattle.text.specs.Meets.{Met, answered, onward}

pub facing : (a b : List ℕ) → Facing a b 0 0
unfolding same_at
facing a b = record { left = omega arith; right = omega arith; is = refl }

pub parted_first : (a b : List ℕ) → same_at a 0 b 0 ≡ false → false ≡ same_name (kept_in a) (kept_in b)
parted_first a b e = sym e ∙ (facing a b).is

module _ {a b : List ℕ} {i j : ℕ} (v : Facing a b i j) where
  pub facing_answer : {m : Meeting} → Met a i b j m → (r : Bool) → m ≡ Answer r → r ≡ same_name (kept_in a) (kept_in b)
  facing_answer p r e = go (rw e at p)
    where
      go : Met a i b j (Answer r) → r ≡ same_name (kept_in a) (kept_in b)
      go (answered q) = q ∙ v.is

  pub record Further (k l : ℕ) : Type 0 where
    pub more : i < k
    pub still : Facing a b k l

  pub facing_on : {m : Meeting} → Met a i b j m → (k l : ℕ) → m ≡ On k l → Further k l
  facing_on p k l e = go (rw e at p)
    where
      go : Met a i b j (On k l) → Further k l
      go (onward h g f q) = record { more = h; still = record { left = g; right = f; is = q ∙ v.is } }

  -- the rests as they are lent
  pub facing_rest : (r : Bool) → r ≡ same_name (kept_in (take (length a - i) (drop i a))) (kept_in (take (length b - j) (drop j b))) → r ≡ same_name (kept_in a) (kept_in b)
  facing_rest r e = unfold same_at in ((rw (part_rest a i, part_rest b j) at e) ∙ v.is)
