-- What the characters at a place of each of two names tell of the names.
use Rattle.std.specs.Prelude.{ℕ, ◌≤◌, ◌<◌, ◌≡◌, Bool, true, false, List, ◌∷◌, eqb, length}
use Rattle.rules.specs.Basic.{pick, eq_list}
use Rattle.content.specs.Readings.{plain_byte}
use Rattle.letters.specs.declared.Folded.{Folded}
use Rattle.letters.specs.declared.Folded.TheVariants.{One, Two, Three}
use Rattle.text.specs.Names.{fold_from}
use Rattle.fronts.specs.Plain.{lowered}
use Rattle.fronts.specs.Seams.{same_at}
use Rattle.text.specs.declared.meets.Meeting.{Meeting}
use Rattle.text.specs.declared.meets.Meeting.TheVariants.{Answer, On, Unclear}
use Rattle.text.specs.declared.meets.Pair.{Pair}
use Rattle.text.specs.declared.meets.Pair.TheVariants.{Apart, Level, FirstShort, SecondShort, Several}
use Rattle.text.specs.declared.meets.Next.{Next}
use Rattle.text.specs.declared.meets.Next.TheVariants.{Other, Past, Many}

-- what the foldings of two characters tell
unfoldable pub pair_of : Folded → Folded → Pair
pair_of (One x) (One y) = pick (eqb x y) Level Apart
pair_of (One x) (Two y z) = pick (eqb x y) (FirstShort z) Apart
pair_of (One x) (Three y z w) = Several
pair_of (Two x z) (One y) = pick (eqb x y) (SecondShort z) Apart
pair_of (Two x z) (Two y w) = Several
pair_of (Two x z) (Three y w v) = Several
pair_of (Three x z w) g = Several

-- whether the folding of s from `at` on starts with z: not, or what is left of it is that from a place on
pub data Following (s : List ℕ) (at z : ℕ) : Next → Type 0 where
  other : ((zs : List ℕ) → fold_from s at ≡ z ∷ zs → ⊥) → Following s at z Other
  past : {k : ℕ} → at < k → k ≤ length s → fold_from s at ≡ z ∷ fold_from s k → Following s at z (Past k)
  many : Following s at z Many

-- x is the answer where after a pair the foldings xs and ys are left
pub data Ahead (xs ys : List ℕ) (x : Bool) : Pair → Type 0 where
  apart : x ≡ false → Ahead xs ys x Apart
  level : x ≡ eq_list xs ys → Ahead xs ys x Level
  first_short : {z : ℕ} → x ≡ eq_list xs (z ∷ ys) → Ahead xs ys x (FirstShort z)
  second_short : {z : ℕ} → x ≡ eq_list (z ∷ xs) ys → Ahead xs ys x (SecondShort z)
  several : Ahead xs ys x Several

-- what a meeting tells of the names from the places i and j on
pub data Met (a : List ℕ) (i : ℕ) (b : List ℕ) (j : ℕ) : Meeting → Type 0 where
  answered : {r : Bool} → r ≡ same_at a i b j → Met a i b j (Answer r)
  onward : {k l : ℕ} → i < k → k ≤ length a → l ≤ length b → same_at a k b l ≡ same_at a i b j → Met a i b j (On k l)
  unclear : Met a i b j Unclear

-- what a meeting tells where a pair leaves the names from the places i and j on
pub record Settled (a : List ℕ) (i : ℕ) (b : List ℕ) (j : ℕ) (p : Pair) (m : Meeting) : Type 0 where
  pub is : (i₀ j₀ : ℕ) → i₀ < i → Ahead (fold_from a i) (fold_from b j) (same_at a i₀ b j₀) p → Met a i₀ b j₀ m

-- a byte that is the letter s, in whatever case
pub record LetterS (c : ℕ) : Type 0 where
  pub plain : plain_byte c ≡ true
  pub is : lowered c ≡ 115

-- the first two bytes of a name fold to ss
pub record StartsSs (s : List ℕ) : Type 0 where
  pub long : 2 ≤ length s
  pub is : fold_from s 0 ≡ 115 ∷ 115 ∷ fold_from s 2
