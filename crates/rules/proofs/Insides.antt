-- In UTF-8 the bytes inside characters are those from 80 to BF.
use Prim.Native.Nat.{ℕ, zero, suc, pred, ◌<◌, suc-le-suc}
use mathlib.Core.Path.{◌≡◌, sym, ap, ◌∙◌}
use mathlib.Core.Bool.{Bool, true, false}
use mathlib.Core.List.{List, [], ◌∷◌}
use mathlib.Core.Logic.{◌⊎◌, inl, inr}
use native.Mathlib.Nat.{le_of_suc-le-suc, not-suc-le-zero, eq-or-lt_of_le}
use native.Mathlib.Omega.{arith}
use lib.ListN.{get_or}
use Rattle.rules.specs.Utf8.{size_of, first_of, followers, later, is_inside, is_utf8}
use Rattle.rules.proofs.Basics.{within_high}
use Rattle.rules.proofs.Begins.{Begins, one, two, three, four, first_some, size_1, size_2, size_3, size_4, second_later, later_ascii}
use Rattle.rules.proofs.Chars.{well_from, well_utf8, starts}

-- place i of some bytes is inside a character, where k bytes are left of the character before
unfoldable pub inside_from : ℕ → List ℕ → ℕ → Bool
inside_from k [] i = false
inside_from zero (a ∷ s) zero = false
inside_from (suc k) (a ∷ s) zero = true
inside_from zero (a ∷ s) (suc i) = inside_from (followers a (first_of a s)) s i
inside_from (suc k) (a ∷ s) (suc i) = inside_from k s i

-- the first k bytes are from 80 to BF
abbrev pub Laters : ℕ → List ℕ → Type 0
Laters k s = (j : ℕ) → j < k → later (get_or s j 0) ≡ true

laters_none : (s : List ℕ) → Laters 0 s
laters_none s j h = absurd (not-suc-le-zero h)

laters_more : (k : ℕ) (s : List ℕ) → Laters k s → later (get_or s k 0) ≡ true → Laters (suc k) s
laters_more k s f e j h = go (eq-or-lt_of_le (le_of_suc-le-suc h))
  where
    go : (j ≡ k) ⊎ (j < k) → later (get_or s j 0) ≡ true
    go (inl q) = rw q e
    go (inr l) = f j l

laters_size : (m n : ℕ) (s : List ℕ) → m ≡ n → Laters (pred n) s → Laters (pred m) s
laters_size m n s e f = rw e f

-- the bytes of a character after its first one are such, and the first one is not
pub begins_laters : {a : ℕ} {s : List ℕ} {c : ℕ} → Begins a s c → Laters (pred (size_of a)) s
begins_laters {a} {s} (one h) = laters_size _ 1 s (size_1 a h) (laters_none s)
begins_laters {a} {s} (two {b = b} h g q) = laters_size _ 2 s (size_2 a h g) (laters_more 0 s (laters_none s) (second_later a b q))
begins_laters {a} {s} (three {b = b} h g q l) =
    laters_size _ 3 s (size_3 a h g) (laters_more 1 s (laters_more 0 s (laters_none s) (second_later a b q)) l)
begins_laters {a} {s} (four {b = b} h g q l m) =
    laters_size _ 4 s (size_4 a h g) (laters_more 2 s (laters_more 1 s (laters_more 0 s (laters_none s) (second_later a b q)) l) m)

later_high : (a : ℕ) → 191 < a → later a ≡ false
unfolding later
later_high a h = within_high 128 191 a h

pub begins_lead : {a : ℕ} {s : List ℕ} {c : ℕ} → Begins a s c → later a ≡ false
begins_lead (one {a} h) = later_ascii a (omega arith)
begins_lead (two {a} h g q) = later_high a (omega arith)
begins_lead (three {a} h g q l) = later_high a (omega arith)
begins_lead (four {a} h g q l m) = later_high a (omega arith)

inside_from_lem : (k : ℕ) (s : List ℕ) (i : ℕ) → Laters k s → well_from k s ≡ true → later (get_or s i 0) ≡ inside_from k s i
unfolding inside_from well_from
inside_from_lem k [] i f w = later_ascii 0 (omega arith)
inside_from_lem zero (a ∷ s) zero f w = begins_lead (starts a s w).is
inside_from_lem (suc k) (a ∷ s) zero f w = f zero (omega arith)
inside_from_lem (suc k) (a ∷ s) (suc i) f w = inside_from_lem k s i (λ j l. f (suc j) (suc-le-suc l)) w
inside_from_lem zero (a ∷ s) (suc i) f w =
    let g = starts a s w in
    inside_from_lem (pred (size_of a)) s i (begins_laters g.is) g.rest
    ∙ ap (λ (n : ℕ). inside_from n s i) (unfold followers in sym (ap (followers a) (first_some g.is)))

-- the test of a byte means what the words say
pub inside_means : (s : List ℕ) (i : ℕ) → is_utf8 s ≡ true → is_inside s i ≡ inside_from 0 s i
unfolding is_inside
inside_means s i w = inside_from_lem 0 s i (laters_none s) (rw (well_utf8 s) at w)
