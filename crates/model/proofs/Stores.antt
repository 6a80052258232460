-- A run of stores: what a part holds after it, inside and outside.
use Prim.Native.Nat.{ℕ, suc, ◌+◌, ◌-◌, ◌≤◌, ◌<◌}
use mathlib.Core.Path.{◌≡◌, refl, sym, ap, ◌∙◌}
use mathlib.Core.List.{List, [], ◌∷◌, ◌++◌, append-nil}
use native.Mathlib.Omega.{arith}
use native.Mathlib.Nat.{add-zero, add-suc}
use lib.ListN.{length, get_or, take, drop, set, length-drop, drop_of_length-le}
use lib.Seq.{sets, sets-eq, length-take-le, take-set-le, take-set-lt, drop-set-lt, drop-set-add, drop-drop, get_or-set_other, get_or-take, get_or-drop}
use borrow.Rule.Slice.PartMut.{mid_of, put_mid, put_same}

-- ---- parts

pub sets_above : (b : ℕ) (w : List ℕ) (at : ℕ) (vs : List ℕ) → at + length vs ≤ b → drop b (sets w at vs) ≡ drop b w
sets_above b w at [] h = refl
sets_above b w at (v ∷ vs) h = sets_above b (set w at v) (suc at) vs (omega arith) ∙ drop-set-lt b w at v (omega arith)

pub mid_above : (a k : ℕ) (w : List ℕ) (at : ℕ) (vs : List ℕ) → at + length vs ≤ a → mid_of a k (sets w at vs) ≡ mid_of a k w
mid_above a k w at vs h = ap (take k) (sets_above a w at vs h)

set_below : (a k : ℕ) (w : List ℕ) (at v : ℕ) → a + k ≤ at → mid_of a k (set w at v) ≡ mid_of a k w
set_below a k w at v h =
    let e : at ≡ a + (at - a) = omega arith in
    ap (λ (n : ℕ). take k (drop a (set w n v))) e ∙ ap (take k) (drop-set-add a w (at - a) v) ∙ take-set-le k (drop a w) (at - a) v (omega arith)

pub mid_below : (a k : ℕ) (w : List ℕ) (at : ℕ) (vs : List ℕ) → a + k ≤ at → mid_of a k (sets w at vs) ≡ mid_of a k w
mid_below a k w at [] h = refl
mid_below a k w at (v ∷ vs) h = mid_below a k (set w at v) (suc at) vs (omega arith) ∙ set_below a k w at v h

set_own : (a k : ℕ) (w : List ℕ) (j v : ℕ) → j < k → mid_of a k (set w (a + j) v) ≡ set (mid_of a k w) j v
set_own a k w j v h = ap (take k) (drop-set-add a w j v) ∙ take-set-lt k (drop a w) j v h

pub mid_own : (a k : ℕ) (w : List ℕ) (j : ℕ) (vs : List ℕ) → j + length vs ≤ k → mid_of a k (sets w (a + j) vs) ≡ sets (mid_of a k w) j vs
mid_own a k w j [] h = refl
mid_own a k w j (v ∷ vs) h =
    ap (λ (n : ℕ). mid_of a k (sets (set w (a + j) v) n vs)) (sym (add-suc a j))
    ∙ mid_own a k (set w (a + j) v) (suc j) vs (omega arith)
    ∙ ap (λ (l : List ℕ). sets l (suc j) vs) (set_own a k w j v (omega arith))

-- all of a list
sets_all : (l vs : List ℕ) → length l ≡ length vs → sets l 0 vs ≡ vs
sets_all l vs e =
    sets-eq vs l 0 (omega arith)
    ∙ ap (λ (r : List ℕ). vs ++ r) (drop_of_length-le l {i = 0 + length vs} (omega arith))
    ∙ append-nil vs

-- the part that was stored
pub mid_stored : (at : ℕ) (w vs : List ℕ) → at + length vs ≤ length w → mid_of at (length vs) (sets w at vs) ≡ vs
mid_stored at w vs h =
    ap (λ (n : ℕ). mid_of at (length vs) (sets w n vs)) (sym (add-zero at))
    ∙ mid_own at (length vs) w 0 vs (omega arith)
    ∙ sets_all (mid_of at (length vs) w) vs (length-take-le (length vs) (drop at w) (omega (arith, length-drop at w)))

-- ---- a part that was lent, with stores in it

put_set : (a k : ℕ) (w : List ℕ) (j v : ℕ) (p : List ℕ) → j < k → put_mid a k (set w (a + j) v) p ≡ put_mid a k w p
put_set a k w j v p h =
    rw (take-set-le a w (a + j) v (omega arith), drop-drop k a (set w (a + j) v), drop-drop k a w, drop-set-lt (a + k) w (a + j) v (omega arith))

pub put_sets : (a k : ℕ) (w : List ℕ) (j : ℕ) (vs : List ℕ) → j + length vs ≤ k → put_mid a k w (sets (mid_of a k w) j vs) ≡ sets w (a + j) vs
put_sets a k w j [] h = put_same a k w
put_sets a k w j (v ∷ vs) h =
    sym (put_set a k w j v (sets (set (mid_of a k w) j v) (suc j) vs) (omega arith))
    ∙ ap (λ (l : List ℕ). put_mid a k (set w (a + j) v) (sets l (suc j) vs)) (sym (set_own a k w j v (omega arith)))
    ∙ put_sets a k (set w (a + j) v) (suc j) vs (omega arith)
    ∙ ap (λ (n : ℕ). sets (set w (a + j) v) n vs) (add-suc a j)

-- ---- one element

pub get_or_sets_other : (w : List ℕ) (at : ℕ) (vs : List ℕ) (i : ℕ) → i < at → get_or (sets w at vs) i 0 ≡ get_or w i 0
get_or_sets_other w at [] i h = refl
get_or_sets_other w at (v ∷ vs) i h =
    get_or_sets_other (set w at v) (suc at) vs i (omega arith) ∙ get_or-set_other w at i v 0 (λ q. omega arith)

pub get_or_mid : (a k : ℕ) (w : List ℕ) (j : ℕ) → j < k → get_or (mid_of a k w) j 0 ≡ get_or w (a + j) 0
get_or_mid a k w j h = get_or-take k (drop a w) j 0 h ∙ get_or-drop a w j 0

-- a part that was lent, stored whole
pub put_whole : (a : ℕ) (w vs : List ℕ) {p : List ℕ} → a + length vs ≤ length w → p ≡ vs → put_mid a (a + length vs - a) w p ≡ sets w a vs
put_whole a w vs h e =
    let k : a + length vs - a ≡ length vs = omega arith in
    let n : length (mid_of a (length vs) w) ≡ length vs = length-take-le (length vs) (drop a w) (omega (arith, length-drop a w)) in
    rw (k, e) (ap (put_mid a (length vs) w) (sym (sets_all (mid_of a (length vs) w) vs n)) ∙ put_sets a (length vs) w 0 vs (omega arith) ∙ ap (λ (i : ℕ). sets w i vs) (add-zero a))
