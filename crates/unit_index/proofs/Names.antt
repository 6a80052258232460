-- The names of a list of units, and the search for one of them.
use Prim.Native.Nat.{ℕ, zero, suc, ◌<◌}
use mathlib.Core.Path.{◌≡◌, refl, ap, sym, ◌∙◌}
use mathlib.Core.Bool.{Bool, true, false, ◌||◌}
use mathlib.Core.List.{List, [], ◌∷◌}
use Rattle.std.specs.Prelude.{Option, None, Some}
use native.Mathlib.Omega.{arith}
use lib.ListN.{length, drop, drop_of_length-le}
use Rattle.rules.specs.Basic.{pick, eq_list, is_some}
use Rattle.rules.specs.Units.{NamedUnit, find_unit, name_twice}
use Rattle.rules.proofs.Basics.{no_truth}
use Rattle.rules.proofs.SameChars.{eq_true, eq_itself}
use Rattle.chains.specs.Rows.{find_in}
use Rattle.chains.proofs.Seeks.{find_below, find_equal, find_none, find_others}
use Rattle.unit_index.specs.Index.{name_in}

-- ---- what is left of a list from a unit on

no_first : {P : Type 0} {u : NamedUnit} {us : List NamedUnit} → [] ≡ u ∷ us → P
no_first e = absurd (let z : ◌≡◌ {A = ℕ} 0 1 = cc in omega arith)

pub first_name : (us : List NamedUnit) (i : ℕ) {u : NamedUnit} {rest : List NamedUnit} → drop i us ≡ u ∷ rest → name_in us i ≡ u.name
unfolding name_in
first_name [] zero q = no_first q
first_name [] (suc i) q = no_first q
first_name (x ∷ us) zero {u} q = let e : x ≡ u = cc in ap (λ (y : NamedUnit). y.name) e
first_name (x ∷ us) (suc i) q = first_name us i q

pub first_rest : (us : List NamedUnit) (i : ℕ) {u : NamedUnit} {rest : List NamedUnit} → drop i us ≡ u ∷ rest → drop (suc i) us ≡ rest
first_rest [] zero q = no_first q
first_rest [] (suc i) q = no_first q
first_rest (x ∷ us) zero q = cc
first_rest (x ∷ us) (suc i) q = first_rest us i q

-- ---- the search in the list, and the row that is found

find_over : (us : List NamedUnit) (k : List ℕ) (i : ℕ) → eq_list k (name_in us i) ≡ false → find_unit k (drop i us) ≡ find_unit k (drop (suc i) us)
unfolding name_in find_unit
find_over [] k zero e = refl
find_over [] k (suc i) e = refl
find_over (u ∷ us) k zero e = rw e
find_over (u ∷ us) k (suc i) e = find_over us k i e

-- a name that the first units do not have
pub find_drop : (us : List NamedUnit) (k : List ℕ) (i : ℕ) → find_in (name_in us) k i ≡ None → find_unit k us ≡ find_unit k (drop i us)
find_drop us k zero q = refl
find_drop us k (suc i) q =
    let z = find_none (name_in us) k i q in
    find_drop us k i z.1 ∙ find_over us k i z.0

find_has : (us : List NamedUnit) (k : List ℕ) (i : ℕ) → i < length us → eq_list k (name_in us i) ≡ true → is_some (find_unit k us) ≡ true
unfolding name_in find_unit is_some
find_has [] k i l e = absurd (omega arith)
find_has (u ∷ us) k zero l e = rw e
find_has (u ∷ us) k (suc i) l e = go (eq_list k u.name) (find_has us k i (omega arith) e)
  where
    go : (t : Bool) → is_some (find_unit k us) ≡ true → is_some (pick t (Some u.physical) (find_unit k us)) ≡ true
    go true h = unfold is_some in refl
    go false h = h

pub gone_all : (us : List NamedUnit) (k : List ℕ) → find_in (name_in us) k (length us) ≡ None → find_unit k us ≡ None
unfolding find_unit
gone_all us k q = find_drop us k (length us) q ∙ rw (drop_of_length-le us {i = length us} (omega arith))

pub found_all : (us : List NamedUnit) (k : List ℕ) {i : ℕ} → find_in (name_in us) k (length us) ≡ Some i → is_some (find_unit k us) ≡ true
found_all us k {i} q = find_has us k i (find_below (name_in us) k (length us) i q) (find_equal (name_in us) k (length us) i q)

-- ---- a name twice

eq_back : (a b : List ℕ) → eq_list a b ≡ false → eq_list b a ≡ false
eq_back a b q = go (eq_list b a) refl
  where
    go : (t : Bool) → eq_list b a ≡ t → t ≡ false
    go false e = refl
    go true e = let h : b ≡ a = eq_true b a e in no_truth (sym q ∙ rw h (eq_itself a))

find_not : (us : List NamedUnit) (k : List ℕ) → ((i : ℕ) → i < length us → eq_list k (name_in us i) ≡ false) → find_unit k us ≡ None
unfolding name_in find_unit
find_not [] k h = refl
find_not (u ∷ us) k h = rw (h 0 (omega arith)) (find_not us k (λ i l. h (suc i) (omega arith)))

twice_none : (us : List NamedUnit) → ((i j : ℕ) → i < j → j < length us → eq_list (name_in us i) (name_in us j) ≡ false) → name_twice us ≡ false
unfolding name_in name_twice is_some
twice_none [] h = refl
twice_none (u ∷ us) h = rw (find_not us u.name (λ j l. h 0 (suc j) (omega arith) (omega arith))) (twice_none us (λ i j a b. h (suc i) (suc j) (omega arith) (omega arith)))

or_true : (t : Bool) → (t || true) ≡ true
or_true true = refl
or_true false = refl

twice_some : (us : List NamedUnit) (i j : ℕ) → i < j → j < length us → eq_list (name_in us i) (name_in us j) ≡ true → name_twice us ≡ true
unfolding name_in name_twice
twice_some [] i j l h e = absurd (omega arith)
twice_some (u ∷ us) i zero l h e = absurd (omega arith)
twice_some (u ∷ us) zero (suc j) l h e = rw (find_has us u.name j (omega arith) e)
twice_some (u ∷ us) (suc i) (suc j) l h e = rw (twice_some us i j (omega arith) (omega arith) e) (or_true (is_some (find_unit u.name us)))

-- no unit has the name of one before it
pub all_once : (us : List NamedUnit) → ((i : ℕ) → i < length us → find_in (name_in us) (name_in us i) i ≡ None) → name_twice us ≡ false
all_once us h = twice_none us (λ i j a b. eq_back (name_in us j) (name_in us i) (find_others (name_in us) (name_in us j) j (h j b) i a))

-- one has
pub one_twice : (us : List NamedUnit) (n : ℕ) → n < length us → is_some (find_in (name_in us) (name_in us n) n) ≡ true → name_twice us ≡ true
one_twice us n l q = go (find_in (name_in us) (name_in us n) n) refl q
  where
    go : (o : Option ℕ) → find_in (name_in us) (name_in us n) n ≡ o → is_some o ≡ true → name_twice us ≡ true
    go None e p = unfold is_some in no_truth p
    go (Some i) e p =
        let h : name_in us n ≡ name_in us i = eq_true (name_in us n) (name_in us i) (find_equal (name_in us) (name_in us n) n i e) in
        twice_some us i n (find_below (name_in us) (name_in us n) n i e) l (rw h (eq_itself (name_in us i)))
