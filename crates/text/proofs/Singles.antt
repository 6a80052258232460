-- Bytes among which no two blanks follow one another stay as they are.
use Prim.Native.Nat.{ℕ, zero, suc, ◌<◌, ◌≤◌, ◌+◌, ◌-◌}
use mathlib.Core.Path.{◌≡◌, refl, sym, ap, ◌∙◌}
use mathlib.Core.Bool.{Bool, true, false, ◌&&◌, not}
use mathlib.Core.List.{List, [], ◌∷◌, ◌++◌, append_assoc, append-nil}
use native.Mathlib.Numerals.{add-one}
use native.Mathlib.Omega.{arith}
use borrow.Author.Tests.{eq-eqb, ne_eqb}
use lib.Dec.{eqb}
use lib.ListN.{length, get_or, take, drop, get_or-eq_default}
use lib.Seq.{take_all, take-suc}
use Rattle.rules.specs.Basic.{pick, blank}
use Rattle.rules.specs.Text.{retain}
use Rattle.rules.proofs.Basics.{no_truth, by_order, and_false}
use Rattle.output.specs.Put.{Put}
use Rattle.sheet.specs.Runs.{lacks}
use Rattle.sheet.proofs.Runs.{last_of, no_byte}
use Rattle.text.specs.Singles.{stay, NextBlank}
use Rattle.text.proofs.Writes.{retain_stays, retain_none}

pub stay_none : (w : List ℕ) → true ≡ stay w 0 0
unfolding stay
stay_none w = refl

-- ---- one after the other
pick_both : (t a b : Bool) → pick t false (pick a b false) ≡ pick (pick t false a) b false
pick_both true a b = refl
pick_both false a b = refl

joined : (w : List ℕ) (at m n : ℕ) → stay w at (m + n) ≡ pick (stay w (at + m) n) (stay w at m) false
unfolding stay
joined w at m zero = let z : m + 0 ≡ m = omega arith in rw z refl
joined w at m (suc n) =
    let z : m + suc n ≡ suc (m + n) = omega arith in
    let y : at + (m + n) ≡ at + m + n = omega arith in
    rw (z, y, joined w at m n) (pick_both (eqb (get_or w (at + m + n + 1) 0) blank && eqb (get_or w (at + m + n) 0) blank) (stay w (at + m) n) (stay w at m))

from_start : (w : List ℕ) (m n : ℕ) → stay w 0 (m + n) ≡ pick (stay w m n) (stay w 0 m) false
from_start w m n = let z : 0 + m ≡ m = omega arith in rw z at (joined w 0 m n)

module _ (w : List ℕ) (i n : ℕ) (e : true ≡ stay w 0 i) (t : Bool) (q : t ≡ stay w i n) where
  pub stays_on : not t ≡ false → true ≡ stay w 0 (i + n)
  stays_on h = sym (from_start w i n ∙ rw (← q, ← e) (by t h))
    where
      by : (u : Bool) → not u ≡ false → pick u true false ≡ true
      by true p = refl
      by false p = no_truth (sym p)

  stays_off : (k : ℕ) → not t ≡ true → false ≡ stay w 0 (i + n + k)
  stays_off k h = sym (from_start w (i + n) k ∙ rw (from_start w i n, ← q, ← e) (by t h))
    where
      by : (u : Bool) → not u ≡ true → pick (stay w (i + n) k) (pick u true false) false ≡ false
      by true p = no_truth p
      by false p = either (stay w (i + n) k)
        where
          either : (v : Bool) → pick v false false ≡ false
          either true = refl
          either false = refl

  pub stays_not : (m : ℕ) → i + n ≤ m → not t ≡ true → false ≡ stay w 0 m
  stays_not m l h = let z : i + n + (m - (i + n)) ≡ m = omega arith in rw z at (stays_off (m - (i + n)) h)

module _ (w : List ℕ) (i : ℕ) (e : true ≡ stay w 0 i) (gone : Bool) (g : gone ≡ (eqb (get_or w (i + 1) 0) blank && eqb (get_or w i 0) blank)) where
  one : not gone ≡ stay w i 1
  unfolding stay
  one = let z : i + 0 ≡ i = omega arith in rw (z, ← g) (by gone)
    where
      by : (u : Bool) → not u ≡ pick u false true
      by true = refl
      by false = refl

  pub stays_one : gone ≡ false → true ≡ stay w 0 (i + 1)
  stays_one h = stays_on w i 1 e (not gone) one (rw h refl)

  pub stays_not_one : (m : ℕ) → i + 1 ≤ m → gone ≡ true → false ≡ stay w 0 m
  stays_not_one m l h = stays_not w i 1 e (not gone) one m l (rw h refl)

-- ---- up to a blank
lacks_stay : (w : List ℕ) (at n : ℕ) → lacks (eqb blank) w at n ≡ true → true ≡ stay w at n
unfolding stay
lacks_stay w at zero h = refl
lacks_stay w at (suc n) h =
    let l = last_of (eqb blank) w at n h in
    rw (ne_eqb (get_or w (at + n) 0) blank (no_byte blank _ l.last), and_false (eqb (get_or w (at + n + 1) 0) blank)) (lacks_stay w at n l.before)

module _ (w : List ℕ) (i j : ℕ) (e : true ≡ stay w 0 i) (a : NextBlank w i j) where
  to_blank : true ≡ stay w 0 j
  to_blank =
      let z : i + (j - i) ≡ j = omega (arith, a.before.from) in
      rw z at (stays_on w i (j - i) e true (lacks_stay w i (j - i) a.before.clean) refl)

  pub to_end : j ≡ length w → true ≡ stay w 0 (length w)
  to_end h = rw h at to_blank

  module _ (l : j ≡ length w → ⊥) {b : Bool} (s : b ≡ eqb (get_or w (j + 1) 0) blank) where
    pub past_blank : b ≡ false → true ≡ stay w 0 (j + 1)
    past_blank n = stays_one w j to_blank _ refl (rw (sym s ∙ n))

    pub two_blanks : b ≡ true → false ≡ stay w 0 (length w)
    two_blanks t =
        let h : j < length w = omega (arith, a.inside, l) in
        stays_not_one w j to_blank _ refl (length w) (omega arith) (rw (sym s ∙ t, eq-eqb (get_or w j 0) blank (a.here h)))

pub stay_end : (w : List ℕ) (i : ℕ) → true ≡ stay w 0 i → i ≤ length w → length w ≤ i → true ≡ stay w 0 (length w)
stay_end w i e h l = let k : i ≡ length w = omega arith in rw k at e

-- past the end stands no blank
pub none_after : (w : List ℕ) (i : ℕ) → length w ≤ i → false ≡ eqb (get_or w i 0) blank
none_after w i h = rw (get_or-eq_default w 0 h)

-- ---- the whole
-- so far they stay
record Singles (w : List ℕ) (i prev : ℕ) : Type 0 where
  is : take i w ++ retain prev (drop i w) ≡ retain 0 w

turn : (w : List ℕ) (i prev b : ℕ) {gone : Bool} → i < length w → b ≡ get_or w i 0 → gone ≡ (eqb b blank && eqb prev blank) → gone ≡ false → Singles w i prev → Singles w (i + 1) b
turn w i prev b {gone} h eb eg n s =
    let t : take (i + 1) w ≡ take i w ++ (b ∷ []) = rw (add-one i, eb) (take-suc w i 0 h) in
    let r : retain prev (drop i w) ≡ (b ∷ []) ++ retain b (drop (i + 1) w) = retain_stays w i prev b gone h eb eg (rw n refl) in
    record { is = ap (λ (x : List ℕ). x ++ retain b (drop (i + 1) w)) t ∙ append_assoc (take i w) (b ∷ []) (retain b (drop (i + 1) w)) ∙ ap (λ (x : List ℕ). take i w ++ x) (sym r) ∙ s.is }

ends : {w : List ℕ} {i prev : ℕ} → length w ≤ i → Singles w i prev → retain 0 w ≡ w
ends {w} {i} {prev} h s = sym s.is ∙ ap (λ (x : List ℕ). take i w ++ x) (retain_none w i prev h) ∙ append-nil (take i w) ∙ take_all i w h

first_stays : (t : Bool) → false ≡ (t && eqb 0 blank)
first_stays true = refl
first_stays false = refl

singles : (w : List ℕ) (n : ℕ) → n < length w → stay w 0 n ≡ true → Singles w (n + 1) (get_or w n 0)
unfolding stay
singles w zero h e = turn w 0 0 (get_or w 0 0) h refl (first_stays (eqb (get_or w 0 0) blank)) refl (record { is = refl })
singles w (suc n) h e = by (λ q. singles w n (omega arith) q) (eqb (get_or w (n + 1) 0) blank && eqb (get_or w n 0) blank) refl (let z : 0 + n ≡ n = omega arith in rw z at e)
  where
    by : (stay w 0 n ≡ true → Singles w (n + 1) (get_or w n 0)) → (t : Bool) → t ≡ (eqb (get_or w (n + 1) 0) blank && eqb (get_or w n 0) blank) → pick t false (stay w 0 n) ≡ true → Singles w (suc n + 1) (get_or w (suc n) 0)
    by ih true p m = no_truth m
    by ih false p m = let z : n + 1 ≡ suc n = omega arith in rw z at (turn w (n + 1) (get_or w n 0) (get_or w (n + 1) 0) (omega arith) refl p refl (ih m))

pub single_whole : (w : List ℕ) → stay w 0 (length w) ≡ true → retain 0 w ≡ w
single_whole w e = by_order 1 (length w) (λ h. ends (omega arith) (singles w (length w - 1) (omega arith) (before h))) (λ h. ends {i = 0} {prev = 0} (omega arith) (record { is = refl }))
  where
    both : (t u : Bool) → pick t u false ≡ true → u ≡ true
    both true u q = q
    both false u q = no_truth q

    before : 1 ≤ length w → stay w 0 (length w - 1) ≡ true
    before h =
        let z : length w - 1 + 1 ≡ length w = omega arith in
        both (stay w (length w - 1) 1) (stay w 0 (length w - 1)) (sym (from_start w (length w - 1) 1) ∙ rw z e)

pub put_single : {w o₀ o : List ℕ} {at r : ℕ} {b : Bool} → b ≡ stay w 0 (length w) → b ≡ true → Put w o₀ at o r → Put (retain 0 w) o₀ at o r
put_single {w} h e p = rw (single_whole w (sym h ∙ e)) p
