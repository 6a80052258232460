-- Runs of bytes that need no escape, and a text that is copied byte by byte.
use Prim.Native.Nat.{ℕ, ◌+◌, ◌-◌, ◌≤◌, ◌<◌}
use mathlib.Core.Path.{◌≡◌, refl, ap, sym, ◌∙◌}
use mathlib.Core.Bool.{Bool, true, false, not, ◌&&◌}
use mathlib.Core.List.{List, [], ◌∷◌, ◌++◌, append-nil}
use native.Mathlib.Numerals.{add-one, unary_clauses}
use native.Mathlib.Omega.{arith}
use borrow.Author.Tests.{ltb-true, lt-ltb, ne_eqb, not-true, not-false, le-leb, lt-leb}
use lib.Dec.{eqb, leb, ltb}
use lib.ListN.{length, get_or, take, drop, set, take-append-drop, drop_of_length-le, length-set}
use Rattle.std.proofs.lemmas.List.{length-take-le, length-drop, take-take}
use lib.Seq.{drop-cons, drop-drop, take-add, take-suc, take_all}
use Rattle.rules.specs.Sheet.{escape_char, escape}
use Rattle.rules.proofs.Basics.{and_left, and_right, and_both, by_order, and_assoc, and_true}
use Rattle.output.specs.Put.{Put}
use Rattle.output.specs.Runs.{is_plain, is_copied, all_of, PlainTo}
use Rattle.output.proofs.Puts.{put_seq, one_in, put_none}

-- ---- all bytes asked
module _ (is : ℕ → Bool) (f : List ℕ) (i : ℕ) where
  pub all_turn : (p : Bool) {r b : Bool} → (p && all_of is (drop i f)) ≡ b → i < length f → r ≡ is (get_or f i 0) → ((p && r) && all_of is (drop (i + 1) f)) ≡ b
  unfolding all_of
  all_turn p {r} e h q = and_assoc p r (all_of is (drop (i + 1) f)) ∙ rw (q, add-one) (rw (drop-cons f i 0 h) at e)

  pub all_end : {p b : Bool} → (p && all_of is (drop i f)) ≡ b → length f ≤ i → p ≡ b
  unfolding all_of
  all_end {p} e h = sym (and_true p) ∙ (rw (drop_of_length-le f h) at e)

all_join : (is : ℕ → Bool) (xs ys : List ℕ) → all_of is xs ≡ true → all_of is ys ≡ true → all_of is (xs ++ ys) ≡ true
unfolding all_of
all_join is [] ys p q = q
all_join is (c ∷ xs) ys p q =
    and_both (is c) (all_of is (xs ++ ys)) (and_left (is c) (all_of is xs) p) (all_join is xs ys (and_right (is c) (all_of is xs) p) q)

-- ---- such bytes stand for themselves
copied_char : (c : ℕ) → is_copied c ≡ true → escape_char c ≡ c ∷ []
unfolding is_copied escape_char
copied_char c e =
    let p : (ltb 10 c && not (eqb c 13)) ≡ true = and_left (ltb 10 c && not (eqb c 13)) (not (eqb c 92)) e in
    let l : 10 < c = ltb-true 10 c (and_left (ltb 10 c) (not (eqb c 13)) p) in
    let r : eqb c 13 ≡ false = not-true (eqb c 13) (and_right (ltb 10 c) (not (eqb c 13)) p) in
    let b : eqb c 92 ≡ false = not-true (eqb c 92) (and_right (ltb 10 c && not (eqb c 13)) (not (eqb c 92)) e) in
    rw (b, ne_eqb c 9 (λ q. omega arith), ne_eqb c 10 (λ q. omega arith), r)

copied_front : (xs t : List ℕ) → all_of is_copied xs ≡ true → escape (xs ++ t) ≡ xs ++ escape t
unfolding all_of escape
copied_front [] t e = refl
copied_front (c ∷ xs) t e =
    rw (copied_char c (and_left (is_copied c) (all_of is_copied xs) e), copied_front xs t (and_right (is_copied c) (all_of is_copied xs) e))

-- what a glance tells
plain_copied : (c : ℕ) → is_plain c ≡ true → is_copied c ≡ true
unfolding is_plain is_copied
plain_copied c e =
    let l : 13 < c = ltb-true 13 c (and_left (ltb 13 c) (not (eqb c 92)) e) in
    let m : ltb 10 c ≡ true = lt-ltb 10 c (omega arith) in
    rw (m, ne_eqb c 13 (λ q. omega arith)) (and_right (ltb 13 c) (not (eqb c 92)) e)

pub plain_char : (c : ℕ) → is_plain c ≡ true → escape_char c ≡ c ∷ []
plain_char c e = copied_char c (plain_copied c e)

all_plain_copied : (f : List ℕ) → all_of is_plain f ≡ true → all_of is_copied f ≡ true
unfolding all_of
all_plain_copied [] e = refl
all_plain_copied (c ∷ f) e =
    and_both (is_copied c) (all_of is_copied f) (plain_copied c (and_left (is_plain c) (all_of is_plain f) e))
    (all_plain_copied f (and_right (is_plain c) (all_of is_plain f) e))

-- ---- a run grows
pub run_none : (f : List ℕ) (at : ℕ) → at ≤ length f → PlainTo f at at
unfolding all_of
run_none f at h =
    let k : at - at ≡ 0 = omega arith in
    record { from = omega arith; upto = h; is = rw k }

run_more : {f : List ℕ} {at i : ℕ} (e : ℕ) → PlainTo f at i → i ≤ e → e ≤ length f → all_of is_copied (take (e - i) (drop i f)) ≡ true
    → PlainTo f at e
run_more {f} {at} {i} e p l h q =
    let a : at ≤ i = p.from in
    let k : e - at ≡ (i - at) + (e - i) = omega arith in
    let t : at + (i - at) ≡ i = omega arith in
    record {
      from = omega arith;
      upto = h;
      is = rw (k, take-add (i - at) (e - i) (drop at f), drop-drop (i - at) at f, t) (all_join is_copied (take (i - at) (drop at f)) (take (e - i) (drop i f)) p.is q);
    }

pub run_join : {f : List ℕ} {at i e : ℕ} → PlainTo f at i → PlainTo f i e → PlainTo f at e
run_join {f} {at} {i} {e} p q = run_more e p q.from q.upto q.is

module _ {f : List ℕ} {at i : ℕ} {r : Bool} where
  pub run_piece : (e : ℕ) → PlainTo f at i → i ≤ e → e ≤ length f → r ≡ all_of is_plain (take (e - i) (drop i f)) → not r ≡ false → PlainTo f at e
  run_piece e p l h q y = run_more e p l h (all_plain_copied (take (e - i) (drop i f)) (sym q ∙ not-false r y))

  pub run_byte : PlainTo f at i → i < length f → r ≡ is_copied (get_or f i 0) → not r ≡ false → PlainTo f at (i + 1)
  unfolding all_of
  run_byte p h q y =
      let k : i + 1 - i ≡ 1 = omega arith in
      let b : take (i + 1 - i) (drop i f) ≡ get_or f i 0 ∷ [] = rw (k, drop-cons f i 0 h) in
      run_more (i + 1) p (omega arith) (omega arith) (rw b (and_both (is_copied (get_or f i 0)) true (sym q ∙ not-false r y) refl))

-- a run up to the field's end
pub run_whole : {f : List ℕ} {at i : ℕ} → PlainTo f at i → length f ≤ i → PlainTo f at (length f)
run_whole {f} {at} {i} p h =
    let u : i ≤ length f = p.upto in
    let e : i ≡ length f = omega arith in
    rw e at p

-- ---- the first byte that needs an escape is at k, of j bytes that were asked, or none is
pub first_none : all_of is_copied [] ≡ true
unfolding all_of
first_none = refl

module _ (w : List ℕ) (j k : ℕ) where
  asked_all : j < k → j ≤ length w → all_of is_copied (take k (take j w)) ≡ true → all_of is_copied (take j w) ≡ true
  asked_all l h e =
      let n : length (take j w) ≤ k = rw (length-take-le j w h) (omega arith) in
      rw (take_all k (take j w) n) at e

  pub first_on : all_of is_copied (take k (take j w)) ≡ true → j < length w → is_copied (get_or w j 0) ≡ true → all_of is_copied (take k (take (j + 1) w)) ≡ true
  unfolding all_of
  first_on e h q =
      by_order k j
      (λ l. let m : k ≤ j + 1 = omega arith in rw (take-take k (j + 1) w m) (rw (take-take k j w l) at e))
      (λ l.
      let n : length (take (j + 1) w) ≤ k = rw (length-take-le (j + 1) w (omega arith)) (omega arith) in
      let t : take (j + 1) w ≡ take j w ++ (get_or w j 0 ∷ []) = rw (add-one, take-suc w j 0 h) in
      rw (take_all k (take (j + 1) w) n, t) (all_join is_copied (take j w) (get_or w j 0 ∷ []) (asked_all l (omega arith) e) (and_both (is_copied (get_or w j 0)) true q refl)))

  pub first_here : all_of is_copied (take k (take j w)) ≡ true → j < length w → j < k → all_of is_copied (take j (take (j + 1) w)) ≡ true
  first_here e h l = let m : j ≤ j + 1 = omega arith in rw (take-take j (j + 1) w m) (asked_all l (omega arith) e)

  pub first_before : all_of is_copied (take k (take j w)) ≡ true → k ≤ j → all_of is_copied (take k (take (j + 1) w)) ≡ true
  first_before e l = let m : k ≤ j + 1 = omega arith in rw (take-take k (j + 1) w m) (rw (take-take k j w l) at e)

  pub first_of : all_of is_copied (take k (take j w)) ≡ true → k ≤ length w → length w ≤ j → PlainTo w 0 k
  first_of e l h = record { from = omega arith; upto = l; is = simp unary_clauses (rw (take_all j w h) at e) }

-- ---- a run of a piece from i up to e
module _ (f : List ℕ) (i e : ℕ) where
  piece_upto : {k : ℕ} → PlainTo (take (e - i) (drop i f)) 0 k → i ≤ e → e ≤ length f → k ≤ e - i
  piece_upto q l h =
      let n : length (take (e - i) (drop i f)) ≡ e - i = rw (length-take-le (e - i) (drop i f) (rw length-drop (omega arith))) in
      rw n at q.upto

  pub run_within : {at k : ℕ} → PlainTo f at i → PlainTo (take (e - i) (drop i f)) 0 k → i ≤ e → e ≤ length f → PlainTo f at (i + k)
  run_within {at} {k} p q l h =
      let u : k ≤ e - i = piece_upto q l h in
      let d : i + k - i ≡ k = omega arith in
      run_more (i + k) p (omega arith) (omega arith) (rw d (rw (take-take k (e - i) (drop i f) u) at (simp unary_clauses at q.is)))

  pub run_through : {at k : ℕ} → PlainTo f at i → PlainTo (take (e - i) (drop i f)) 0 k → i ≤ e → e ≤ length f → e - i ≤ k → PlainTo f at e
  run_through {at} {k} p q l h m =
      let u : k ≤ e - i = piece_upto q l h in
      let d : i + k ≡ e = omega arith in
      rw d at (run_within p q l h)

-- ---- a field from i on is a run and the rest
module _ {f : List ℕ} {i e : ℕ} where
  pub run_cut : PlainTo f i e → escape (drop i f) ≡ take (e - i) (drop i f) ++ escape (drop e f)
  run_cut p =
      let l : i ≤ e = p.from in
      let t : i + (e - i) ≡ e = omega arith in
      ap escape (sym (take-append-drop (e - i) (drop i f))) ∙ copied_front (take (e - i) (drop i f)) (drop (e - i) (drop i f)) p.is ∙ rw (drop-drop (e - i) i f, t)

  pub run_last : PlainTo f i e → length f ≤ e → escape (drop i f) ≡ take (e - i) (drop i f)
  unfolding escape
  run_last p h = run_cut p ∙ rw (drop_of_length-le f h, append-nil)

-- ---- room
pub no_room : (n at k : ℕ) → n < at → false ≡ leb (at + k) n
no_room n at k h = let l : n < at + k = omega arith in sym (lt-leb _ _ l)

pub room_left : (n at k : ℕ) → at ≤ n → leb k (n - at) ≡ leb (at + k) n
room_left n at k h =
    by_order k (n - at)
    (λ l. let m : at + k ≤ n = omega arith in rw (le-leb _ _ l, le-leb _ _ m))
    (λ l. let m : n < at + k = omega arith in rw (lt-leb _ _ l, lt-leb _ _ m))

-- ---- a text copied to a place where there is room for it: i bytes are there
pub record Copied (w o₀ : List ℕ) (at : ℕ) (o : List ℕ) (i : ℕ) : Type 0 where
  pub upto : i ≤ length w
  pub long : length o ≡ length o₀
  pub put : Put (take i w) o₀ at o (at + i)

pub copy_start : {w o : List ℕ} {at : ℕ} → at + length w ≤ length o → Copied w o at o 0
copy_start {w} {o} {at} h = record { upto = omega arith; long = refl; put = put_none o at (omega arith) }

pub copy_turn : {w o₀ o : List ℕ} {at i : ℕ} → Copied w o₀ at o i → at + length w ≤ length o₀ → i < length w → Copied w o₀ at (set o (at + i) (get_or w i 0)) (i + 1)
copy_turn {w} {o₀} {o} {at} {i} z h l =
    let n : length o ≡ length o₀ = z.long in
    let k : at + (i + 1) ≡ at + i + 1 = omega arith in
    let t : take (i + 1) w ≡ take i w ++ (get_or w i 0 ∷ []) = rw (add-one, take-suc w i 0 l) in
    record {
      upto = omega arith;
      long = simp length-set n;
      put = rw (k, t) (put_seq z.put (one_in o (at + i) (get_or w i 0) (omega arith)));
    }

pub copy_end : {w o₀ o : List ℕ} {at i : ℕ} → Copied w o₀ at o i → length w ≤ i → Put w o₀ at o (at + length w)
copy_end {w} {o₀} {o} {at} {i} z h =
    let u : i ≤ length w = z.upto in
    let e : i ≡ length w = omega arith in
    rw (take_all i w h, e) at z.put
