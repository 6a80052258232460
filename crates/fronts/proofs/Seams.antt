-- Names whose fronts are compared byte by byte.
use Prim.Native.Nat.{ℕ, zero, suc, ◌+◌, ◌-◌, ◌*◌, ◌≤◌, ◌<◌}
use mathlib.Core.Path.{◌≡◌, refl, sym, ap, ◌∙◌}
use mathlib.Core.Bool.{false}
use mathlib.Core.List.{List, [], ◌∷◌, ◌++◌, append_assoc}
use native.Mathlib.Numerals.{add-one}
use native.Mathlib.Omega.{arith}
use lib.ListN.{get_or-eq_default, length, get_or, take, drop, take-append-drop, length-drop}
use lib.Seq.{take-suc, take-take, drop-drop, get_or-drop}
use Rattle.rules.specs.Utf8.{later}
use Rattle.rules.specs.Unicode.{same_name}
use Rattle.rules.proofs.Basics.{within_high, by_order}
use Rattle.rules.proofs.Begins.{later_ascii}
use Rattle.utf8.proofs.Firsts.{part_rest}
use Rattle.content.specs.Contents.{kept_in}
use Rattle.content.specs.Parts.{Opens}
use Rattle.content.proofs.Seams.{names_join}
use Rattle.fronts.specs.Seams.{same_at, WordAt, Common, Seam}
use Rattle.fronts.specs.Plain.{SameLetter}
use Rattle.fronts.proofs.Plain.{letter_on}

-- ---- the common front

pub common_none : {a b : List ℕ} → Common a b 0
common_none = record { left = omega arith; right = omega arith; same = refl }

pub common_one : {a b : List ℕ} {i : ℕ} → Common a b i → i < length a → i < length b → get_or a i 0 ≡ get_or b i 0 → Common a b (i + 1)
common_one {a} {b} {i} v h g e = record { left = omega arith; right = omega arith; same = rw (add-one, take-suc a i 0 h, take-suc b i 0 g, v.same, e) }

pub word_read : (s : List ℕ) (i : ℕ) {x y z w : ℕ} → x ≡ get_or s i 0 → y ≡ get_or s (i + 1) 0 → z ≡ get_or s (i + 2) 0 → w ≡ get_or s (i + 3) 0
    → ((k : ℕ) → get_or s k 0 < 256) → WordAt s i ((x + y * 256) + (z + w * 256) * 65536)
word_read s i e f g h b = record { is = rw (e, f, g, h); byte0 = b i; byte1 = b (i + 1); byte2 = b (i + 2); byte3 = b (i + 3) }

-- digits are told by their sum
record Digits (u p v q : ℕ) : Type 0 where
  low : u ≡ v
  high : p ≡ q

digits_by : {u p v q : ℕ} → (p < q → ⊥) → (q < p → ⊥) → (p ≡ q → u ≡ v) → Digits u p v q
digits_by {u} {p} {v} {q} n m f =
    by_order p q (λ h. by_order q p (λ g. let e : p ≡ q = omega arith in record { low = f e; high = e }) (λ g. absurd (n g))) (λ h. absurd (m h))

digits_256 : {u p v q : ℕ} → u < 256 → v < 256 → u + p * 256 ≡ v + q * 256 → Digits u p v q
digits_256 h g e = digits_by (λ l. omega arith) (λ l. omega arith) (λ z. omega arith)

digits_65536 : {u p v q : ℕ} → u < 65536 → v < 65536 → u + p * 65536 ≡ v + q * 65536 → Digits u p v q
digits_65536 h g e = digits_by (λ l. omega arith) (λ l. omega arith) (λ z. omega arith)

pub common_four : {a b : List ℕ} {i x y : ℕ} → Common a b i → i + 4 ≤ length a → i + 4 ≤ length b → WordAt a i x → WordAt b i y → x ≡ y → Common a b (i + 4)
common_four {a} {b} {i} {x} {y} v h g p q e =
    let d = digits_65536 (omega (arith, p.byte0, p.byte1)) (omega (arith, q.byte0, q.byte1)) (sym p.is ∙ e ∙ q.is) in
    let l = digits_256 p.byte0 q.byte0 d.low in
    let u = digits_256 p.byte2 q.byte2 d.high in
    let c1 : Common a b (i + 1) = common_one v (omega arith) (omega arith) l.low in
    let c2 : Common a b (i + 2) = common_next 1 c1 (omega arith) (omega arith) l.high in
    let c3 : Common a b (i + 3) = common_next 2 c2 (omega arith) (omega arith) u.low in
    common_next 3 c3 (omega arith) (omega arith) u.high
  where
    common_next : (k : ℕ) → Common a b (i + k) → i + k < length a → i + k < length b → get_or a (i + k) 0 ≡ get_or b (i + k) 0 → Common a b (i + suc k)
    common_next k c l m z = let w : i + suc k ≡ (i + k) + 1 = omega arith in rw w (common_one c l m z)

pub common_less : {a b : List ℕ} {i n : ℕ} → n ≤ i → Common a b i → Common a b n
common_less {a} {b} {i} {n} h v =
    record {
      left = omega (arith, v.left);
      right = omega (arith, v.right);
      same = sym (take-take n i a h) ∙ ap (take n) v.same ∙ take-take n i b h;
    }

pub common_back : {a b : List ℕ} {i : ℕ} → Common a b i → Common a b (i - 1)
common_back v = common_less (omega arith) v

-- ---- the ways of `opens`

pub later_high : (c : ℕ) → 191 < c → later c ≡ false
unfolding later
later_high c h = within_high 128 191 c h

module _ (s : List ℕ) (i : ℕ) where
  first_at : get_or (drop i s) 0 0 ≡ get_or s i 0
  first_at = get_or-drop i s 0 0 ∙ (let z : i + 0 ≡ i = omega arith in rw z)

  opens_by : later (get_or s i 0) ≡ false → (get_or s i 0 ≡ 32 → ⊥) → Opens (drop i s)
  opens_by e n = record { starts = rw first_at e; solid = λ q. n (sym first_at ∙ q) }

  pub opens_end : length s ≤ i → Opens (drop i s)
  opens_end h = let z = get_or-eq_default s 0 h in opens_by (rw z (later_ascii 0 (omega arith))) (λ q. omega (arith, z))

  pub opens_low : get_or s i 0 < 128 → (get_or s i 0 ≡ 32 → ⊥) → Opens (drop i s)
  opens_low h n = opens_by (later_ascii (get_or s i 0) h) n

  pub opens_high : 191 < get_or s i 0 → Opens (drop i s)
  opens_high h = opens_by (later_high (get_or s i 0) h) (λ q. omega arith)

-- ---- seams

pub seam_none : (a b : List ℕ) → Seam a b 0
unfolding same_at
seam_none a b = record { left = omega arith; right = omega arith; is = refl }

module _ (a b : List ℕ) (m : ℕ) (v : Common a b (suc m)) where
  front : take (suc m) a ≡ take m a ++ (get_or a m 0 ∷ [])
  front = take-suc a m 0 v.left

  joined : (r : List ℕ) → take (suc m) a ++ r ≡ take m a ++ (get_or a m 0 ∷ r)
  joined r = rw (front, append_assoc)

  whole_left : a ≡ take m a ++ (get_or a m 0 ∷ drop (suc m) a)
  whole_left = sym (take-append-drop (suc m) a) ∙ joined (drop (suc m) a)

  whole_right : b ≡ take m a ++ (get_or a m 0 ∷ drop (suc m) b)
  whole_right = sym (take-append-drop (suc m) b) ∙ ap (λ (x : List ℕ). x ++ drop (suc m) b) (sym v.same) ∙ joined (drop (suc m) b)

  seam_after : (get_or a m 0 ≡ 92 → ⊥) → Opens (drop (suc m) a) → Opens (drop (suc m) b) → Seam a b (suc m)
  unfolding same_at
  seam_after n o q =
      record {
        left = v.left;
        right = v.right;
        is = sym (ap (λ (x : List ℕ). same_name (kept_in x) (kept_in b)) whole_left ∙ ap (λ (x : List ℕ). same_name (kept_in (take m a ++ (get_or a m 0 ∷ drop (suc m) a))) (kept_in x)) whole_right ∙ names_join (take m a) (get_or a m 0) (drop (suc m) a) (drop (suc m) b) n o q);
      }

pub seam_at : (a b : List ℕ) (i : ℕ) → 0 < i → Common a b i → (get_or a (i - 1) 0 ≡ 92 → ⊥) → Opens (drop i a) → Opens (drop i b) → Seam a b i
seam_at a b zero h v n o q = absurd (omega arith)
seam_at a b (suc m) h v n o q = let z : suc m - 1 ≡ m = omega arith in seam_after a b m v (rw z at n) o q

pub seam_letter : {a b : List ℕ} {i : ℕ} → Seam a b i → i < length a → i < length b → SameLetter (get_or a i 0) (get_or b i 0) → Seam a b (i + 1)
seam_letter {a} {b} {i} v h g e = record { left = omega arith; right = omega arith; is = letter_on a b i i h g e ∙ v.is }

-- ---- a seam of the rests

-- the names from i and j on have the same answer as the names
pub record Facing (a b : List ℕ) (i j : ℕ) : Type 0 where
  pub left : i ≤ length a
  pub right : j ≤ length b
  pub is : same_at a i b j ≡ same_name (kept_in a) (kept_in b)

module _ {a b : List ℕ} {i j : ℕ} (v : Facing a b i j) where
  pub facing_seam : {n : ℕ} → Seam (take (length a - i) (drop i a)) (take (length b - j) (drop j b)) n → Facing a b (i + n) (j + n)
  unfolding same_at
  facing_seam {n} s =
      let w : Seam (drop i a) (drop j b) n = rw (part_rest a i, part_rest b j) at s in
      record {
        left = omega (arith, w.left, length-drop i a, v.left);
        right = omega (arith, w.right, length-drop j b, v.right);
        is = (rw (drop-drop n i a, drop-drop n j b) at w.is) ∙ v.is;
      }

pub seam_on : {a b : List ℕ} {k n : ℕ} → Seam a b k → Seam (take (length a - k) (drop k a)) (take (length b - k) (drop k b)) n → Seam a b (k + n)
seam_on {a} {b} {k} v s =
    let f : Facing a b k k = record { left = v.left; right = v.right; is = v.is } in
    let w = facing_seam f s in
    record { left = w.left; right = w.right; is = w.is }
