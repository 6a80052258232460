-- Bytes that tell a name's character by themselves.
use Prim.Native.Nat.{ℕ, ◌+◌, ◌/◌, ◌%◌, ◌≤◌, ◌<◌}
use mathlib.Core.Path.{◌≡◌, refl, sym, ap, ◌∙◌}
use mathlib.Core.Bool.{Bool, true, false, ◌||◌}
use mathlib.Core.List.{List, [], ◌∷◌}
use native.Mathlib.Omega.{arith}
use borrow.Author.Tests.{eq-eqb, ne_eqb, lt-ltb}
use lib.ListN.{length, get_or, drop}
use Rattle.rules.specs.Basic.{pick, within, eq_list}
use Rattle.rules.specs.Unicode.{fold, fold_name, same_name}
use Rattle.rules.proofs.Basics.{within_yes, within_high, within_from, within_to, by_order}
use Rattle.content.specs.Contents.{kept_in}
use Rattle.content.specs.Readings.{plain_byte}
use Rattle.content.proofs.Kept.{kept_ascii}
use Rattle.content.proofs.Compare.{plain}
use Rattle.letters.proofs.Ascii.{ascii_fold_lem}
use Rattle.fronts.specs.Plain.{lowered, SameLetter}
use Rattle.fronts.specs.Seams.{same_at}

-- ---- a byte that is a character of the content, whatever stands before it, and is kept

pub record Stands (s : List ℕ) (i : ℕ) : Type 0 where
  pub below : get_or s i 0 < 128
  pub reads : kept_in (drop i s) ≡ get_or s i 0 ∷ kept_in (drop (i + 1) s)

module _ (s : List ℕ) (i : ℕ) (h : i < length s) where
  pub plain_stands : plain_byte (get_or s i 0) ≡ true → Stands s i
  plain_stands t = let p = plain (get_or s i 0) t in record { below = p.low; reads = (kept_ascii s i h refl p.low p.bare p.solid).reads }

pub fold_stands : {s : List ℕ} {i : ℕ} → Stands s i → (l : ℕ) → l ∷ [] ≡ fold (get_or s i 0) → fold_name (kept_in (drop i s)) ≡ l ∷ fold_name (kept_in (drop (i + 1) s))
unfolding fold_name
fold_stands p l e = ap fold_name p.reads ∙ rw (← e)

-- the two cases of a letter are 32 apart
pub case_apart : (c : ℕ) → lowered c % 32 ≡ c % 32
case_apart c = go (within 65 90 c)
  where
    go : (upper : Bool) → pick upper (c + 32) c % 32 ≡ c % 32
    go true = omega arith
    go false = refl

pub parted : (a b : List ℕ) (i j : ℕ) → i < length a → j < length b → (get_or a i 0 % 32 ≡ get_or b j 0 % 32 → ⊥) → plain_byte (get_or a i 0) ≡ true → plain_byte (get_or b j 0) ≡ true → same_at a i b j ≡ false
unfolding same_at same_name eq_list
parted a b i j h g n x y =
    let p = plain_stands a i h x in
    let q = plain_stands b j g y in
    let f = ascii_fold_lem (get_or a i 0) p.below in
    let k = ascii_fold_lem (get_or b j 0) q.below in
    rw (fold_stands p _ f, fold_stands q _ k, ne_eqb _ _ (λ e. n (sym (case_apart (get_or a i 0)) ∙ (ap (λ (z : ℕ). z % 32) e ∙ case_apart (get_or b j 0)))))

-- ---- the two cases of a letter

module _ (c : ℕ) where
  letter_plain : 65 ≤ c → c ≤ 122 → (c ≡ 92 → ⊥) → plain_byte c ≡ true
  unfolding plain_byte
  letter_plain h g n = rw (lt-ltb c 128 (omega arith), ne_eqb c 92 n, ne_eqb c 32 (λ e. omega arith))

  upper_plain : 65 ≤ c → c ≤ 90 → plain_byte c ≡ true
  upper_plain h g = letter_plain h (omega arith) (λ e. omega arith)

  lower_plain : 97 ≤ c → c ≤ 122 → plain_byte c ≡ true
  lower_plain h g = letter_plain (omega arith) g (λ e. omega arith)

  upper_lowered : 65 ≤ c → c ≤ 90 → lowered c ≡ c + 32
  upper_lowered h g = rw (within_yes 65 90 c h g)

  lower_lowered : 97 ≤ c → lowered c ≡ c
  lower_lowered h = rw (within_high 65 90 c (omega arith))

module _ (x y : ℕ) (e : x % 32 ≡ y % 32) (f : x / 64 ≡ y / 64) where
  letter_upper : 65 ≤ x → x ≤ 90 → SameLetter x y
  letter_upper h g =
      by_order y 90
      (λ l. record { left = upper_plain x h g; right = upper_plain y (omega arith) l; is = ap lowered (let z : x ≡ y = omega arith in z) })
      (λ l. record { left = upper_plain x h g; right = lower_plain y (omega arith) (omega arith); is = upper_lowered x h g ∙ sym (lower_lowered y (omega arith) ∙ omega arith) })

  letter_lower : 97 ≤ x → x ≤ 122 → SameLetter x y
  letter_lower h g =
      by_order y 90
      (λ l. record { left = lower_plain x h g; right = upper_plain y (omega arith) l; is = lower_lowered x h ∙ sym (upper_lowered y (omega arith) l ∙ omega arith) })
      (λ l. record { left = lower_plain x h g; right = lower_plain y (omega arith) (omega arith); is = ap lowered (let z : x ≡ y = omega arith in z) })

  pub same_letter : {r : Bool} → r ≡ (within 65 90 x || within 97 122 x) → r ≡ true → SameLetter x y
  same_letter {r} p q = go (within 65 90 x) refl
    where
      go : (u : Bool) → within 65 90 x ≡ u → SameLetter x y
      go true t = letter_upper (within_from 65 90 x t) (within_to 65 90 x t)
      go false t = let w : within 97 122 x ≡ true = (let k : r ≡ within 97 122 x = rw t at p in sym k ∙ q) in letter_lower (within_from 97 122 x w) (within_to 97 122 x w)

pub letter_on : (a b : List ℕ) (i j : ℕ) → i < length a → j < length b → SameLetter (get_or a i 0) (get_or b j 0) → same_at a (i + 1) b (j + 1) ≡ same_at a i b j
unfolding same_at same_name eq_list
letter_on a b i j h g v =
    let p = plain_stands a i h v.left in
    let q = plain_stands b j g v.right in
    rw (fold_stands p _ (ascii_fold_lem (get_or a i 0) p.below), fold_stands q _ (ascii_fold_lem (get_or b j 0) q.below), eq-eqb _ _ v.is)
