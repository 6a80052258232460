-- Names that end with a plain byte.
use Prim.Native.Nat.{ℕ, suc, ◌+◌, ◌-◌, ◌%◌, ◌≤◌, ◌<◌}
use mathlib.Core.Path.{◌≡◌, refl, sym, ap, ◌∙◌}
use mathlib.Core.Bool.{Bool, true, false}
use mathlib.Core.List.{List, [], ◌∷◌, ◌++◌}
use native.Mathlib.Omega.{arith}
use lib.ListN.{length, get_or, take, drop_of_length-le}
use lib.Seq.{split_at, drop-cons}
use Rattle.rules.specs.Basic.{eq_list}
use Rattle.rules.specs.Unicode.{fold_name, same_name}
use Rattle.rules.proofs.Begins.{later_ascii}
use Rattle.rules.proofs.Folds.{fold_name_append}
use Rattle.rules.proofs.SameChars.{eq_true}
use Rattle.content.specs.Contents.{kept_in}
use Rattle.content.specs.Readings.{plain_byte}
use Rattle.content.specs.Parts.{Opens}
use Rattle.content.proofs.Compare.{plain}
use Rattle.content.proofs.Kept.{kept_none}
use Rattle.content.proofs.Seams.{kept_join}
use Rattle.letters.proofs.Ascii.{ascii_fold_lem}
use Rattle.fronts.specs.Plain.{lowered}
use Rattle.fronts.proofs.Plain.{plain_stands, case_apart}

-- the last of a list
abbrev final : ℕ → List ℕ → ℕ
final d [] = d
final d (x ∷ xs) = final x xs

final_is : (d : ℕ) (xs : List ℕ) (l : ℕ) → final d (xs ++ (l ∷ [])) ≡ l
final_is d [] l = refl
final_is d (x ∷ xs) l = final_is x xs l

-- the kept content ends with the byte c
pub record Closes (s : List ℕ) (c : ℕ) : Type 0 where
  pub front : List ℕ
  pub below : c < 128
  pub is : kept_in s ≡ front ++ (c ∷ [])

plain_alone : (x : ℕ) → plain_byte x ≡ true → kept_in (x ∷ []) ≡ x ∷ []
plain_alone x t = (plain_stands (x ∷ []) 0 (omega arith) t).reads ∙ rw (kept_none (x ∷ []) 1 (omega arith))

closes_two : (p : List ℕ) (b x : ℕ) → (b ≡ 92 → ⊥) → plain_byte x ≡ true → Closes (p ++ (b ∷ x ∷ [])) x
closes_two p b x n t =
    let l = (plain_stands (x ∷ []) 0 (omega arith) t).below in
    let o : Opens (x ∷ []) = record { starts = later_ascii x l; solid = (plain x t).solid } in
    record { front = kept_in (p ++ (b ∷ [])); below = l; is = kept_join p b n (x ∷ []) o ∙ rw (plain_alone x t) }

pub closes : (s : List ℕ) → 2 ≤ length s → (get_or s (length s - 2) 0 ≡ 92 → ⊥) → plain_byte (get_or s (length s - 1) 0) ≡ true → Closes s (get_or s (length s - 1) 0)
closes s h n t =
    let z : length s - 1 ≡ suc (length s - 2) = omega arith in
    let l : suc (length s - 2) < length s = omega arith in
    let m : length s ≤ suc (suc (length s - 2)) = omega arith in
    let e : s ≡ take (length s - 2) s ++ (get_or s (length s - 2) 0 ∷ get_or s (suc (length s - 2)) 0 ∷ []) = split_at s (length s - 2) 0 (omega arith) ∙ rw (drop-cons s (suc (length s - 2)) 0 l, drop_of_length-le s m) in
    let k : Closes (take (length s - 2) s ++ (get_or s (length s - 2) 0 ∷ get_or s (suc (length s - 2)) 0 ∷ [])) (get_or s (suc (length s - 2)) 0) = closes_two (take (length s - 2) s) (get_or s (length s - 2) 0) (get_or s (suc (length s - 2)) 0) n (rw z at t) in
    rw z (rw (sym e) at k)

fold_closes : {s : List ℕ} {c : ℕ} (k : Closes s c) → fold_name (kept_in s) ≡ fold_name k.front ++ (lowered c ∷ [])
unfolding fold_name
fold_closes {s} {c} k = ap fold_name k.is ∙ fold_name_append k.front (c ∷ []) ∙ rw (← ascii_fold_lem c k.below)

pub parted_last : {a b : List ℕ} {x y : ℕ} → Closes a x → Closes b y → (x % 32 ≡ y % 32 → ⊥) → same_name (kept_in a) (kept_in b) ≡ false
unfolding same_name
parted_last {a} {b} {x} {y} p q n = go (eq_list (fold_name (kept_in a)) (fold_name (kept_in b))) refl
  where
    apart : fold_name (kept_in a) ≡ fold_name (kept_in b) → lowered x ≡ lowered y
    apart e = sym (final_is 0 (fold_name p.front) _) ∙ ap (final 0) (sym (fold_closes p) ∙ e ∙ fold_closes q) ∙ final_is 0 (fold_name q.front) _

    go : (t : Bool) → eq_list (fold_name (kept_in a)) (fold_name (kept_in b)) ≡ t → t ≡ false
    go true e = absurd (n (sym (case_apart x) ∙ (ap (λ (z : ℕ). z % 32) (apart (eq_true _ _ e)) ∙ case_apart y)))
    go false e = refl
