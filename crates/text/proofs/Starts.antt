-- A place where a character starts, told by the bytes beside it: any bytes can be cut there.
use Prim.Native.Nat.{ℕ, zero, suc, pred, ◌+◌, ◌-◌, ◌≤◌, ◌<◌}
use mathlib.Core.Path.{◌≡◌, refl, sym, ap, ◌∙◌}
use mathlib.Core.Bool.{true, false}
use mathlib.Core.List.{List, [], ◌∷◌, ◌++◌, append-nil, append_assoc}
use Rattle.std.specs.Prelude.{Option, None, Some}
use native.Mathlib.Omega.{arith}
use lib.ListN.{length, get_or, take, drop, length-drop, take-append-drop}
use lib.Seq.{get_or-drop, take-take, take-add, drop-drop, drop_at, length-take-le}
use Rattle.rules.specs.Sheet.{escaped}
use Rattle.rules.specs.Utf8.{size_of, later, first_of, followers}
use Rattle.rules.proofs.Basics.{by_order, no_some, no_truth}
use Rattle.rules.proofs.Begins.{Begins, one, two, three, four, begins, second_later, size_1, size_2, size_3, size_4}
use Rattle.utf8.specs.Reading.{char_of}
use Rattle.content.specs.Contents.{content_in}
use Rattle.content.specs.Readings.{pair_in, char_in}
use Rattle.content.specs.Parts.{Cut, CutAt}
use Rattle.content.proofs.Chars.{char_plain, char_last, content_step}
use Rattle.content.proofs.Cuts.{cut_start, cut_step}
use Rattle.content.proofs.Plains.{by_backslash}
use Rattle.content.proofs.Spells.{field_right}
use Rattle.text.specs.Trims.{CharStarts}

-- ---- the bytes of one character after its first

wide_inside : {a : ℕ} {s : List ℕ} {c : ℕ} (k : ℕ) → Begins a s c → 0 < k → k ≤ pred (size_of a) → later (get_or (a ∷ s) k 0) ≡ true
wide_inside k (one {a} g) h l = absurd (let z = size_1 a g in omega arith)
wide_inside zero (two g i q) h l = absurd (omega arith)
wide_inside (suc zero) (two {a} {b} g i q) h l = second_later a b q
wide_inside (suc (suc k)) (two {a} g i q) h l = absurd (let z = size_2 a g i in omega arith)
wide_inside zero (three g i q m) h l = absurd (omega arith)
wide_inside (suc zero) (three {a} {b} g i q m) h l = second_later a b q
wide_inside (suc (suc zero)) (three g i q m) h l = m
wide_inside (suc (suc (suc k))) (three {a} g i q m) h l = absurd (let z = size_3 a g i in omega arith)
wide_inside zero (four g i q m n) h l = absurd (omega arith)
wide_inside (suc zero) (four {a} {b} g i q m n) h l = second_later a b q
wide_inside (suc (suc zero)) (four g i q m n) h l = m
wide_inside (suc (suc (suc zero))) (four g i q m n) h l = n
wide_inside (suc (suc (suc (suc k)))) (four {a} g i q m n) h l = absurd (let z = size_4 a g i in omega arith)

-- so where a character starts the first character of t does not go over it
wide_over : (a : ℕ) (s : List ℕ) (k : ℕ) → 0 < k → k < (char_of (a ∷ s)).size → later (get_or (a ∷ s) k 0) ≡ false → ⊥
unfolding char_of
wide_over a s k h l n = go (first_of a s) refl l
  where
    go : (o : Option ℕ) → first_of a s ≡ o → k < suc (followers a o) → ⊥
    go None e l = unfold followers in absurd (omega arith)
    go (Some c) e l = unfold followers in no_truth (sym n ∙ wide_inside k (begins a s c e) h (omega arith))

pair_over : (s : List ℕ) (k : ℕ) → 0 < k → k < (char_in (92 ∷ s)).size → (get_or (92 ∷ s) (k - 1) 0 ≡ 92 → escaped (get_or (92 ∷ s) k 0) ≡ None) → ⊥
pair_over [] k h l f = let m : k < 1 = rw char_last at l in absurd (omega arith)
pair_over (d ∷ s) k h l f = unfold char_in in go (escaped d) refl l
  where
    go : (o : Option ℕ) → escaped d ≡ o → k < (pair_in o).size → ⊥
    go None e l = unfold pair_in in absurd (omega arith)
    go (Some x) e l =
        unfold pair_in in (let z : k ≡ 1 = omega arith in
        let g : escaped d ≡ None = (rw z at f) refl in
        no_some (sym g ∙ e))

not_over : (t : List ℕ) (k : ℕ) → 0 < k → CharStarts t k → (char_in t).size ≤ k
not_over t k h c = by_order (char_in t).size k (λ l. l) (λ l. absurd (go t l (c.starts h) (c.apart h)))
  where
    go : (t : List ℕ) → k < (char_in t).size → later (get_or t k 0) ≡ false → (get_or t (k - 1) 0 ≡ 92 → escaped (get_or t k 0) ≡ None) → ⊥
    go [] l n f = unfold char_in char_of in absurd (omega arith)
    go (a ∷ s) l n f = by_backslash a (λ e. pair_over s k h (rw e at l) (rw e at f)) (λ m. wide_over a s k h (rw (char_plain a s m) at l) n)

starts_drop : {f : List ℕ} {i : ℕ} (r : ℕ) → r ≤ i → CharStarts f i → CharStarts (drop r f) (i - r)
starts_drop {f} {i} r h c =
    let x : r + (i - r) ≡ i = omega arith in
    let g : get_or (drop r f) (i - r) 0 ≡ get_or f i 0 = get_or-drop r f (i - r) 0 ∙ rw x in
    record {
      starts = λ q. ap later g ∙ c.starts (omega arith);
      apart = λ q b.
          let y : r + (i - r - 1) ≡ i - 1 = omega arith in
          ap escaped g ∙ c.apart (omega arith) (sym (get_or-drop r f (i - r - 1) 0 ∙ rw y) ∙ b);
    }

-- ---- so a walk from the start comes to every place where a character starts

module _ (f : List ℕ) (i : ℕ) (h : i ≤ length f) (c : CharStarts f i) where
  here : (at : ℕ) → i ≤ at → at ≤ i → CutAt f at → CutAt f i
  here at l m k = let z : i ≡ at = omega arith in rw z k

  walk : (n at : ℕ) → i ≤ at + n → at ≤ i → CutAt f at → CutAt f i
  walk zero at l m k = here at (omega arith) m k
  walk (suc n) at l m k =
      by_order i at (λ q. here at q m k)
      (λ q. let g : at < length f = omega arith in
      let s = content_step f at (char_in (drop at f)) g refl in
      let o = not_over (drop at f) (i - at) (omega arith) (starts_drop at m c) in
      walk n (at + (char_in (drop at f)).size) (omega (arith, s.least)) (omega (arith, o)) (cut_step f at (char_in (drop at f)) g refl k).cut)

  pub cut_starts : CutAt f i
  cut_starts = walk i 0 (omega arith) (omega arith) (cut_start f)

-- ---- a cut of the front is one of the whole

data Lies (v q r t : List ℕ) : Type 0 where
  within : (w : List ℕ) → v ≡ r ++ w → Lies v q r t
  past : (y : List ℕ) → r ≡ v ++ y → q ≡ y ++ t → Lies v q r t

lies_more : {v q r t : List ℕ} (x : ℕ) → Lies v q r t → Lies (x ∷ v) q (x ∷ r) t
lies_more x (within w e) = within w (ap (λ (l : List ℕ). x ∷ l) e)
lies_more x (past y e g) = past y (ap (λ (l : List ℕ). x ∷ l) e) g

lies : (v q r t : List ℕ) → v ++ q ≡ r ++ t → Lies v q r t
lies [] q r t e = past r refl e
lies (x ∷ v) q [] t e = within (x ∷ v) refl
lies (x ∷ v) q (y ∷ r) t e =
    let k : y ≡ x = sym (ap (λ (l : List ℕ). get_or l 0 0) e) in
    rw k (lies_more x (lies v q r t (ap (drop 1) e)))

cut_more : {p v q : List ℕ} → Cut p v → Cut (p ++ v) q → Cut v q → Cut p (v ++ q)
cut_more {p} {v} {q} a b c =
    record {
      content = λ r t e. go r t (lies v q r t e);
      front = λ h. a.front (b.front (rw append_assoc h));
      back = λ h. field_right (a.front (b.front (rw append_assoc h))) h;
    }
  where
    go : (r t : List ℕ) → Lies v q r t → content_in (p ++ r) ≡ content_in p ++ content_in r
    go r t (within w e) = a.content r w e
    go r t (past y e g) =
        rw e
        (ap content_in (sym (append_assoc p v y)) ∙ b.content y t g ∙ ap (λ (l : List ℕ). l ++ content_in y) (a.content v [] (sym (append-nil v)))
        ∙ append_assoc (content_in p) (content_in v) (content_in y) ∙ ap (λ (l : List ℕ). content_in p ++ l) (sym (c.content y t g)))

module _ (f : List ℕ) (r e : ℕ) (h : r ≤ e) (l : e ≤ length f) (c : CharStarts f e) where
  pub cut_within : CutAt (take e f) r → CutAt f r
  cut_within k =
      let x : r + (e - r) ≡ e = omega arith in
      let w : take e f ≡ take r f ++ take (e - r) (drop r f) = ap (λ (n : ℕ). take n f) (sym x) ∙ take-add r (e - r) f in
      let d : drop r (take e f) ≡ take (e - r) (drop r f) = ap (drop r) w ∙ drop_at (take r f) (take (e - r) (drop r f)) r (length-take-le r f (omega arith)) in
      let a : Cut (take r f) (take (e - r) (drop r f)) = rw (take-take r e f h, d) at k in
      let b : Cut (take r f ++ take (e - r) (drop r f)) (drop e f) = rw w at (cut_starts f e l c) in
      let v : Cut (take (e - r) (drop r f)) (drop e f) = rw (drop-drop (e - r) r f, x) at (cut_starts (drop r f) (e - r) (omega (arith, length-drop r f)) (starts_drop r h c)) in
      let j : take (e - r) (drop r f) ++ drop e f ≡ drop r f = ap (λ (z : List ℕ). take (e - r) (drop r f) ++ z) (sym (drop-drop (e - r) r f ∙ rw x)) ∙ take-append-drop (e - r) (drop r f) in
      rw j at (cut_more a b v)
