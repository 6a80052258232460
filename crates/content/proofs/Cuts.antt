-- Cutting bytes at characters of the field.
use Prim.Native.Nat.{ℕ, zero, suc, pred, ◌+◌, ◌≤◌, ◌<◌}
use mathlib.Core.Path.{◌≡◌, refl, sym, ap, ◌∙◌}
use mathlib.Core.List.{List, [], ◌∷◌, ◌++◌, append-nil, append_assoc}
use Rattle.std.specs.Prelude.{Option, None, Some}
use native.Mathlib.Omega.{arith}
use lib.ListN.{length, take, drop, length-append, length-drop, take-append-drop}
use lib.Seq.{take-add, drop-drop, drop-append_seam, take-append_seam, length-take-le}
use Rattle.rules.specs.Sheet.{escaped}
use Rattle.rules.specs.Utf8.{size_of, sized, first_of, followers}
use Rattle.rules.proofs.Basics.{no_some}
use Rattle.rules.proofs.Begins.{begins, begins_more, first_some}
use Rattle.utf8.specs.declared.Char.{Char}
use Rattle.utf8.specs.Reading.{char_of}
use Rattle.content.specs.Contents.{content_in}
use Rattle.content.specs.Readings.{pair_in, char_in}
use Rattle.content.specs.Parts.{Field, Cut, CutAt}
use Rattle.content.proofs.Plains.{by_backslash}
use Rattle.content.proofs.Chars.{ContentFirst, content_first, content_step, char_plain, char_last, no_content}
use Rattle.content.proofs.Spells.{content_append, field_append, field_none, field_right, field_first}

-- ---- the first character does not depend on what follows it

sized_front : (n a : ℕ) (s t : List ℕ) → pred n ≤ length s → sized n a (s ++ t) ≡ sized n a s
unfolding sized
sized_front zero a s t l = refl
sized_front (suc zero) a s t l = refl
sized_front (suc (suc zero)) a [] t l = absurd (omega arith)
sized_front (suc (suc zero)) a (b ∷ s) t l = refl
sized_front (suc (suc (suc zero))) a [] t l = absurd (omega arith)
sized_front (suc (suc (suc zero))) a (b ∷ []) t l = absurd (omega arith)
sized_front (suc (suc (suc zero))) a (b ∷ d ∷ s) t l = refl
sized_front (suc (suc (suc (suc n)))) a [] t l = absurd (omega arith)
sized_front (suc (suc (suc (suc n)))) a (b ∷ []) t l = absurd (omega arith)
sized_front (suc (suc (suc (suc n)))) a (b ∷ d ∷ []) t l = absurd (omega arith)
sized_front (suc (suc (suc (suc n)))) a (b ∷ d ∷ e ∷ s) t l = refl

first_front : (a : ℕ) (s t : List ℕ) → followers a (first_of a (s ++ t)) ≤ length s → first_of a s ≡ first_of a (s ++ t)
first_front a s t l = go (first_of a (s ++ t)) refl (first_of a s) refl
  where
    go : (o : Option ℕ) → first_of a (s ++ t) ≡ o → (p : Option ℕ) → first_of a s ≡ p → first_of a s ≡ first_of a (s ++ t)
    go (Some c) e p q = unfold first_of followers in (let k : pred (size_of a) ≤ length s = rw e at l in sym (sized_front (size_of a) a s t k))
    go None e None q = q ∙ sym e
    go None e (Some c) q = no_some (sym e ∙ first_some (begins_more t (begins a s c q)))

front_backslash : (s t : List ℕ) → (char_in (92 ∷ (s ++ t))).size ≤ suc (length s) → char_in (92 ∷ s) ≡ char_in (92 ∷ (s ++ t))
unfolding char_in
front_backslash [] [] l = refl
front_backslash [] (d ∷ t) l = go (escaped d) l
  where
    go : (o : Option ℕ) → (pair_in o).size ≤ 1 → char_in (92 ∷ []) ≡ pair_in o
    go None l = unfold pair_in in char_last
    go (Some x) l = absurd (unfold pair_in in omega arith)
front_backslash (d ∷ s) t l = refl

front_other : (a : ℕ) (s t : List ℕ) → (char_of (a ∷ (s ++ t))).size ≤ suc (length s) → char_of (a ∷ s) ≡ char_of (a ∷ (s ++ t))
unfolding char_of
front_other a s t l = rw (first_front a s t (omega arith))

char_front : (p t : List ℕ) → 1 ≤ length p → (char_in (p ++ t)).size ≤ length p → char_in p ≡ char_in (p ++ t)
char_front [] t h l = absurd (omega arith)
char_front (a ∷ s) t h l =
    by_backslash a
    (λ e. let m : (char_in (92 ∷ (s ++ t))).size ≤ suc (length s) = rw (← e) l in rw e (front_backslash s t m))
    (λ n. let m : (char_of (a ∷ (s ++ t))).size ≤ suc (length s) = rw (← char_plain a (s ++ t) n) l in
    char_plain a s n ∙ front_other a s t m ∙ sym (char_plain a (s ++ t) n))

-- ---- cuts

pub cut_none : {q : List ℕ} → Cut [] q
cut_none = record { content = λ r t e. rw no_content; front = λ _. field_none; back = λ h. h }

pub cut_all : (p : List ℕ) → Cut p []
cut_all p = record { content = go; front = λ h. rw append-nil at h; back = λ _. field_none }
  where
    go : (r t : List ℕ) → [] ≡ r ++ t → content_in (p ++ r) ≡ content_in p ++ content_in r
    go [] t e = rw (no_content, append-nil, append-nil)
    go (x ∷ r) t e = absurd (let l = ap length e in omega arith)

pub cut_seq : {p v q : List ℕ} → Cut p (v ++ q) → Cut v q → Cut (p ++ v) q
cut_seq {p} {v} {q} a b =
    record {
      content = λ r t e. rw (append_assoc p v r, a.content (v ++ r) t (rw (e, append_assoc)), b.content r t e, a.content v q refl, append_assoc);
      front = λ h. let k : Field (p ++ (v ++ q)) = rw append_assoc at h in field_append (a.front k) (b.front (a.back k));
      back = λ h. let k : Field (p ++ (v ++ q)) = rw append_assoc at h in b.back (a.back k);
    }

-- one character of n bytes
module _ (w q : List ℕ) (ch : Char) (e : ch ≡ char_in (w ++ q)) (n : ch.size ≡ length w) (h : 1 ≤ length w) where
  char_before : (r t : List ℕ) → q ≡ r ++ t → content_in (w ++ r) ≡ ch.code ∷ content_in r
  char_before r t d =
      let l : 1 ≤ length (w ++ r) = omega (arith, length-append w r) in
      let g : char_in ((w ++ r) ++ t) ≡ ch = rw (append_assoc, ← d) (sym e) in
      let m : (char_in ((w ++ r) ++ t)).size ≤ length (w ++ r) = rw g (omega (arith, length-append w r)) in
      let f : ContentFirst (w ++ r) ch = rw (char_front (w ++ r) t l m ∙ g) at (content_first (w ++ r) l) in
      f.reads ∙ rw (n, drop-append_seam w r)

  pub char_alone : content_in w ≡ ch.code ∷ []
  char_alone = let k : content_in (w ++ []) ≡ ch.code ∷ content_in [] = char_before [] q refl in rw no_content at (rw append-nil at k)

  pub cut_char : Cut w q
  cut_char =
      let l : 1 ≤ length (w ++ q) = omega (arith, length-append w q) in
      record {
        content = λ r t d. char_before r t d ∙ rw char_alone;
        front = λ k. let g = field_first k l in rw (← e, n, take-append_seam w q) at g.front;
        back = λ k. let g = field_first k l in rw (← e, n, drop-append_seam w q) at g.back;
      }

-- a front that is a field by itself
pub cut_field : {p : List ℕ} (q : List ℕ) → Field p → Cut p q
cut_field q h = record { content = λ r t e. content_append r h; front = λ _. h; back = λ k. field_right h k }

-- ---- cuts at a place

pub record CutStep (f : List ℕ) (at n c : ℕ) : Type 0 where
  pub cut : CutAt f (at + n)
  pub passed : content_in (take (at + n) f) ≡ content_in (take at f) ++ (c ∷ [])

pub cut_step : (f : List ℕ) (at : ℕ) (ch : Char) → at < length f → ch ≡ char_in (drop at f) → CutAt f at → CutStep f at ch.size ch.code
cut_step f at ch h e k =
    let s = content_step f at ch h e in
    let l : ch.size ≤ length (drop at f) = omega (arith, s.most, length-drop at f) in
    let m : length (take ch.size (drop at f)) ≡ ch.size = length-take-le ch.size (drop at f) l in
    let j : take ch.size (drop at f) ++ drop (at + ch.size) f ≡ drop at f = rw (← drop-drop ch.size at f) (take-append-drop ch.size (drop at f)) in
    let g : ch ≡ char_in (take ch.size (drop at f) ++ drop (at + ch.size) f) = rw j e in
    let i : 1 ≤ length (take ch.size (drop at f)) = omega (arith, s.least) in
    let x : Cut (take at f) (take ch.size (drop at f) ++ drop (at + ch.size) f) = rw j k in
    record {
      cut = rw (take-add at ch.size f) (cut_seq x (cut_char _ _ ch g (sym m) i));
      passed = rw (take-add at ch.size f) (x.content _ _ refl ∙ rw (char_alone (take ch.size (drop at f)) (drop (at + ch.size) f) ch g (sym m) i));
    }

pub cut_start : (f : List ℕ) → CutAt f 0
cut_start f = cut_none

-- the parts of a cut, and their contents
pub cut_content : (f : List ℕ) (at : ℕ) → CutAt f at → content_in f ≡ content_in (take at f) ++ content_in (drop at f)
cut_content f at k = ap content_in (sym (take-append-drop at f)) ∙ k.content (drop at f) [] (sym (append-nil _))

pub cut_front : (f : List ℕ) (at : ℕ) → CutAt f at → Field f → Field (take at f)
cut_front f at k h = k.front (rw take-append-drop h)

pub cut_back_lem : (f : List ℕ) (at : ℕ) → CutAt f at → Field f → Field (drop at f)
cut_back_lem f at k h = k.back (rw take-append-drop h)
