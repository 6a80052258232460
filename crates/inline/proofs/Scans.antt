-- What the functions that go over a text keep in each turn.
use Prim.Native.Nat.{ℕ, ◌+◌, ◌-◌, ◌≤◌, ◌<◌}
use mathlib.Core.Path.{◌≡◌, refl, sym, ap, ◌∙◌}
use mathlib.Core.Bool.{Bool, true, false, not}
use mathlib.Core.List.{List, [], ◌∷◌, ◌++◌, append-nil}
use native.Mathlib.Nat.{le_refl, sub_self, add-zero, zero-add}
use native.Mathlib.Omega.{arith}
use lib.ListN.{length, take, drop, length-drop, take-append-drop, drop_of_length-le}
use lib.Seq.{drop-drop, take-add, append_snoc}
use borrow.Author.Tests.{eq-eqb, ne_eqb}
use Rattle.rules.specs.Inline.{points}
use Rattle.utf8.specs.declared.Char.{Char}
use Rattle.content.specs.Contents.{content_in}
use Rattle.content.specs.Readings.{char_in}
use Rattle.content.specs.Parts.{Field}
use Rattle.content.proofs.Chars.{ContentStep, content_step, no_content}
use Rattle.content.proofs.Spells.{content_append, field_append, field_none, field_first}
use Rattle.content.proofs.Cuts.{cut_step, cut_start}
use Rattle.inline.specs.Scans.{part, Front}
use Rattle.inline.proofs.Fronts.{front_yes, behind_yes, front_no, behind_no, front_none, behind_none}
use Rattle.rules.specs.Inline as rules

-- ---- the character that a field starts with

-- ch is it: its bytes are a field and so are those after it
pub record Leads (t : List ℕ) (ch : Char) : Type 0 where
  pub content_is : content_in (take ch.size t) ≡ ch.code ∷ []
  pub whole : Field (take ch.size t)
  pub left : Field (drop ch.size t)

leads : (t : List ℕ) → 1 ≤ length t → Field t → Leads t (char_in t)
leads t h w =
    let g = field_first w h in
    let c = cut_step t 0 (char_in t) h refl (cut_start t) in
    let z : 0 + (char_in t).size ≡ (char_in t).size = omega arith in
    record { content_is = (rw z at c.passed) ∙ rw no_content; whole = g.front; left = g.back }

-- ---- the turns

-- the bytes between two places, and on to a third
pub part_part : (a b e : ℕ) (s : List ℕ) → a ≤ b → b ≤ e → part a e s ≡ part a b s ++ part b e s
part_part a b e s h k =
    let m : e - a ≡ b - a + (e - b) = omega arith in
    let n : a + (b - a) ≡ b = omega arith in
    rw (m, take-add (b - a) (e - b) (drop a s), drop-drop (b - a) a s, n)

pub part_drop : (a b : ℕ) (s : List ℕ) → a ≤ b → drop a s ≡ part a b s ++ drop b s
part_drop a b s h =
    let n : a + (b - a) ≡ b = omega arith in
    sym (take-append-drop (b - a) (drop a s)) ∙ rw (drop-drop (b - a) a s, n)

pub part_none : (a : ℕ) (s : List ℕ) → part a a s ≡ []
part_none a s = rw (sub_self a)

-- the characters from `at` up to i pass, and what follows is still to be seen
pub record Going (p : ℕ → Bool) (s : List ℕ) (at i : ℕ) : Type 0 where
  pub from : at ≤ i
  pub to : i ≤ length s
  pub front : content_in (part at i s) ++ rules.front p (content_in (drop i s)) ≡ rules.front p (content_in (drop at s))
  pub behind : rules.behind p (content_in (drop i s)) ≡ rules.behind p (content_in (drop at s))
  pub whole : Field (part at i s)
  pub left : Field (drop i s)

pub going_start : (p : ℕ → Bool) (s : List ℕ) (at : ℕ) → at ≤ length s → Field (drop at s) → Going p s at at
going_start p s at h w =
    record { from = le_refl at; to = h; front = rw (part_none at s, no_content); behind = refl; whole = rw (part_none at s) field_none; left = w }

stopped : {p : ℕ → Bool} {s : List ℕ} {at i : ℕ} → Going p s at i → rules.front p (content_in (drop i s)) ≡ []
    → rules.behind p (content_in (drop i s)) ≡ content_in (drop i s) → Front p s at i
stopped {p} {s} {at} {i} g f b =
    record {
      from = g.from;
      to = g.to;
      front = sym (append-nil (content_in (part at i s))) ∙ (rw f at g.front);
      behind = sym b ∙ g.behind;
      whole = g.whole;
      left = g.left;
    }

pub going_end : {p : ℕ → Bool} {s : List ℕ} {at i : ℕ} → Going p s at i → length s ≤ i → Front p s at i
going_end {p} {s} {at} {i} g h =
    let e : content_in (drop i s) ≡ [] = rw (drop_of_length-le s h) no_content in
    stopped g (rw e (front_none p)) (rw e (behind_none p))

module _ {p : ℕ → Bool} {s : List ℕ} {at i : ℕ} (g : Going p s at i) (ch : Char) (h : i < length s) (e : ch ≡ char_in (drop i s)) where
  step : ContentStep s i ch
  step = content_step s i ch h e

  lead : Leads (drop i s) ch
  lead = rw e (leads (drop i s) (rw (length-drop i s) (omega arith)) g.left)

  pub going_stop : p ch.code ≡ false → Front p s at i
  going_stop q = stopped g (rw step.reads (front_no p ch.code _ q)) (rw step.reads (behind_no p ch.code _ q))

  next : part at (i + ch.size) s ≡ part at i s ++ take ch.size (drop i s)
  next =
      let m : i + ch.size - i ≡ ch.size = omega arith in
      part_part at i (i + ch.size) s g.from (omega arith) ∙ rw m

  content_next : content_in (part at (i + ch.size) s) ≡ content_in (part at i s) ++ (ch.code ∷ [])
  content_next = ap content_in next ∙ content_append (take ch.size (drop i s)) g.whole ∙ rw lead.content_is

  pub going_on : p ch.code ≡ true → Going p s at (i + ch.size)
  going_on q =
      record {
        from = omega (arith, g.from);
        to = step.most;
        front = rw (content_next, append_snoc) (ap (λ (l : List ℕ). content_in (part at i s) ++ l) (sym (ap (rules.front p) step.reads ∙ front_yes p ch.code _ q)) ∙ g.front);
        behind = sym (ap (rules.behind p) step.reads ∙ behind_yes p ch.code _ q) ∙ g.behind;
        whole = rw next (field_append g.whole lead.whole);
        left = rw (← drop-drop ch.size i s) lead.left;
      }

-- ---- where a scan stops at a character of a kind

pub stops_at : {b t : Bool} → b ≡ t → b ≡ true → not t ≡ false
stops_at e k = rw (← e, k)

pub goes_by : {b t : Bool} → b ≡ t → b ≡ false → not t ≡ true
goes_by e k = rw (← e, k)

-- ---- points

-- n points stand before place i
pub record Pointed (s : List ℕ) (n i : ℕ) : Type 0 where
  pub few : n ≤ i
  pub to : i ≤ length s
  pub is : n + points (content_in (drop i s)) ≡ points (content_in s)

pub pointed_start : (s : List ℕ) → Pointed s 0 0
pointed_start s = record { few = omega arith; to = omega arith; is = zero-add (points (content_in s)) }

pub pointed_end : {s : List ℕ} {n i : ℕ} → Pointed s n i → length s ≤ i → n ≡ points (content_in s)
pointed_end {s} {n} {i} p h =
    let e : content_in (drop i s) ≡ [] = rw (drop_of_length-le s h) no_content in
    let z : points [] ≡ 0 = unfold points in refl in
    sym (add-zero n) ∙ (rw (e, z) at p.is)

module _ {s : List ℕ} {n i : ℕ} (p : Pointed s n i) (ch : Char) (h : i < length s) (e : ch ≡ char_in (drop i s)) where
  read : ContentStep s i ch
  read = content_step s i ch h e

  pub point_next : ch.code ≡ 46 → Pointed s (n + 1) (i + ch.size)
  point_next q =
      record { few = omega (arith, p.few, read.least); to = read.most; is = more ∙ p.is }
    where
      more : n + 1 + points (content_in (drop (i + ch.size) s)) ≡ n + points (content_in (drop i s))
      more = rw read.reads (unfold points in rw (eq-eqb _ _ q) (omega arith))

  pub other_next : (ch.code ≡ 46 → ⊥) → Pointed s n (i + ch.size)
  other_next q =
      record { few = omega (arith, p.few); to = read.most; is = more ∙ p.is }
    where
      more : n + points (content_in (drop (i + ch.size) s)) ≡ n + points (content_in (drop i s))
      more = rw read.reads (unfold points in rw (ne_eqb _ _ q) refl)
