-- A scan for a byte: what was passed holds none of it.
use Rattle.std.specs.Prelude.{None, Some}
use Prim.Native.Nat.{ℕ, suc, ◌+◌, ◌-◌, ◌≤◌, ◌<◌}
use mathlib.Core.Path.{◌≡◌, refl, ap, sym, ◌∙◌}
use mathlib.Core.Bool.{Bool, true, false}
use mathlib.Core.List.{List, [], ◌∷◌, ◌++◌}
use native.Mathlib.Numerals.{add-one}
use native.Mathlib.Omega.{arith}
use borrow.Author.Tests.{eqb-true, ne_eqb, le-leb, lt-leb}
use lib.Dec.{eqb}
use lib.ListN.{length, get_or, take, drop, take-append-drop, length-append, length-drop}
use lib.Seq.{drop-cons, take-suc, take_all, drop-drop, get_or-drop, drop-append-add}
use Rattle.rules.specs.Basic.{tab, lf, split_at}
use Rattle.rules.specs.Sheet.{lines, fields_of, Without, without_none, without_more}
use Rattle.rules.proofs.Fields.{without_both, split_one, split_more, lines_more, lines_last}
use Rattle.sheet.specs.Lines.{lines_from, LineAt, fields_from, field_at}

-- no b from `at` to i
pub record Scan (b : ℕ) (s : List ℕ) (at i : ℕ) : Type 0 where
  pub from : at ≤ i
  pub clean : Without b (take (i - at) (drop at s))

pub scan_starts : (b : ℕ) (s : List ℕ) (at : ℕ) → Scan b s at at
scan_starts b s at = let z : at - at ≡ 0 = omega arith in record { from = omega arith; clean = rw z without_none }

module _ {b : ℕ} {s : List ℕ} {at i : ℕ} (c : Scan b s at i) where
  -- the rest of s from `at` on, as it stands at i
  seen : i < length s → get_or (drop at s) (i - at) 0 ≡ get_or s i 0
  seen h = let e : at + (i - at) ≡ i = omega (arith, c.from) in rw (get_or-drop, e)

  rest_long : i < length s → i - at < length (drop at s)
  rest_long h = omega (arith, c.from, length-drop at s)

  pub scan_more : i < length s → (get_or s i 0 ≡ b → ⊥) → Scan b s at (i + 1)
  scan_more h q =
      let k : i + 1 - at ≡ suc (i - at) = omega (arith, c.from) in
      record {
        from = omega (arith, c.from);
        clean = rw (k, take-suc (drop at s) (i - at) 0 (rest_long h), seen h) (without_both c.clean (without_more (ne_eqb _ _ q) without_none));
      }

  pub scan_hit : i < length s → get_or s i 0 ≡ b → drop at s ≡ take (i - at) (drop at s) ++ (b ∷ drop (i + 1) s)
  scan_hit h q =
      let k : at + (i - at) ≡ i = omega (arith, c.from) in
      sym (take-append-drop (i - at) (drop at s)) ∙ ap (λ (l : List ℕ). take (i - at) (drop at s) ++ l) (rw (drop-drop, k, add-one, drop-cons s i 0 h, q))

  pub scan_end : length s ≤ i → take (i - at) (drop at s) ≡ drop at s
  scan_end h = let k : length (drop at s) ≤ i - at = omega (arith, c.from, length-drop at s) in take_all (i - at) (drop at s) k

-- ---- lines
module _ {s : List ℕ} {at i : ℕ} (c : Scan lf s at i) where
  pub line_hit : i < length s → get_or s i 0 ≡ 10 → LineAt s at (Some i)
  unfolding lines_from
  line_hit h q =
      record {
        is = sym (ap lines (scan_hit c h q) ∙ lines_more (drop (i + 1) s) c.clean);
        inside = λ e p. let k : i ≡ e = cc in (omega (arith, c.from), omega arith);
      }

  pub line_none : length s ≤ i → LineAt s at None
  unfolding lines_from
  line_none h =
      record {
        is = sym (lines_last (rw (scan_end c h) at c.clean));
        inside = λ e p. absurd (let z : ◌≡◌ {A = ℕ} 0 1 = cc in omega arith);
      }

-- ---- fields
pub field_past : (s : List ℕ) (at : ℕ) → length s < at → [] ≡ field_at s at
unfolding field_at fields_from
field_past s at h = rw (lt-leb at (length s) h)

field_is : (s : List ℕ) (at : ℕ) (f : List ℕ) (fs : List (List ℕ)) → at ≤ length s → split_at tab (drop at s) ≡ f ∷ fs → f ≡ field_at s at
unfolding field_at fields_from fields_of
field_is s at f fs h e = rw (le-leb at (length s) h, e)

module _ {s : List ℕ} {at i : ℕ} (c : Scan tab s at i) (h : at ≤ length s) where
  pub field_hit : i < length s → get_or s i 0 ≡ 9 → take (i - at) (drop at s) ≡ field_at s at
  field_hit l q = field_is s at _ _ h (ap (split_at tab) (scan_hit c l q) ∙ split_more tab (drop (i + 1) s) refl c.clean)

  pub field_end : length s ≤ i → take (length s - at) (drop at s) ≡ field_at s at
  field_end l =
      let k : length (drop at s) ≤ length s - at = omega (arith, length-drop at s) in
      take_all (length s - at) (drop at s) k ∙ field_is s at _ _ h (split_one tab (rw (scan_end c l) at c.clean))

-- a list cut at its first b
data Cut (b : ℕ) : List ℕ → Type 0 where
  whole : {l : List ℕ} → Without b l → Cut b l
  at_first : {f : List ℕ} (r : List ℕ) → Without b f → Cut b (f ++ (b ∷ r))

cut_on : {b : ℕ} (x : ℕ) {l : List ℕ} → eqb x b ≡ false → Cut b l → Cut b (x ∷ l)
cut_on x q (whole h) = whole (without_more q h)
cut_on x q (at_first r h) = at_first {f = x ∷ _} r (without_more q h)

cut : (b : ℕ) (l : List ℕ) → Cut b l
cut b [] = whole without_none
cut b (x ∷ l) = by (eqb x b) refl (cut b l)
  where
    by : (t : Bool) → eqb x b ≡ t → Cut b l → Cut b (x ∷ l)
    by true e c = rw (eqb-true x b e) (at_first {f = []} l without_none)
    by false e c = cut_on x e c

fields_at : (s : List ℕ) (at : ℕ) → at ≤ length s → fields_from s at ≡ split_at tab (drop at s)
unfolding fields_from fields_of
fields_at s at h = rw (le-leb at (length s) h)

pub fields_past : (s : List ℕ) (at : ℕ) → length s < at → fields_from s at ≡ []
unfolding fields_from
fields_past s at h = rw (lt-leb at (length s) h)

-- from its start on they are all of a line's fields
pub fields_start : (s : List ℕ) → fields_from s 0 ≡ fields_of s
unfolding fields_from
fields_start s = rw (le-leb 0 (length s) (omega arith))

-- the fields of a line, one after the other: f is the one that starts at `at`
record Next (s : List ℕ) (at : ℕ) (f : List ℕ) : Type 0 where
  within : at + length f ≤ length s
  next : fields_from s at ≡ f ∷ fields_from s (at + length f + 1)

next_at : (s : List ℕ) (at : ℕ) {l : List ℕ} → at ≤ length s → drop at s ≡ l → Cut tab l → Next s at (field_at s at)
next_at s at {l} h e (whole w) =
    let p = split_one tab w in
    let n : length l ≡ length s - at = ap length (sym e) ∙ length-drop at s in
    let k : length s < at + length l + 1 = omega arith in
    rw (sym (field_is s at l [] h (ap (split_at tab) e ∙ p)))
    record { within = omega arith; next = fields_at s at h ∙ ap (split_at tab) e ∙ p ∙ rw (fields_past s (at + length l + 1) k) }
next_at s at h e (at_first {f = f} r w) =
    let p = split_more tab r refl w in
    let n : length f + suc (length r) ≡ length s - at = sym (length-append f (tab ∷ r)) ∙ ap length (sym e) ∙ length-drop at s in
    let k : at + length f + 1 ≤ length s = omega arith in
    let d : drop (at + length f + 1) s ≡ r =
    let a : at + length f + 1 ≡ at + (length f + 1) = omega arith in rw (a, ← drop-drop, e, drop-append-add) in
    rw (sym (field_is s at f (split_at tab r) h (ap (split_at tab) e ∙ p)))
    record { within = omega arith; next = fields_at s at h ∙ ap (split_at tab) e ∙ p ∙ rw (fields_at s (at + length f + 1) k, d) }

pub field_within : (s : List ℕ) (at : ℕ) → at ≤ length s → at + length (field_at s at) ≤ length s
field_within s at h = (next_at s at h refl (cut tab (drop at s))).within

-- the same of a field that was read
pub field_to : (s : List ℕ) (at : ℕ) {f : List ℕ} → f ≡ field_at s at → at ≤ length s → at + length f ≤ length s
field_to s at e h = rw e (field_within s at h)

pub fields_next : (s : List ℕ) (at : ℕ) → at ≤ length s → fields_from s at ≡ field_at s at ∷ fields_from s (at + length (field_at s at) + 1)
fields_next s at h = (next_at s at h refl (cut tab (drop at s))).next
