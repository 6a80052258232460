-- Walks over a whole list: what is left from here gives what the whole gives.
use Prim.Native.Nat.{ℕ, suc, ◌+◌, ◌-◌, ◌≤◌, ◌<◌}
use mathlib.Core.Path.{◌≡◌, refl, ap, sym, ◌∙◌}
use mathlib.Core.Bool.{Bool, true, false}
use Rattle.std.specs.Prelude.{Option, None, Some}
use mathlib.Core.List.{List, [], ◌∷◌}
use native.Mathlib.Omega.{arith}
use borrow.Author.Tests.{le-leb, lt-leb}
use lib.Dec.{leb}
use lib.ListN.{length, drop, length-drop, drop_of_length-le}
use lib.Seq.{length-take-le}
use Rattle.rules.specs.Basic.{pick, eq_list, is_empty, is_some}
use Rattle.rules.specs.Sheet.{last, more, lines}
use Rattle.rules.specs.Units.{NamedUnit, unit_of, with_unit, units_of, at_most1024, read_units, units_or}
use Rattle.rules.proofs.Basics.{no_truth}
use Rattle.sheet.proofs.Tests.{eq_length}
use Rattle.sheet.specs.Lines.{lines_from, LineAt}
use Rattle.units.specs.Lists.{is_list_from, units_from, part}

-- ---- a list that was read

read_some : (o : Option (List NamedUnit)) → is_some (at_most1024 o) ≡ true → (is_some o ≡ true) × (units_or o ≡ units_or (at_most1024 o))
unfolding at_most1024 is_some units_or
read_some None h = no_truth h
read_some (Some us) h = go (leb (length us) 1024) h
  where
    go : (t : Bool) → is_some (pick t (Some us) None) ≡ true → (is_some (Some us) ≡ true) × (units_or (Some us) ≡ units_or (pick t (Some us) None))
    go true h = (unfold is_some in refl, refl)
    go false h = unfold is_some in no_truth h

-- a well-formed list is one from its start on
pub list_starts : (s : List ℕ) → is_some (read_units s) ≡ true → is_list_from s 0 ≡ true
unfolding read_units is_list_from
list_starts s h = (read_some (units_of (lines s)) h).0

-- its units are those from its start on
pub units_start : (s : List ℕ) → is_some (read_units s) ≡ true → units_from s 0 ≡ units_or (read_units s)
unfolding read_units units_from
units_start s h = (read_some (units_of (lines s)) h).1

-- ---- a name at a place

module _ (s name : List ℕ) (at : ℕ) {e : ℕ} where
  pub named_other : at ≤ e → e ≤ length s → (e ≡ at + length name → ⊥) → false ≡ eq_list name (part s at e)
  named_other h l q =
      let d = length-drop at s in
      let k : length (part s at e) ≡ e - at = length-take-le (e - at) (drop at s) (omega arith) in
      eq_length name (part s at e) (λ z. q (omega arith))

  pub named_same : {b : Bool} → e ≡ at + length name → b ≡ eq_list name (part s at (at + length name)) → b ≡ eq_list name (part s at e)
  named_same h q = rw h q

-- ---- the lines, counted

-- the units are read, and n and they are at most 1,024
unfoldable pub counted : ℕ → Option (List NamedUnit) → Bool
counted n None = false
counted n (Some us) = leb (n + length us) 1024

pub record Counting (s : List ℕ) (at n : ℕ) : Type 0 where
  pub most : n ≤ 1024
  pub is : counted n (units_of (lines (drop at s))) ≡ is_some (read_units s)

counted_read : (o : Option (List NamedUnit)) → counted 0 o ≡ is_some (at_most1024 o)
unfolding counted at_most1024 is_some
counted_read None = refl
counted_read (Some us) = let k : 0 + length us ≡ length us = omega arith in rw k (go (leb (length us) 1024))
  where
    go : (t : Bool) → t ≡ is_some (pick t (Some us) None)
    go true = unfold is_some in refl
    go false = unfold is_some in refl

pub counting_starts : (s : List ℕ) → Counting s 0 0
unfolding read_units
counting_starts s = record { most = omega arith; is = counted_read (units_of (lines s)) }

counted_full : (u : Option NamedUnit) (us : Option (List NamedUnit)) → counted 1024 (with_unit u us) ≡ false
unfolding counted with_unit
counted_full None us = refl
counted_full (Some u) None = refl
counted_full (Some u) (Some us) = lt-leb (1024 + suc (length us)) 1024 (omega arith)

counted_more : (n : ℕ) (u : NamedUnit) (us : Option (List NamedUnit)) → counted n (with_unit (Some u) us) ≡ counted (n + 1) us
unfolding counted with_unit
counted_more n u None = refl
counted_more n u (Some us) = let k : n + suc (length us) ≡ n + 1 + length us = omega arith in rw k

module _ {s : List ℕ} {at n : ℕ} (i : Counting s at n) where
  pub counting_end : length s ≤ at → true ≡ is_some (read_units s)
  counting_end h = sym all ∙ i.is
    where
      all : counted n (units_of (lines (drop at s))) ≡ true
      all = unfold lines units_of is_empty counted in rw (drop_of_length-le s h) (le-leb (n + 0) 1024 (omega (arith, i.most)))

  pub counting_open : {r : Option ℕ} → at < length s → LineAt s at r → r ≡ None → false ≡ is_some (read_units s)
  counting_open {r} l a e = sym none_read ∙ i.is
    where
      here : lines (drop at s) ≡ last (drop at s)
      here = unfold lines_from in (sym a.is ∙ rw e)

      ill : (t : List ℕ) → 0 < length t → counted n (units_of (last t)) ≡ false
      ill [] h = absurd (omega arith)
      ill (x ∷ t) h = unfold units_of is_empty counted in refl

      none_read : counted n (units_of (lines (drop at s))) ≡ false
      none_read = rw here (ill (drop at s) (omega (arith, length-drop at s)))

  module _ {r : Option ℕ} {e : ℕ} (a : LineAt s at r) (q : r ≡ Some e) where
    cut : units_of (lines (drop at s)) ≡ with_unit (unit_of (part s at e)) (units_of (lines (drop (e + 1) s)))
    cut = unfold units_of in (ap units_of parted)
      where
        parted : lines (drop at s) ≡ more (part s at e) (lines (drop (e + 1) s))
        parted = unfold lines_from in (sym a.is ∙ rw q)

    pub counting_full : n ≡ 1024 → false ≡ is_some (read_units s)
    counting_full h = sym (counted_full (unit_of (part s at e)) (units_of (lines (drop (e + 1) s)))) ∙ rw (← h, ← cut) i.is

    module _ {b : Bool} (v : b ≡ is_some (unit_of (part s at e))) where
      pub counting_ill : b ≡ false → false ≡ is_some (read_units s)
      counting_ill h = go (unit_of (part s at e)) (sym h ∙ v) (sym i.is ∙ ap (counted n) cut)
        where
          go : (o : Option NamedUnit) → false ≡ is_some o → is_some (read_units s) ≡ counted n (with_unit o (units_of (lines (drop (e + 1) s))))
              → false ≡ is_some (read_units s)
          go None w c = unfold with_unit counted in sym c
          go (Some x) w c = unfold is_some in no_truth w

      pub counting_on : (n ≡ 1024 → ⊥) → b ≡ true → Counting s (e + 1) (n + 1)
      counting_on z h = record { most = omega (arith, i.most); is = go (unit_of (part s at e)) (sym h ∙ v) (sym i.is ∙ ap (counted n) cut) }
        where
          go : (o : Option NamedUnit) → true ≡ is_some o → is_some (read_units s) ≡ counted n (with_unit o (units_of (lines (drop (e + 1) s))))
              → counted (n + 1) (units_of (lines (drop (e + 1) s))) ≡ is_some (read_units s)
          go None w c = unfold is_some in no_truth (sym w)
          go (Some x) w c = sym (c ∙ counted_more n x (units_of (lines (drop (e + 1) s))))
