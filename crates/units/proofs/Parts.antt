-- One line of a unit list: its fields, and the unit that they are.
use Prim.Native.Nat.{ℕ, ◌+◌, ◌≤◌, ◌<◌}
use mathlib.Core.Path.{◌≡◌, refl, ap, sym, ◌∙◌}
use mathlib.Core.Bool.{Bool, true, false}
use Rattle.std.specs.Prelude.{Option, None, Some}
use mathlib.Core.List.{List, [], ◌∷◌, ◌++◌}
use native.Mathlib.Omega.{arith}
use borrow.Author.Tests.{le-leb, lt-leb}
use lib.ListN.{length}
use Rattle.rules.specs.Basic.{pick, tab, is_empty, is_some, word_in, join_by}
use Rattle.rules.specs.Utf8.{first_fault, is_utf8, chars}
use Rattle.rules.specs.Sheet.{fields_of, Without}
use Rattle.rules.specs.Units.{PhysicalQuantity, physical_words, NamedUnit, named_unit, unit_of_fields, unit_of}
use Rattle.rules.proofs.Basics.{no_some, some_inj, and_left}
use Rattle.rules.proofs.Fields.{AllWithout, all_more, join_split, split_without}
use Rattle.rules.proofs.Chars.{utf8_split}
use Rattle.utf8.proofs.Steps.{valid_utf8, fault_utf8}
use Rattle.sheet.specs.Lines.{fields_from, field_at}
use Rattle.sheet.proofs.Scans.{fields_next}

-- ---- the fields of a line

all_fields : (line : List ℕ) → fields_of line ≡ fields_from line 0
unfolding fields_from
all_fields line = rw (le-leb 0 (length line) (omega arith))

fields_past : (line : List ℕ) (at : ℕ) → length line < at → fields_from line at ≡ []
unfolding fields_from
fields_past line at h = rw (lt-leb at (length line) h)

fields_at : (line : List ℕ) (at k : ℕ) {f : List ℕ} → at ≤ length line → f ≡ field_at line at → k ≡ at + length f + 1 → fields_from line at ≡ f ∷ fields_from line k
fields_at line at k h e q = rw (q, e) (fields_next line at h)

-- the ways in which a line that is UTF-8 is no unit
nameless : (fs : List (List ℕ)) → unit_of_fields ([] ∷ fs) ≡ None
unfolding unit_of_fields
nameless [] = refl
nameless (p ∷ []) = go (word_in p physical_words)
  where
    go : (o : Option PhysicalQuantity) → named_unit [] o ≡ None
    go None = unfold named_unit in refl
    go (Some q) = unfold named_unit is_empty in refl
nameless (p ∷ x ∷ fs) = refl

module _ (line : List ℕ) {f : List ℕ} (e : f ≡ field_at line 0) where
  first_field : fields_of line ≡ f ∷ fields_from line (length f + 1)
  first_field = all_fields line ∙ fields_at line 0 (length f + 1) (omega arith) e (omega arith)

  pub no_name : length f ≡ 0 → false ≡ is_some (unit_of_fields (fields_of line))
  no_name h = go f h first_field
    where
      go : (g : List ℕ) → length g ≡ 0 → fields_of line ≡ g ∷ fields_from line (length f + 1) → false ≡ is_some (unit_of_fields (fields_of line))
      go [] h q = unfold is_some in rw (q, nameless (fields_from line (length f + 1)))
      go (x ∷ g) h q = absurd (omega arith)

  pub no_tab_lem : length line ≤ length f → false ≡ is_some (unit_of_fields (fields_of line))
  unfolding is_some unit_of_fields
  no_tab_lem h = rw (first_field, fields_past line (length f + 1) (omega arith))

  module _ {g : List ℕ} (l : length f < length line) (i : g ≡ field_at line (length f + 1)) where
    second_field : fields_of line ≡ f ∷ g ∷ fields_from line (length f + 1 + length g + 1)
    second_field = first_field ∙ rw (fields_at line (length f + 1) (length f + 1 + length g + 1) (omega arith) i refl)

    pub two_tabs : length f + 1 + length g < length line → false ≡ is_some (unit_of_fields (fields_of line))
    unfolding is_some unit_of_fields
    two_tabs h = rw (second_field, fields_next line (length f + 1 + length g + 1) (omega arith))

    pub two_fields : (length f ≡ 0 → ⊥) → length line ≤ length f + 1 + length g → is_some (word_in g physical_words) ≡ is_some (unit_of_fields (fields_of line))
    unfolding unit_of_fields
    two_fields z m = rw (second_field, fields_past line (length f + 1 + length g + 1) (omega arith)) (go f z (word_in g physical_words))
      where
        go : (h : List ℕ) → (length h ≡ 0 → ⊥) → (o : Option PhysicalQuantity) → is_some o ≡ is_some (named_unit h o)
        go h y None = unfold named_unit is_some in refl
        go [] y (Some x) = absurd (y refl)
        go (a ∷ h) y (Some x) = unfold named_unit is_empty is_some in refl

-- ---- a line that is a unit, taken apart

pub record Line (l : List ℕ) (u : NamedUnit) : Type 0 where
  pub name : List ℕ
  pub word : List ℕ
  pub is : l ≡ name ++ (tab ∷ word)
  pub clean : Without tab name
  pub stands : word_in word physical_words ≡ Some u.physical
  pub said : u.name ≡ chars name
  pub named : 0 < length name
  pub utf8 : is_utf8 name ≡ true

first_clean : {f : List ℕ} {fs : List (List ℕ)} → AllWithout tab (f ∷ fs) → Without tab f
first_clean (all_more h k) = h

line_two : (l n p : List ℕ) (u : NamedUnit) → is_utf8 l ≡ true → fields_of l ≡ n ∷ p ∷ [] → named_unit n (word_in p physical_words) ≡ Some u → Line l u
line_two l n p u h q e = go (word_in p physical_words) refl n is (first_clean all) e
  where
    all : AllWithout tab (n ∷ p ∷ [])
    all = rw (← q) (unfold fields_of in (split_without tab l))

    is : l ≡ n ++ (tab ∷ p)
    is = unfold fields_of join_by in (sym (join_split l) ∙ ap (join_by tab) q)

    go : (o : Option PhysicalQuantity) → word_in p physical_words ≡ o → (m : List ℕ) → l ≡ m ++ (tab ∷ p) → Without tab m → named_unit m o ≡ Some u → Line l u
    go None w m i c e = unfold named_unit in no_some e
    go (Some x) w [] i c e = unfold named_unit is_empty in no_some e
    go (Some x) w (a ∷ m) i c e =
        unfold named_unit is_empty in
        (let v = some_inj e in
        record {
          name = a ∷ m;
          word = p;
          is = i;
          clean = c;
          stands = w ∙ ap (λ (u : NamedUnit). Some u.physical) v;
          said = sym (ap (λ (u : NamedUnit). u.name) v);
          named = omega arith;
          utf8 = and_left (is_utf8 (a ∷ m)) (is_utf8 p) (sym (utf8_split (a ∷ m) p tab (omega arith)) ∙ ap is_utf8 (sym i) ∙ h);
        })

pub line_of : (l : List ℕ) (u : NamedUnit) → unit_of l ≡ Some u → Line l u
unfolding unit_of
line_of l u e = go (is_utf8 l) refl e
  where
    by : is_utf8 l ≡ true → (fs : List (List ℕ)) → fields_of l ≡ fs → unit_of_fields fs ≡ Some u → Line l u
    by h [] q e = unfold unit_of_fields in no_some e
    by h (n ∷ []) q e = unfold unit_of_fields in no_some e
    by h (n ∷ p ∷ []) q e = unfold unit_of_fields in line_two l n p u h q e
    by h (n ∷ p ∷ x ∷ xs) q e = unfold unit_of_fields in no_some e

    go : (t : Bool) → is_utf8 l ≡ t → pick t (unit_of_fields (fields_of l)) None ≡ Some u → Line l u
    go true h e = by h (fields_of l) refl e
    go false h e = no_some e

-- ---- whether the line is UTF-8

module _ (l : List ℕ) {c : Option ℕ} (q : c ≡ first_fault l) where
  pub line_utf8 : {b : Bool} → c ≡ None → b ≡ is_some (unit_of_fields (fields_of l)) → b ≡ is_some (unit_of l)
  unfolding unit_of
  line_utf8 h e = rw (valid_utf8 l (sym q ∙ h)) e

  pub line_fault : {i : ℕ} → c ≡ Some i → false ≡ is_some (unit_of l)
  unfolding unit_of is_some
  line_fault {i} h = rw (fault_utf8 l i (sym q ∙ h))
