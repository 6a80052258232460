-- What stands at a place of a well-formed list: a name, a tab, a word, an LF, and the rest of the list.
use Prim.Native.Nat.{ℕ, suc, ◌+◌, ◌-◌, ◌≤◌, ◌<◌}
use mathlib.Core.Path.{◌≡◌, refl, ap, sym, ◌∙◌}
use mathlib.Core.Bool.{true}
use Rattle.std.specs.Prelude.{Option, None, Some}
use mathlib.Core.List.{List, [], ◌∷◌, ◌++◌, append_assoc}
use native.Mathlib.Omega.{arith}
use borrow.Author.Tests.{le-leb, eqb-true}
use lib.Dec.{eqb}
use lib.ListN.{length, get_or, drop, length-append, length-drop, drop_of_length-le, get_or-append}
use lib.Seq.{drop-drop, drop-append-add, get_or-drop, get_or-append-add, take_at}
use Rattle.rules.specs.Basic.{codes, tab, lf, eq_list, is_empty, is_some, word_in}
use Rattle.rules.specs.Utf8.{is_utf8, chars}
use Rattle.rules.specs.Sheet.{Lines, last, more, on_line, lines, fields_of, Without}
use Rattle.rules.specs.Units.{PhysicalQuantity, volume, mass, len, temperature, time, physical_words, NamedUnit, unit_of, with_unit, units_of, units_or}
use Rattle.rules.proofs.Basics.{pick_either, no_some, no_truth, some_inj}
use Rattle.rules.proofs.Fields.{split_more}
use Rattle.rules.proofs.SameChars.{eq_true}
use Rattle.sheet.specs.Lines.{fields_from, field_at}
use Rattle.units.specs.declared.Physical.{Physical}
use Rattle.units.specs.declared.Physical.TheVariants.{Volume, Mass, Length, Temperature, Time}
use Rattle.units.specs.Quantities.{physical_in}
use Rattle.units.specs.Lists.{is_list_from, units_from, part, named_as, UnitTurn}
use Rattle.units.proofs.Parts.{Line, line_of}

-- ---- the five words

data PhysicalWord : List ℕ → PhysicalQuantity → Type 0 where
  is_volume : PhysicalWord (codes "volume") volume
  is_mass : PhysicalWord (codes "mass") mass
  is_length : PhysicalWord (codes "length") len
  is_temperature : PhysicalWord (codes "temperature") temperature
  is_time : PhysicalWord (codes "time") time

stands_for : (w : List ℕ) (q : PhysicalQuantity) → word_in w physical_words ≡ Some q → PhysicalWord w q
unfolding word_in
stands_for w q e =
    pick_either P (eq_list w (codes "volume")) _ _ (λ t e. this is_volume t e)
    (λ n. pick_either P (eq_list w (codes "mass")) _ _ (λ t e. this is_mass t e)
    (λ n. pick_either P (eq_list w (codes "length")) _ _ (λ t e. this is_length t e)
    (λ n. pick_either P (eq_list w (codes "temperature")) _ _ (λ t e. this is_temperature t e)
    (λ n. pick_either P (eq_list w (codes "time")) _ _ (λ t e. this is_time t e) (λ n e. no_some e)))))
    e
  where
    P : Option PhysicalQuantity → Type 0
    P o = o ≡ Some q → PhysicalWord w q

    this : {v : List ℕ} {x : PhysicalQuantity} → PhysicalWord v x → eq_list w v ≡ true → Some x ≡ Some q → PhysicalWord w q
    this {v} {x} p t e = let h : x ≡ q = some_inj e in rw (eq_true w v t, ← h) p

-- ---- the rest of a list

data LineCut : List ℕ → Lines → Type 0 where
  lastly : (l : List ℕ) → LineCut l (last l)
  firstly : (l r : List ℕ) → LineCut (l ++ (lf ∷ r)) (more l (lines r))

cut_on : (b : ℕ) {t : List ℕ} {ls : Lines} → LineCut t ls → LineCut (b ∷ t) (on_line b ls)
unfolding on_line
cut_on b (lastly l) = lastly (b ∷ l)
cut_on b (firstly l r) = firstly (b ∷ l) r

line_cut : (t : List ℕ) → LineCut t (lines t)
unfolding lines
line_cut [] = lastly []
line_cut (b ∷ t) = pick_either (LineCut (b ∷ t)) (eqb b lf) _ _ (λ e. rw (eqb-true b 10 e) (firstly [] t)) (λ n. cut_on b (line_cut t))

record Ahead (t : List ℕ) : Type 0 where
  name : List ℕ
  word : List ℕ
  rest : List ℕ
  quantity : PhysicalQuantity
  is : t ≡ name ++ (tab ∷ (word ++ (lf ∷ rest)))
  clean : Without tab name
  stands : PhysicalWord word quantity
  units : units_or (units_of (lines t)) ≡ named_as name quantity ∷ units_or (units_of (lines rest))
  left : is_some (units_of (lines rest)) ≡ true
  named : 0 < length name
  utf8 : is_utf8 name ≡ true

named_unit_lem : (u : NamedUnit) (n : List ℕ) → u.name ≡ chars n → u ≡ named_as n u.physical
unfolding named_as
named_unit_lem u n e = rw (← e)

ahead_line : (l r : List ℕ) (u : NamedUnit) → lines (l ++ (lf ∷ r)) ≡ more l (lines r) → unit_of l ≡ Some u → is_some (units_of (lines r)) ≡ true → Line l u
    → Ahead (l ++ (lf ∷ r))
ahead_line l r u c e h a =
    record {
      name = a.name;
      word = a.word;
      rest = r;
      quantity = u.physical;
      is = rw a.is (append_assoc a.name (tab ∷ a.word) (lf ∷ r));
      clean = a.clean;
      stands = stands_for a.word u.physical a.stands;
      units = ap (λ (x : Lines). units_or (units_of x)) c ∙ go (units_of (lines r)) refl h;
      left = h;
      named = a.named;
      utf8 = a.utf8;
    }
  where
    go : (o : Option (List NamedUnit)) → units_of (lines r) ≡ o → is_some o ≡ true
        → units_or (units_of (more l (lines r))) ≡ named_as a.name u.physical ∷ units_or (units_of (lines r))
    go None q h = unfold is_some in no_truth h
    go (Some us) q h = unfold units_of units_or with_unit in rw (e, q, ← named_unit_lem u a.name a.said)

ahead_cut : {t : List ℕ} {ls : Lines} → LineCut t ls → lines t ≡ ls → is_some (units_of ls) ≡ true → 0 < length t → Ahead t
ahead_cut (lastly l) c h z = go l z h
  where
    go : (l : List ℕ) → 0 < length l → is_some (units_of (last l)) ≡ true → Ahead l
    go [] z h = absurd (omega arith)
    go (x ∷ l) z h = unfold units_of is_empty is_some in no_truth h
ahead_cut (firstly l r) c h z = unfold units_of in (go (unit_of l) refl (units_of (lines r)) refl h)
  where
    go : (o : Option NamedUnit) → unit_of l ≡ o → (us : Option (List NamedUnit)) → units_of (lines r) ≡ us → is_some (with_unit o us) ≡ true → Ahead (l ++ (lf ∷ r))
    go None q us i h = unfold with_unit is_some in no_truth h
    go (Some u) q None i h = unfold with_unit is_some in no_truth h
    go (Some u) q (Some us) i h = ahead_line l r u c q (unfold is_some in rw i) (line_of l u q)

ahead : (s : List ℕ) (at : ℕ) → is_list_from s at ≡ true → at < length s → Ahead (drop at s)
unfolding is_list_from
ahead s at h l = ahead_cut (line_cut (drop at s)) refl h (rw (length-drop at s) (omega arith))

-- ---- at a place of s

module _ (s : List ℕ) (at : ℕ) (a : Ahead (drop at s)) where
  long : at + length a.name + 1 + length a.word + 1 ≤ length s
  long =
      let k = ap length a.is in
      omega (arith, length-drop at s, length-append a.name (tab ∷ (a.word ++ (lf ∷ a.rest))), length-append a.word (lf ∷ a.rest), k)

  tail_at : (i : ℕ) → drop (at + length a.name + 1 + i) s ≡ drop i (a.word ++ (lf ∷ a.rest))
  tail_at i =
      let k : at + length a.name + 1 + i ≡ at + (length a.name + suc i) = omega arith in
      rw (k, ← drop-drop, a.is, drop-append-add)

  rest_at : (k : ℕ) → k ≡ at + length a.name + 1 + length a.word + 1 → drop k s ≡ a.rest
  rest_at k e =
      let j : k ≡ at + length a.name + 1 + (length a.word + 1) = omega arith in
      rw j (tail_at (length a.word + 1) ∙ drop-append-add a.word (lf ∷ a.rest) 1)

  letter_at : (i : ℕ) → i < length a.word → get_or s (at + length a.name + 1 + i) 0 ≡ get_or a.word i 0
  letter_at i h =
      let k : at + length a.name + 1 + i ≡ at + (length a.name + suc i) = omega arith in
      rw (k, ← get_or-drop, a.is, get_or-append-add) (get_or-append a.word (lf ∷ a.rest) 0 i h)

  part_at : part s at (at + length a.name) ≡ a.name
  part_at = let k : at + length a.name - at ≡ length a.name = omega arith in rw (k, a.is) (take_at a.name _ (length a.name) refl)

  field_at_lem : {f : List ℕ} → at ≤ length s → f ≡ field_at s at → f ≡ a.name
  unfolding field_at fields_from fields_of
  field_at_lem h e = e ∙ rw (le-leb at (length s) h, a.is, split_more tab (a.word ++ (lf ∷ a.rest)) refl a.clean)

  turn : (k : ℕ) (p : Physical) → k ≡ at + length a.name + 1 + length a.word + 1 → physical_in p ≡ a.quantity
      → UnitTurn s at (record { name_end = at + length a.name; next = k; physical = p })
  unfolding units_from is_list_from
  turn k p e q =
      let l = long in
      let n = a.named in
      record {
        is = rw (part_at, rest_at k e, q) a.units;
        named = omega arith;
        ended = omega arith;
        within = omega arith;
        utf8 = rw part_at a.utf8;
        rest = rw (rest_at k e) a.left;
      }

-- no unit is left at the end
pub units_end : (s : List ℕ) (at : ℕ) → length s ≤ at → units_from s at ≡ []
unfolding units_from lines units_of is_empty units_or
units_end s at h = rw (drop_of_length-le s h)

-- ---- which word it is, by its first two letters

record Worded (w : List ℕ) (q : PhysicalQuantity) (n : ℕ) (p : Physical) : Type 0 where
  long : length w ≡ n
  says : physical_in p ≡ q

word_least : {w : List ℕ} {q : PhysicalQuantity} → PhysicalWord w q → 4 ≤ length w
word_least is_volume = omega arith
word_least is_mass = omega arith
word_least is_length = omega arith
word_least is_temperature = omega arith
word_least is_time = omega arith

volume_word : {w : List ℕ} {q : PhysicalQuantity} → PhysicalWord w q → get_or w 0 0 ≡ 118 → Worded w q 6 Volume
unfolding physical_in
volume_word is_volume e = record { long = refl; says = refl }
volume_word is_mass e = absurd (omega arith)
volume_word is_length e = absurd (omega arith)
volume_word is_temperature e = absurd (omega arith)
volume_word is_time e = absurd (omega arith)

mass_word : {w : List ℕ} {q : PhysicalQuantity} → PhysicalWord w q → get_or w 0 0 ≡ 109 → Worded w q 4 Mass
unfolding physical_in
mass_word is_volume e = absurd (omega arith)
mass_word is_mass e = record { long = refl; says = refl }
mass_word is_length e = absurd (omega arith)
mass_word is_temperature e = absurd (omega arith)
mass_word is_time e = absurd (omega arith)

length_word : {w : List ℕ} {q : PhysicalQuantity} → PhysicalWord w q → get_or w 0 0 ≡ 108 → Worded w q 6 Length
unfolding physical_in
length_word is_volume e = absurd (omega arith)
length_word is_mass e = absurd (omega arith)
length_word is_length e = record { long = refl; says = refl }
length_word is_temperature e = absurd (omega arith)
length_word is_time e = absurd (omega arith)

time_word : {w : List ℕ} {q : PhysicalQuantity} → PhysicalWord w q → get_or w 1 0 ≡ 105 → Worded w q 4 Time
unfolding physical_in
time_word is_volume e = absurd (omega arith)
time_word is_mass e = absurd (omega arith)
time_word is_length e = absurd (omega arith)
time_word is_temperature e = absurd (omega arith)
time_word is_time e = record { long = refl; says = refl }

other_word : {w : List ℕ} {q : PhysicalQuantity} → PhysicalWord w q → (get_or w 0 0 ≡ 118 → ⊥) → (get_or w 0 0 ≡ 109 → ⊥) → (get_or w 0 0 ≡ 108 → ⊥)
    → (get_or w 1 0 ≡ 105 → ⊥) → Worded w q 11 Temperature
unfolding physical_in
other_word is_volume n m l i = absurd (n refl)
other_word is_mass n m l i = absurd (m refl)
other_word is_length n m l i = absurd (l refl)
other_word is_temperature n m l i = record { long = refl; says = refl }
other_word is_time n m l i = absurd (i refl)

-- ---- the ways of `unit_at`: f is the name that it finds

module _ (s : List ℕ) (at : ℕ) {f : List ℕ} (h : is_list_from s at ≡ true) (l : at < length s) (e : f ≡ field_at s at) where
  it : Ahead (drop at s)
  it = ahead s at h l

  its : f ≡ it.name
  its = field_at_lem s at it (omega arith) e

  first_letter : get_or s (at + length f + 1) 0 ≡ get_or it.word 0 0
  first_letter =
      let w = word_least it.stands in
      let k : at + length f + 1 ≡ at + length it.name + 1 + 0 = omega (arith, ap length its) in
      rw k (letter_at s at it 0 (omega arith))

  second_letter : get_or s (at + length f + 1 + 1) 0 ≡ get_or it.word 1 0
  second_letter =
      let w = word_least it.stands in
      let k : at + length f + 1 + 1 ≡ at + length it.name + 1 + 1 = omega (arith, ap length its) in
      rw k (letter_at s at it 1 (omega arith))

  -- both letters are there
  pub letters_in : at + length f + 1 + 1 < length s
  letters_in = omega (arith, word_least it.stands, long s at it, ap length its)

  turned : {p : Physical} (n k : ℕ) → Worded it.word it.quantity n p → k ≡ at + length f + 1 + n + 1
      → UnitTurn s at (record { name_end = at + length f; next = k; physical = p })
  turned {p} n k w q =
      let i : k ≡ at + length it.name + 1 + length it.word + 1 = omega (arith, w.long, ap length its) in
      rw its (turn s at it k p i w.says)

  pub volume_turn : get_or s (at + length f + 1) 0 ≡ 118 → UnitTurn s at (record { name_end = at + length f; next = at + length f + 1 + 7; physical = Volume })
  volume_turn q = turned 6 _ (volume_word it.stands (sym first_letter ∙ q)) (omega arith)

  pub mass_turn : get_or s (at + length f + 1) 0 ≡ 109 → UnitTurn s at (record { name_end = at + length f; next = at + length f + 1 + 5; physical = Mass })
  mass_turn q = turned 4 _ (mass_word it.stands (sym first_letter ∙ q)) (omega arith)

  pub length_turn : get_or s (at + length f + 1) 0 ≡ 108 → UnitTurn s at (record { name_end = at + length f; next = at + length f + 1 + 7; physical = Length })
  length_turn q = turned 6 _ (length_word it.stands (sym first_letter ∙ q)) (omega arith)

  pub time_turn : get_or s (at + length f + 1 + 1) 0 ≡ 105 → UnitTurn s at (record { name_end = at + length f; next = at + length f + 1 + 5; physical = Time })
  time_turn q = turned 4 _ (time_word it.stands (sym second_letter ∙ q)) (omega arith)

  pub temperature_turn : (get_or s (at + length f + 1) 0 ≡ 118 → ⊥) → (get_or s (at + length f + 1) 0 ≡ 109 → ⊥) → (get_or s (at + length f + 1) 0 ≡ 108 → ⊥)
      → (get_or s (at + length f + 1 + 1) 0 ≡ 105 → ⊥) → UnitTurn s at (record { name_end = at + length f; next = at + length f + 1 + 12; physical = Temperature })
  temperature_turn n m o i =
      turned 11 _
      (other_word it.stands (λ q. n (first_letter ∙ q)) (λ q. m (first_letter ∙ q)) (λ q. o (first_letter ∙ q)) (λ q. i (second_letter ∙ q)))
      (omega arith)
