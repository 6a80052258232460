-- The search for a name along a chain of lines.
use Prim.Native.Nat.{ℕ, zero, suc, ◌-◌, ◌/◌, ◌%◌, ◌≤◌, ◌<◌}
use mathlib.Core.Path.{◌≡◌, refl, ap, sym, ◌∙◌}
use mathlib.Core.Bool.{Bool, true, false}
use mathlib.Core.List.{List, [], ◌∷◌}
use Rattle.std.specs.Prelude.{Option, None, Some, IsSome, MatchOption}
use native.Mathlib.Omega.{arith}
use native.Mathlib.Nat.{mod-lt}
use borrow.Author.Tests.{lt-ltb, le-ltb, ltb-true}
use lib.Dec.{ltb}
use lib.ListN.{length, drop, length-drop}
use Rattle.rules.specs.Basic.{eq_list, is_some, on_some}
use Rattle.rules.specs.Utf8.{is_utf8, chars, encode}
use Rattle.rules.specs.Units.{find_unit}
use Rattle.rules.proofs.Basics.{pick_either}
use Rattle.rules.proofs.SameChars.{eq_true, same_chars}
use Rattle.content.specs.Contents.{content_in}
use Rattle.chains.specs.Hashes.{hash_of, Hashed}
use Rattle.chains.specs.Rows.{find_in, head_in}
use Rattle.chains.proofs.Seeks.{find_miss, Seeking, seek_starts, seek_most, seek_gone, seek_hit, seek_on, next_less}
use Rattle.units.specs.declared.UnitAt.{UnitAt}
use Rattle.units.specs.Quantities.{physical_in}
use Rattle.units.specs.Lists.{units_from, part, named_as, UnitTurn}
use Rattle.unit_index.specs.Index.{head, start, next, longest, bucket, first_of, names, LineIn, Filled, Indexed, Linked}
use Rattle.unit_index.proofs.Sizes.{content_long}
use Rattle.unit_index.proofs.Names.{first_name, find_drop, gone_all, found_all}

-- ---- a line

pub line_there : {units : List ℕ} {from : ℕ} → LineIn units from → (r : Option UnitAt) → MatchOption r (units_from units from ≡ []) (UnitTurn units from) → IsSome r
line_there i None e = absurd (omega (arith, i.more, ap length e))
line_there i (Some u) e = refl

-- the chain of a hash
pub bucket_of : {k : List ℕ} {h : ℕ} → Hashed k h → h % 256 ≡ bucket k
bucket_of h = ap (λ (x : ℕ). x % 256) h.is

pub bucket_small : (k : List ℕ) → bucket k < 256
bucket_small k = mod-lt (hash_of k) (omega arith)

-- ---- the ways of `first_of`

module _ (index s : List ℕ) where
  pub first_none : longest index < length s / 2 → 0 ≡ first_of index s
  unfolding first_of
  first_none h = rw (lt-ltb (longest index) (length s / 2) h)

  pub first_head : {p b : ℕ} → length s / 2 ≤ longest index → b ≡ bucket (content_in s) → p ≡ head index b → p ≡ first_of index s
  unfolding first_of
  first_head h e q = q ∙ rw (le-ltb (longest index) (length s / 2) h, e)

-- ---- the walk

nonzero : (p : ℕ) → (p ≡ 0 → ⊥) → p ≡ suc (p - 1)
nonzero zero n = absurd (n refl)
nonzero (suc k) n = omega arith

pub linked_below : {units : List ℕ} {p : ℕ} → Linked units p → p - 1 < length (units_from units 0)
linked_below l = omega (arith, l.some, l.most)

module _ {units index : List ℕ} {n : ℕ} (z : Filled units index n) where
  pub seek_first : {k : List ℕ} {p b : ℕ} → p ≡ head index b → b ≡ bucket k → Seeking bucket (names units) n k p
  seek_first {k} {p} {b} e h =
      seek_starts bucket (names units) (e ∙ (z.heads b (rw h (bucket_small k)) ∙ ap (λ (d : ℕ). head_in bucket (names units) d n) h))

  -- no line has a name that is too long
  too_long : (k : List ℕ) (i : ℕ) → i ≤ n → longest index < length (encode k) → find_in (names units) k i ≡ None
  unfolding find_in
  too_long k zero h l = refl
  too_long k (suc i) h l = find_miss (names units) k i (other (eq_list k (names units i)) refl) ∙ too_long k i (omega arith) l
    where
      other : (t : Bool) → eq_list k (names units i) ≡ t → t ≡ false
      other false e = refl
      other true e = absurd (omega (arith, z.short i (omega arith), ap (λ (x : List ℕ). length (encode x)) (eq_true k (names units i) e)))

  pub seek_content : (s : List ℕ) {p : ℕ} → p ≡ first_of index s → Seeking bucket (names units) n (content_in s) p
  unfolding first_of head_in find_in
  seek_content s {p} e =
      rw e
      (pick_either (Seeking bucket (names units) n (content_in s)) (ltb (longest index) (length s / 2)) _ _
      (λ t. let h = ltb-true (longest index) (length s / 2) t in
      record { upto = 0; most = omega arith; at = refl; is = sym (too_long (content_in s) n (omega arith) (omega (arith, content_long s))) })
      (λ _. seek_first refl refl))

  -- a line that is in the index
  module _ {i : ℕ} (l : i < n) where
    pub line_few : i < 1024
    line_few = omega (arith, z.few, z.most)

    pub line_in : LineIn units (start index i)
    line_in = let w = z.lines i l in record { list = w.list; more = omega (arith, ap length w.is, length-drop i (units_from units 0), z.few) }

    module _ {from : ℕ} (e : from ≡ start index i) {u : UnitAt} (w : UnitTurn units from u) where
      pub line_rest : drop i (units_from units 0) ≡ named_as (part units from u.name_end) (physical_in u.physical) ∷ units_from units u.next
      line_rest = sym (z.lines i l).is ∙ ap (units_from units) (sym e) ∙ w.is

      pub line_name : names units i ≡ chars (part units from u.name_end)
      unfolding named_as
      line_name = first_name (units_from units 0) i line_rest

      -- its quantity is what its name stands for
      pub line_stands : (k : List ℕ) → eq_list k (names units i) ≡ true → Some (physical_in u.physical) ≡ find_unit k (units_from units 0)
      line_stands k q =
          let c : find_in (names units) k i ≡ None = ap (λ (x : List ℕ). find_in (names units) x i) (eq_true k (names units i) q) ∙ z.once i l in
          let f : find_unit k (drop i (units_from units 0)) ≡ Some (physical_in u.physical) = rw line_rest here in
          sym (find_drop (units_from units 0) k i c ∙ f)
        where
          here : find_unit k (named_as (part units from u.name_end) (physical_in u.physical) ∷ units_from units u.next) ≡ Some (physical_in u.physical)
          here = unfold find_unit named_as in rw (sym (ap (eq_list k) line_name) ∙ q)

  module _ {k : List ℕ} {p : ℕ} (v : Seeking bucket (names units) n k p) (t : p ≡ 0 → ⊥) where
    pub seek_below : p - 1 < n
    seek_below = omega (arith, seek_most bucket (names units) v, nonzero p t)

    pub seek_few : p - 1 < 1024
    seek_few = line_few seek_below

    pub seek_less : {q : ℕ} → q ≡ next index (p - 1) → q < p
    seek_less g = next_less bucket (names units) v (nonzero p t) (g ∙ z.nexts (p - 1) seek_below)

    module _ {r : Bool} (s : r ≡ eq_list k (names units (p - 1))) where
      pub seek_found : r ≡ true → Some (p - 1) ≡ find_in (names units) k n
      seek_found h = seek_hit bucket (names units) v (nonzero p t) (sym s ∙ h)

      pub seek_next : {q : ℕ} → r ≡ false → q ≡ next index (p - 1) → Seeking bucket (names units) n k q
      seek_next h g = seek_on bucket (names units) v (nonzero p t) (sym s ∙ h) (g ∙ z.nexts (p - 1) seek_below)

-- ---- the name is in UTF-8, and the first lines are searched

module _ (name : List ℕ) {units index : List ℕ} {n p : ℕ} (z : Filled units index n) (o : is_utf8 name ≡ true) (v : Seeking bucket (names units) n (chars name) p) where
  pub name_gone : p ≡ 0 → false ≡ is_some (find_in (names units) (chars name) n)
  unfolding is_some
  name_gone q = rw (← seek_gone bucket (names units) v q)

  module _ (t : p ≡ 0 → ⊥) {from : ℕ} (e : from ≡ start index (p - 1)) {u : UnitAt} (w : UnitTurn units from u) {r : Bool} (s : r ≡ eq_list name (part units from u.name_end)) where
    pub name_same : r ≡ eq_list (chars name) (names units (p - 1))
    name_same = s ∙ sym (same_chars name (part units from u.name_end) o w.utf8) ∙ ap (eq_list (chars name)) (sym (line_name z (seek_below z v t) e w))

    pub name_found : r ≡ true → true ≡ is_some (find_in (names units) (chars name) n)
    unfolding is_some
    name_found h = rw (← seek_found z v t name_same h)

    pub name_next : {q : ℕ} → r ≡ false → q ≡ next index (p - 1) → Seeking bucket (names units) n (chars name) q
    name_next h g = seek_next z v t name_same h g

-- ---- all lines are searched for a content

module _ {units index : List ℕ} (x : Indexed units index) where
  module _ {k : List ℕ} {p : ℕ} (v : Seeking bucket (names units) (length (units_from units 0)) k p) where
    gone : p ≡ 0 → find_unit k (units_from units 0) ≡ None
    gone q = gone_all (units_from units 0) k (sym (seek_gone bucket (names units) v q))

    pub content_gone : p ≡ 0 → on_some physical_in None ≡ find_unit k (units_from units 0)
    unfolding on_some
    content_gone q = sym (gone q)

    pub content_none : p ≡ 0 → is_some (find_unit k (units_from units 0)) ≡ false
    unfolding is_some
    content_none q = rw (gone q)

    module _ (t : p ≡ 0 → ⊥) where
      pub content_linked : Linked units p
      content_linked = record { some = omega (arith, nonzero p t); most = seek_most bucket (names units) v }

      pub content_has : {r : Bool} → r ≡ eq_list k (names units (p - 1)) → r ≡ true → is_some (find_unit k (units_from units 0)) ≡ true
      content_has s h = found_all (units_from units 0) k (sym (seek_found x.filled v t s h))

      module _ {from : ℕ} (e : from ≡ start index (p - 1)) {u : UnitAt} (w : UnitTurn units from u) {r : Bool} (s : r ≡ eq_list k (chars (part units from u.name_end))) where
        content_same : r ≡ eq_list k (names units (p - 1))
        content_same = s ∙ ap (eq_list k) (sym (line_name x.filled (seek_below x.filled v t) e w))

        pub content_found : r ≡ true → on_some physical_in (Some u.physical) ≡ find_unit k (units_from units 0)
        unfolding on_some
        content_found h = line_stands x.filled (seek_below x.filled v t) e w k (sym content_same ∙ h)

        pub content_next : {q : ℕ} → r ≡ false → q ≡ next index (p - 1) → Seeking bucket (names units) (length (units_from units 0)) k q
        content_next h g = seek_next x.filled v t content_same h g
