-- One line more in the index, and all of them.
use Prim.Native.Nat.{ℕ, suc, ◌+◌, ◌*◌, ◌≤◌, ◌<◌}
use mathlib.Core.Path.{◌≡◌, refl, ap, sym, ◌∙◌}
use mathlib.Core.Bool.{Bool, true, false}
use mathlib.Core.List.{List, [], ◌∷◌, ◌++◌}
use Rattle.std.specs.Prelude.{Option, None, Some, Ok, Err}
use native.Mathlib.Omega.{arith}
use native.Mathlib.Numerals.{add-one}
use borrow.Author.Tests.{eqb-true, eqb-false, leb-true, lt-ltb, le-ltb, ltb-true, ltb-false}
use lib.Dec.{eqb, leb, ltb}
use lib.ListN.{length, get_or, set, take, drop, replicate, length-set, length-append, length-drop, length-replicate, get_or-append, get_or-replicate}
use lib.Seq.{get_or-set_same, get_or-set_other, length-take-le}
use Rattle.rules.specs.Basic.{pick, is_some}
use Rattle.rules.specs.Utf8.{chars, encode}
use Rattle.rules.specs.Sheet.{lines}
use Rattle.rules.specs.Units.{NamedUnit, units_of, at_most1024, read_units, units_or}
use Rattle.rules.proofs.Basics.{pick_either, by_order, no_truth}
use Rattle.rules.proofs.Encodes.{encode_chars}
use Rattle.refusals.specs.declared.Reason.TheVariants as reason
use Rattle.chains.specs.Rows.{find_in, head_in}
use Rattle.units.specs.declared.UnitAt.{UnitAt}
use Rattle.units.specs.Quantities.{physical_in}
use Rattle.units.specs.Lists.{units_from, part, named_as, UnitTurn}
use Rattle.units.proofs.Walks.{list_starts, units_start}
use Rattle.rules.specs.Answer.{number_if, units_refused}
use Rattle.unit_index.specs.Index.{head, start, next, longest, bucket, names, Placed, Filled, Cleared, LongestKept, LinePushed, Named, LineAdded, AllAdded, UnitsIndexed}
use Rattle.unit_index.proofs.Names.{first_name, first_rest, all_once, one_twice}
use Rattle.unit_index.proofs.Searches.{bucket_small}

-- ---- no lines

module _ (m : List ℕ) {p : List ℕ} (h : length m ≡ 2305) (e : p ≡ replicate (length (take 256 m)) 0) where
  heads_length : length p ≡ 256
  heads_length = ap (λ (l : List ℕ). length l) e ∙ length-replicate _ 0 ∙ length-take-le 256 m (omega arith)

  pub heads_cleared : Cleared (p ++ drop 256 m)
  heads_cleared =
      record {
        long = length-append p (drop 256 m) ∙ omega (arith, heads_length, length-drop 256 m);
        heads = λ b l. get_or-append p (drop 256 m) 0 b (omega (arith, heads_length)) ∙ ap (λ (w : List ℕ). get_or w b 0) e ∙ get_or-replicate _ b 0 0 (omega (arith, length-take-le 256 m (omega arith)));
      }

-- ---- the longest name

module _ (m : List ℕ) (size : ℕ) where
  pub longer_kept : longest m < size → LongestKept m size (set m 2304 size)
  longer_kept h = record { is = rw (lt-ltb (longest m) size h) }

  pub same_kept : size ≤ longest m → LongestKept m size m
  same_kept h = record { is = rw (le-ltb (longest m) size h) }

module _ {units m : List ℕ} {n : ℕ} (z : Filled units m n) where
  -- with another last word that is no less
  longer_filled : (x : ℕ) → longest m < x → Filled units (set m 2304 x) n
  longer_filled x h =
      record {
        long = length-set m 2304 x ∙ z.long;
        few = z.few;
        most = z.most;
        lines = λ i l. rw (get_or-set_other m 2304 (256 + i * 2) x 0 (λ q. omega (arith, z.few, z.most))) (z.lines i l);
        heads = λ b l. get_or-set_other m 2304 b x 0 (λ q. omega arith) ∙ z.heads b l;
        nexts = λ i l. get_or-set_other m 2304 (257 + i * 2) x 0 (λ q. omega (arith, z.few, z.most)) ∙ z.nexts i l;
        once = z.once;
        short = λ i l. rw (get_or-set_same m 2304 x 0 (omega (arith, z.long))) (omega (arith, z.short i l));
      }

  pub kept_filled : {size : ℕ} {w : List ℕ} → LongestKept m size w → Filled units w n
  kept_filled {size} k =
      rw k.is (pick_either (λ (w : List ℕ). Filled units w n) (ltb (longest m) size) _ _ (λ t. longer_filled size (ltb-true (longest m) size t)) (λ _. z))

  pub kept_size : {size : ℕ} {w : List ℕ} → LongestKept m size w → size ≤ longest w
  kept_size {size} k =
      rw k.is
      (pick_either (λ (w : List ℕ). size ≤ longest w) (ltb (longest m) size) _ _ (λ _. rw (get_or-set_same m 2304 size 0 (omega (arith, z.long))) (omega arith))
      (λ f. ltb-false (longest m) size f))

-- ---- one line more

split_last : {P : Type 0} (i n : ℕ) → i < suc n → (i < n → P) → (i ≡ n → P) → P
split_last i n l a b = by_order n i (λ h. b (omega arith)) (λ h. a h)

module _ (m : List ℕ) (n b from x : ℕ) (few : n < 1024) (small : b < 256) (long : length m ≡ 2305) where
  abbrev with_start : List ℕ
  with_start = set m (256 + n * 2) from

  abbrev with_next : List ℕ
  with_next = set with_start (257 + n * 2) (head m b)

  abbrev with_line : List ℕ
  with_line = set with_next b x

  start_old : (i : ℕ) → i < n → start with_line i ≡ start m i
  start_old i l =
      get_or-set_other with_next b (256 + i * 2) x 0 (λ q. omega arith) ∙ get_or-set_other with_start (257 + n * 2) (256 + i * 2) (head m b) 0 (λ q. omega arith)
      ∙ get_or-set_other m (256 + n * 2) (256 + i * 2) from 0 (λ q. omega arith)

  start_new : start with_line n ≡ from
  start_new =
      get_or-set_other with_next b (256 + n * 2) x 0 (λ q. omega arith) ∙ get_or-set_other with_start (257 + n * 2) (256 + n * 2) (head m b) 0 (λ q. omega arith)
      ∙ get_or-set_same m (256 + n * 2) from 0 (omega arith)

  next_old : (i : ℕ) → i < n → next with_line i ≡ next m i
  next_old i l =
      get_or-set_other with_next b (257 + i * 2) x 0 (λ q. omega arith) ∙ get_or-set_other with_start (257 + n * 2) (257 + i * 2) (head m b) 0 (λ q. omega arith)
      ∙ get_or-set_other m (256 + n * 2) (257 + i * 2) from 0 (λ q. omega arith)

  next_new : next with_line n ≡ head m b
  next_new =
      get_or-set_other with_next b (257 + n * 2) x 0 (λ q. omega arith)
      ∙ get_or-set_same with_start (257 + n * 2) (head m b) 0 (omega (arith, length-set m (256 + n * 2) from))

  head_own : head with_line b ≡ x
  head_own = get_or-set_same with_next b x 0 (omega (arith, length-set with_start (257 + n * 2) (head m b), length-set m (256 + n * 2) from))

  head_other : (d : ℕ) → d < 256 → (d ≡ b → ⊥) → head with_line d ≡ head m d
  head_other d l g =
      get_or-set_other with_next b d x 0 g ∙ get_or-set_other with_start (257 + n * 2) d (head m b) 0 (λ q. omega arith) ∙ get_or-set_other m (256 + n * 2) d from 0 (λ q. omega arith)

  longest_same : longest with_line ≡ longest m
  longest_same =
      get_or-set_other with_next b 2304 x 0 (λ q. omega arith) ∙ get_or-set_other with_start (257 + n * 2) 2304 (head m b) 0 (λ q. omega arith)
      ∙ get_or-set_other m (256 + n * 2) 2304 from 0 (λ q. omega arith)

  module _ {units : List ℕ} (z : Filled units m n) (hash : b ≡ bucket (names units n)) (e : x ≡ suc n) (room : n < length (units_from units 0))
      (there : Placed units n from) (gone : find_in (names units) (names units n) n ≡ None) (fits : length (encode (names units n)) ≤ longest m) where
    heads_now : (d : ℕ) → d < 256 → head with_line d ≡ head_in bucket (names units) d (suc n)
    unfolding head_in
    heads_now d l = go (eqb (bucket (names units n)) d) refl
      where
        go : (t : Bool) → eqb (bucket (names units n)) d ≡ t → head with_line d ≡ pick (eqb (bucket (names units n)) d) (suc n) (head_in bucket (names units) d n)
        go true q = let h : d ≡ b = sym (eqb-true (bucket (names units n)) d q) ∙ sym hash in rw (q, h) (head_own ∙ e)
        go false q = rw q (head_other d l (λ h. eqb-false (bucket (names units n)) d q (sym hash ∙ sym h)) ∙ z.heads d l)

    pub line_filled : Filled units with_line (suc n)
    line_filled =
        record {
          long = length-set with_next b x ∙ length-set with_start (257 + n * 2) (head m b) ∙ length-set m (256 + n * 2) from ∙ long;
          few = omega arith;
          most = z.most;
          lines = λ i l. split_last i n l (λ g. rw (start_old i g) (z.lines i g)) (λ q. rw (q, start_new) there);
          heads = heads_now;
          nexts = λ i l. split_last i n l (λ g. next_old i g ∙ z.nexts i g) (λ q. rw q (next_new ∙ z.heads b small ∙ ap (λ (d : ℕ). head_in bucket (names units) d n) hash));
          once = λ i l. split_last i n l (z.once i) (λ q. rw q gone);
          short = λ i l. rw longest_same (split_last i n l (z.short i) (λ q. rw q fits));
        }

module _ {units m : List ℕ} {n from to : ℕ} (z : Filled units m n) (y : Named units n from to) {r : Bool} (told : r ≡ is_some (find_in (names units) (chars (part units from to)) n)) where
  told_name : r ≡ is_some (find_in (names units) (names units n) n)
  told_name = told ∙ ap (λ (k : List ℕ). is_some (find_in (names units) k n)) (sym y.name)

  pub added_twice : r ≡ true → LineAdded units n m true
  added_twice h = record { long = z.long; told = sym h ∙ told_name; filled = λ q. no_truth (sym q) }

  pub added_line : {b : ℕ} {w : List ℕ} → b ≡ bucket (chars (part units from to)) → r ≡ false → length (part units from to) ≤ longest m → LinePushed m n b from w → LineAdded units n w false
  added_line {b} {w} h q l s = rw s.is (record { long = f.long; told = sym q ∙ told_name; filled = λ _. at_count (n + 1) (sym (add-one n)) f })
    where
      at_count : {w : List ℕ} (c : ℕ) → suc n ≡ c → Filled units w (suc n) → Filled units w c
      at_count c g y = rw g at y

      small : b < 256
      small = rw h (bucket_small (chars (part units from to)))

      none_is : (o : Option ℕ) → is_some o ≡ false → o ≡ None
      none_is None e = refl
      none_is (Some i) e = unfold is_some in no_truth (sym e)

      f : Filled units (with_line m n b from (n + 1) (omega (arith, y.few, z.most)) small z.long) (suc n)
      f = line_filled m n b from (n + 1) (omega (arith, y.few, z.most)) small z.long z (h ∙ ap bucket (sym y.name)) (add-one n) y.few y.placed (none_is _ (sym told_name ∙ q)) (rw (y.name, encode_chars (part units from to) y.utf8) l)

-- ---- all lines

pub record Adding (units index : List ℕ) (n at : ℕ) : Type 0 where
  pub filled : Filled units index n
  pub placed : Placed units n at

few_units : (o : Option (List NamedUnit)) → is_some (at_most1024 o) ≡ true → length (units_or o) ≤ 1024
unfolding at_most1024 is_some units_or
few_units None h = no_truth h
few_units (Some us) h = go (leb (length us) 1024) refl h
  where
    go : (t : Bool) → leb (length us) 1024 ≡ t → is_some (pick t (Some us) None) ≡ true → length us ≤ 1024
    go true e h = leb-true (length us) 1024 e
    go false e h = unfold is_some in no_truth h

pub add_starts : {units index : List ℕ} → is_some (read_units units) ≡ true → Cleared index → Adding units index 0 0
unfolding read_units units_from head_in
add_starts {units} {index} h c =
    record {
      filled =
          record {
            long = c.long;
            few = omega arith;
            most = few_units (units_of (lines units)) h;
            lines = λ i l. absurd (omega arith);
            heads = λ b l. c.heads b l;
            nexts = λ i l. absurd (omega arith);
            once = λ i l. absurd (omega arith);
            short = λ i l. absurd (omega arith);
          };
      placed = record { list = list_starts units h; is = refl };
    }

module _ {units index : List ℕ} {n at : ℕ} (v : Adding units index n at) where
  pub add_ends : units_from units at ≡ [] → AllAdded units index false
  add_ends e =
      let q : n ≡ length (units_from units 0) = omega (arith, v.filled.few, length-drop n (units_from units 0), ap length (sym v.placed.is ∙ e)) in
      let f : Filled units index (length (units_from units 0)) = rw q at v.filled in
      record { long = v.filled.long; told = sym (all_once (units_from units 0) f.once); filled = λ _. f }

  module _ {u : UnitAt} (t : UnitTurn units at u) where
    left : drop n (units_from units 0) ≡ named_as (part units at u.name_end) (physical_in u.physical) ∷ units_from units u.next
    left = sym v.placed.is ∙ t.is

    pub add_named : Named units n at u.name_end
    unfolding named_as
    add_named =
        record {
          placed = v.placed;
          few = omega (arith, length-drop n (units_from units 0), ap length left);
          name = first_name (units_from units 0) n left;
          utf8 = t.utf8;
          order = t.named;
          within = omega (arith, t.ended, t.within);
        }

    module _ {w : List ℕ} {r : Bool} (a : LineAdded units n w r) where
      pub add_twice : r ≡ true → AllAdded units w true
      add_twice h = record { long = a.long; told = sym (one_twice (units_from units 0) n add_named.few (sym a.told ∙ h)); filled = λ q. no_truth (sym q) }

      pub add_on : r ≡ false → Adding units w (n + 1) u.next
      add_on h = record { filled = a.filled h; placed = record { list = t.rest; is = rw (add-one n) (sym (first_rest (units_from units 0) n left)) } }

-- ---- the answer

module _ (units : List ℕ) {b : Bool} (q : b ≡ is_some (read_units units)) where
  none_read : b ≡ false → Some 5 ≡ units_refused (read_units units)
  none_read h = go (read_units units) (sym h ∙ q)
    where
      go : (o : Option (List NamedUnit)) → false ≡ is_some o → Some 5 ≡ units_refused o
      go None e = unfold units_refused in refl
      go (Some us) e = unfold is_some in no_truth e

  pub units_ill : {index : List ℕ} → length index ≡ 2305 → b ≡ false → UnitsIndexed units index index (Err reason.IllUnits)
  units_ill l h = record { long = l; is = none_read h; ill = λ _. refl; indexed = λ e. absurd (cc) }

  module _ {index : List ℕ} {t : Bool} (h : b ≡ true) (a : AllAdded units index t) where
    read_all : pick t (Some 6) None ≡ units_refused (read_units units)
    read_all = go (read_units units) (sym q ∙ h) (units_start units (sym q ∙ h))
      where
        go : (o : Option (List NamedUnit)) → is_some o ≡ true → units_from units 0 ≡ units_or o → pick t (Some 6) None ≡ units_refused o
        go None e i = unfold is_some in no_truth e
        go (Some us) e i = unfold units_refused number_if units_or in rw (a.told, i)

    pub units_twice : {index₀ : List ℕ} → t ≡ true → UnitsIndexed units index₀ index (Err reason.UnitTwice)
    units_twice e = record { long = a.long; is = rw (← read_all, e); ill = λ o. absurd (cc); indexed = λ o. absurd (cc) }

    pub units_good : {index₀ : List ℕ} → t ≡ false → UnitsIndexed units index₀ index (Ok tt)
    units_good e =
        record {
          long = a.long;
          is = rw (← read_all, e);
          ill = λ o. absurd (cc);
          indexed = λ _. record { list = sym q ∙ h; names_once = sym a.told ∙ e; filled = a.filled e };
        }
