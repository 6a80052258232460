-- One key more in the index, or another value for a key that is there: the rules' `insert_meta`.
use Prim.Native.Nat.{ℕ, zero, suc, ◌+◌, ◌-◌, ◌*◌, ◌≤◌, ◌<◌}
use mathlib.Core.Path.{◌≡◌, refl, ap, sym, ◌∙◌}
use mathlib.Core.Bool.{Bool, true, false, ◌||◌}
use mathlib.Core.List.{List, [], ◌∷◌, ◌++◌}
use Rattle.std.specs.Prelude.{None, Some, Option}
use native.Mathlib.Omega.{arith}
use native.Mathlib.Numerals.{add-one}
use borrow.Author.Tests.{eqb-true, eqb-false}
use lib.Dec.{eqb}
use borrow.Rule.Slice.PartMut.{mid_of, post_of, put_mid, mid_len, same_len_mid}
use lib.ListN.{length, get_or, set, take, replicate, length-set, length-replicate, get_or-append, get_or-replicate}
use lib.Seq.{sets, length-sets, get_or-set_same, get_or-set_other, get_or-append_right, length-take-le}
use Rattle.rules.specs.Basic.{pick, eq_list, any, each, is_some}
use Rattle.rules.specs.Model.{MetaEntry}
use Rattle.rules.specs.Metadata.{has_key, with_value, insert_meta}
use Rattle.rules.proofs.Basics.{by_order, no_some, some_inj}
use Rattle.rules.proofs.SameChars.{eq_true}
use Rattle.model.proofs.Stores.{get_or_sets_other, get_or_mid, mid_stored}
use Rattle.content.specs.Contents.{content_in, kept_in}
use Rattle.meta_map.specs.Index.{cell, head, part_at, key_at, value_at, map_in, RowIn, Indexed, RowFound, ValueSet, KeyPushed, Inserted, Cleared}
use Rattle.chains.specs.Hashes.{hash_of, Hashed}
use Rattle.chains.specs.Rows.{find_in, head_in}
use Rattle.chains.proofs.Seeks.{find_below, find_same, head_same}
use Rattle.model.specs.declared.layout.TheConstants.{INDEX_WORDS}

-- ---- a map and the search for a key

module _ (sheet m : List ℕ) where
  map_any : (k : List ℕ) (n : ℕ) → any (has_key k) (map_in sheet m n) ≡ is_some (find_in (key_at sheet m) k n)
  unfolding map_in any has_key find_in is_some
  map_any k zero = refl
  map_any k (suc i) = go (eq_list k (key_at sheet m i)) (map_any k i)
    where
      go : (t : Bool) → any (has_key k) (map_in sheet m i) ≡ is_some (find_in (key_at sheet m) k i) → (t || any (has_key k) (map_in sheet m i)) ≡ is_some (pick t (Some i) (find_in (key_at sheet m) k i))
      go true ih = refl
      go false ih = ih

  map_none : (k v : List ℕ) (n : ℕ) → find_in (key_at sheet m) k n ≡ None → insert_meta k v (map_in sheet m n) ≡ record { key = k; value = v } ∷ map_in sheet m n
  unfolding insert_meta is_some
  map_none k v n q = rw (map_any k n, q)

  map_some : (k v : List ℕ) (n i : ℕ) → find_in (key_at sheet m) k n ≡ Some i → insert_meta k v (map_in sheet m n) ≡ each (with_value k v) (map_in sheet m n)
  unfolding insert_meta is_some
  map_some k v n i q = rw (map_any k n, q)

  -- where a key is not, nothing is replaced
  each_none : (k v : List ℕ) (n : ℕ) → find_in (key_at sheet m) k n ≡ None → each (with_value k v) (map_in sheet m n) ≡ map_in sheet m n
  unfolding map_in each with_value find_in
  each_none k v zero q = refl
  each_none k v (suc i) q = go (eq_list k (key_at sheet m i)) refl q (λ p. each_none k v i p)
    where
      go : (t : Bool) → eq_list k (key_at sheet m i) ≡ t → pick t (Some i) (find_in (key_at sheet m) k i) ≡ None → (find_in (key_at sheet m) k i ≡ None → each (with_value k v) (map_in sheet m i) ≡ map_in sheet m i)
          → ◌≡◌ {A = List MetaEntry} (record { key = key_at sheet m i; value = pick (eq_list k (key_at sheet m i)) v (value_at sheet m i) } ∷ each (with_value k v) (map_in sheet m i)) (record { key = key_at sheet m i; value = value_at sheet m i } ∷ map_in sheet m i)
      go true e p ih = no_some (sym p)
      go false e p ih = rw (e, ih p)

-- two memories with the same rows
map_same : (sheet m also : List ℕ) (n : ℕ) → ((i : ℕ) → i < n → key_at sheet m i ≡ key_at sheet also i) → ((i : ℕ) → i < n → value_at sheet m i ≡ value_at sheet also i) → map_in sheet m n ≡ map_in sheet also n
unfolding map_in
map_same sheet m also zero e f = refl
map_same sheet m also (suc i) e f = rw (e i (omega arith), f i (omega arith), map_same sheet m also i (λ j l. e j (omega arith)) (λ j l. f j (omega arith)))

cells_key : (sheet m also : List ℕ) (i : ℕ) → cell m i 0 ≡ cell also i 0 → cell m i 1 ≡ cell also i 1 → key_at sheet m i ≡ key_at sheet also i
unfolding key_at
cells_key sheet m also i a b = rw (a, b)

cells_value : (sheet m also : List ℕ) (i : ℕ) → cell m i 2 ≡ cell also i 2 → cell m i 3 ≡ cell also i 3 → value_at sheet m i ≡ value_at sheet also i
unfolding value_at
cells_value sheet m also i a b = rw (a, b)

-- ---- stores

get_or_sets_after : (w : List ℕ) (at : ℕ) (vs : List ℕ) (i : ℕ) → at + length vs ≤ i → get_or (sets w at vs) i 0 ≡ get_or w i 0
get_or_sets_after w at [] i h = refl
get_or_sets_after w at (v ∷ vs) i h = get_or_sets_after (set w at v) (suc at) vs i (omega arith) ∙ get_or-set_other w at i v 0 (λ q. omega arith)

get_or_sets_own : (w : List ℕ) (at : ℕ) (vs : List ℕ) (j : ℕ) → at + length vs ≤ length w → j < length vs → get_or (sets w at vs) (at + j) 0 ≡ get_or vs j 0
get_or_sets_own w at vs j h l = sym (get_or_mid at (length vs) (sets w at vs) j l) ∙ ap (λ (x : List ℕ). get_or x j 0) (mid_stored at w vs h)

-- ---- another value

module _ (m : List ℕ) (i va ve : ℕ) where
  abbrev with_new : List ℕ
  with_new = sets m (i * 5 + 2) (va ∷ ve ∷ [])

  value_other : (p : ℕ) → (p ≡ i * 5 + 2 → ⊥) → (p ≡ i * 5 + 3 → ⊥) → get_or with_new p 0 ≡ get_or m p 0
  value_other p a b = get_or-set_other (set m (i * 5 + 2) va) (suc (i * 5 + 2)) p ve 0 (λ q. b (omega arith)) ∙ get_or-set_other m (i * 5 + 2) p va 0 a

  value_own : (j : ℕ) → j < 2 → i * 5 + 4 ≤ length m → get_or with_new (i * 5 + 2 + j) 0 ≡ get_or (va ∷ ve ∷ []) j 0
  value_own j l h = get_or_sets_own m (i * 5 + 2) (va ∷ ve ∷ []) j (omega arith) l

  row_other : (j c : ℕ) → c < 5 → (j ≡ i → ⊥) → cell with_new j c ≡ cell m j c
  row_other j c l n = value_other (j * 5 + c) (λ q. n (omega arith)) (λ q. n (omega arith))

  key_cell : (j c : ℕ) → c < 2 → cell with_new j c ≡ cell m j c
  key_cell j c l = value_other (j * 5 + c) (λ q. omega arith) (λ q. omega arith)

  next_cell : (j : ℕ) → cell with_new j 4 ≡ cell m j 4
  next_cell j = value_other (j * 5 + 4) (λ q. omega arith) (λ q. omega arith)

  head_cell : (b : ℕ) → i < 4096 → head with_new b ≡ head m b
  head_cell b l = value_other (20480 + b) (λ q. omega arith) (λ q. omega arith)

  same_key : (sheet : List ℕ) (j : ℕ) → key_at sheet with_new j ≡ key_at sheet m j
  same_key sheet j = cells_key sheet with_new m j (key_cell j 0 (omega arith)) (key_cell j 1 (omega arith))

  new_value : (sheet : List ℕ) → i * 5 + 4 ≤ length m → value_at sheet with_new i ≡ content_in (part_at sheet va ve)
  unfolding value_at
  new_value sheet h =
      let a : cell with_new i 2 ≡ va = let e : i * 5 + 2 ≡ i * 5 + 2 + 0 = omega arith in ap (λ (p : ℕ). get_or with_new p 0) e ∙ value_own 0 (omega arith) h in
      let b : cell with_new i 3 ≡ ve = let e : i * 5 + 3 ≡ i * 5 + 2 + 1 = omega arith in ap (λ (p : ℕ). get_or with_new p 0) e ∙ value_own 1 (omega arith) h in
      rw (a, b)

  other_value : (sheet : List ℕ) (j : ℕ) → (j ≡ i → ⊥) → value_at sheet with_new j ≡ value_at sheet m j
  other_value sheet j n = cells_value sheet with_new m j (row_other j 2 (omega arith) n) (row_other j 3 (omega arith) n)

  -- the map with it
  each_some : (sheet k : List ℕ) (n : ℕ) → i * 5 + 4 ≤ length m → ((j : ℕ) → j < n → find_in (key_at sheet m) (key_at sheet m j) j ≡ None) → find_in (key_at sheet m) k n ≡ Some i
      → map_in sheet with_new n ≡ each (with_value k (content_in (part_at sheet va ve))) (map_in sheet m n)
  unfolding map_in each with_value find_in
  each_some sheet k zero h o q = no_some q
  each_some sheet k (suc j) h o q = go (eq_list k (key_at sheet m j)) refl q (λ p. each_some sheet k j h (λ x l. o x (omega arith)) p)
    where
      v : List ℕ
      v = content_in (part_at sheet va ve)

      go : (t : Bool) → eq_list k (key_at sheet m j) ≡ t → pick t (Some j) (find_in (key_at sheet m) k j) ≡ Some i
          → (find_in (key_at sheet m) k j ≡ Some i → map_in sheet with_new j ≡ each (with_value k (content_in (part_at sheet va ve))) (map_in sheet m j))
          → ◌≡◌ {A = List MetaEntry} (record { key = key_at sheet with_new j; value = value_at sheet with_new j } ∷ map_in sheet with_new j)
          (record { key = key_at sheet m j; value = pick (eq_list k (key_at sheet m j)) (content_in (part_at sheet va ve)) (value_at sheet m j) } ∷ each (with_value k (content_in (part_at sheet va ve))) (map_in sheet m j))
      go true e p ih =
          let z : j ≡ i = some_inj p in
          let f : find_in (key_at sheet m) k j ≡ None = ap (λ (x : List ℕ). find_in (key_at sheet m) x j) (eq_true k (key_at sheet m j) e) ∙ o j (omega arith) in
          let a : value_at sheet with_new j ≡ content_in (part_at sheet va ve) = ap (value_at sheet with_new) z ∙ new_value sheet h in
          let b : map_in sheet with_new j ≡ map_in sheet m j = map_same sheet with_new m j (λ x l. same_key sheet x) (λ x l. other_value sheet x (λ y. omega arith)) in
          rw (same_key sheet j, a, b, e, each_none sheet m k (content_in (part_at sheet va ve)) j f)
      go false e p ih =
          let l : i < j = find_below (key_at sheet m) k j i p in
          rw (same_key sheet j, other_value sheet j (λ y. omega arith), e, ih p)

module _ {sheet m : List ℕ} {n : ℕ} (x : Indexed sheet m n) {ka ke va ve : ℕ} (r : RowIn sheet ka ke va ve) where
  module _ (i : ℕ) (q : find_in (key_at sheet m) (kept_in (part_at sheet ka ke)) n ≡ Some i) where
    below : i < n
    below = find_below (key_at sheet m) (kept_in (part_at sheet ka ke)) n i q

    keys_same : (j : ℕ) → key_at sheet m j ≡ key_at sheet (with_new m i va ve) j
    keys_same j = sym (same_key m i va ve sheet j)

    pub value_inserted : Inserted sheet m n ka ke va ve (with_new m i va ve) n
    value_inserted =
        let room : i * 5 + 4 ≤ length m = omega (arith, below, x.few, x.long) in
        record {
          map = each_some m i va ve sheet (kept_in (part_at sheet ka ke)) n room x.once q ∙ sym (map_some sheet m (kept_in (part_at sheet ka ke)) (content_in (part_at sheet va ve)) n i q);
          count = omega arith;
          indexed =
              record {
                long = length-sets m (i * 5 + 2) (va ∷ ve ∷ []) ∙ x.long;
                few = x.few;
                row = λ j l. by_order i j (λ a. by_order j i (λ b. let z : j ≡ i = omega arith in own_row room j z (x.row j l)) (λ b. other_row j (λ y. omega arith) (x.row j l))) (λ a. other_row j (λ y. omega arith) (x.row j l));
                heads = λ b l. head_cell m i va ve b (omega (arith, below, x.few)) ∙ x.heads b l ∙ head_same hash_of (key_at sheet m) (key_at sheet (with_new m i va ve)) b n (λ j g. keys_same j);
                nexts = λ j l. next_cell m i va ve j ∙ x.nexts j l ∙ head_same hash_of (key_at sheet m) (key_at sheet (with_new m i va ve)) (hash_of (key_at sheet m j)) j (λ y g. keys_same y)
                    ∙ ap (λ (k : List ℕ). head_in hash_of (key_at sheet (with_new m i va ve)) (hash_of k) j) (keys_same j);
                once = λ j l. sym (find_same (key_at sheet m) (key_at sheet (with_new m i va ve)) (key_at sheet (with_new m i va ve) j) j (λ y g. keys_same y))
                    ∙ ap (λ (k : List ℕ). find_in (key_at sheet m) k j) (same_key m i va ve sheet j) ∙ x.once j l;
              };
        }
      where
        other_row : (j : ℕ) → (j ≡ i → ⊥) → RowIn sheet (cell m j 0) (cell m j 1) (cell m j 2) (cell m j 3)
            → RowIn sheet (cell (with_new m i va ve) j 0) (cell (with_new m i va ve) j 1) (cell (with_new m i va ve) j 2) (cell (with_new m i va ve) j 3)
        other_row j d y = rw (row_other m i va ve j 0 (omega arith) d, row_other m i va ve j 1 (omega arith) d, row_other m i va ve j 2 (omega arith) d, row_other m i va ve j 3 (omega arith) d) y

        own_row : i * 5 + 4 ≤ length m → (j : ℕ) → j ≡ i → RowIn sheet (cell m j 0) (cell m j 1) (cell m j 2) (cell m j 3)
            → RowIn sheet (cell (with_new m i va ve) j 0) (cell (with_new m i va ve) j 1) (cell (with_new m i va ve) j 2) (cell (with_new m i va ve) j 3)
        own_row room j z y =
            let a : cell (with_new m i va ve) j 2 ≡ va = let e : j * 5 + 2 ≡ i * 5 + 2 + 0 = omega arith in ap (λ (p : ℕ). get_or (with_new m i va ve) p 0) e ∙ value_own m i va ve 0 (omega arith) room in
            let b : cell (with_new m i va ve) j 3 ≡ ve = let e : j * 5 + 3 ≡ i * 5 + 2 + 1 = omega arith in ap (λ (p : ℕ). get_or (with_new m i va ve) p 0) e ∙ value_own m i va ve 1 (omega arith) room in
            rw (key_cell m i va ve j 0 (omega arith), key_cell m i va ve j 1 (omega arith), a, b)
            record { key_order = y.key_order; key_most = y.key_most; value_order = r.value_order; value_most = r.value_most; key = y.key; value = r.value }

-- ---- one key more

split_last : {P : Type 0} (i n : ℕ) → i < suc n → (i < n → P) → (i ≡ n → P) → P
split_last i n l a b = by_order n i (λ h. b (omega arith)) (λ h. a h)

module _ (m : List ℕ) (n b ka ke va ve x : ℕ) (few : n < 4096) (long : length m ≡ INDEX_WORDS) where
  abbrev words : List ℕ
  words = ka ∷ ke ∷ va ∷ ve ∷ head m b ∷ []

  abbrev stored : List ℕ
  stored = sets m (n * 5) words

  abbrev with_key : List ℕ
  with_key = set stored (20480 + b) x

  old_cell : (i c : ℕ) → i < n → c < 5 → cell with_key i c ≡ cell m i c
  old_cell i c l g = get_or-set_other stored (20480 + b) (i * 5 + c) x 0 (λ q. omega arith) ∙ get_or_sets_other m (n * 5) words (i * 5 + c) (omega arith)

  new_cell : (c : ℕ) → c < 5 → cell with_key n c ≡ get_or words c 0
  new_cell c g = get_or-set_other stored (20480 + b) (n * 5 + c) x 0 (λ q. omega arith) ∙ get_or_sets_own m (n * 5) words c (omega arith) g

  own_head : b < 1024 → head with_key b ≡ x
  own_head l = get_or-set_same stored (20480 + b) x 0 (omega (arith, length-sets m (n * 5) words))

  other_head : (d : ℕ) → (d ≡ b → ⊥) → head with_key d ≡ head m d
  other_head d g = get_or-set_other stored (20480 + b) (20480 + d) x 0 (λ q. g (omega arith)) ∙ get_or_sets_after m (n * 5) words (20480 + d) (omega arith)

  old_key : (sheet : List ℕ) (i : ℕ) → i < n → key_at sheet m i ≡ key_at sheet with_key i
  old_key sheet i l = cells_key sheet m with_key i (sym (old_cell i 0 l (omega arith))) (sym (old_cell i 1 l (omega arith)))

  old_value : (sheet : List ℕ) (i : ℕ) → i < n → value_at sheet m i ≡ value_at sheet with_key i
  old_value sheet i l = cells_value sheet m with_key i (sym (old_cell i 2 l (omega arith))) (sym (old_cell i 3 l (omega arith)))

  own_key : (sheet : List ℕ) → key_at sheet with_key n ≡ kept_in (part_at sheet ka ke)
  unfolding key_at
  own_key sheet = rw (new_cell 0 (omega arith), new_cell 1 (omega arith))

  own_value : (sheet : List ℕ) → value_at sheet with_key n ≡ content_in (part_at sheet va ve)
  unfolding value_at
  own_value sheet = rw (new_cell 2 (omega arith), new_cell 3 (omega arith))

  old_row : (sheet : List ℕ) (i : ℕ) → i < n → RowIn sheet (cell m i 0) (cell m i 1) (cell m i 2) (cell m i 3)
      → RowIn sheet (cell with_key i 0) (cell with_key i 1) (cell with_key i 2) (cell with_key i 3)
  old_row sheet i l y = rw (old_cell i 0 l (omega arith), old_cell i 1 l (omega arith), old_cell i 2 l (omega arith), old_cell i 3 l (omega arith)) y

  own_row : (sheet : List ℕ) (i : ℕ) → i ≡ n → RowIn sheet ka ke va ve → RowIn sheet (cell with_key i 0) (cell with_key i 1) (cell with_key i 2) (cell with_key i 3)
  own_row sheet i e y = rw (e, new_cell 0 (omega arith), new_cell 1 (omega arith), new_cell 2 (omega arith), new_cell 3 (omega arith)) y

  module _ {sheet : List ℕ} (z : Indexed sheet m n) (row : RowIn sheet ka ke va ve) (small : b < 1024) (hash : b ≡ hash_of (kept_in (part_at sheet ka ke))) (e : x ≡ suc n)
      (gone : find_in (key_at sheet m) (kept_in (part_at sheet ka ke)) n ≡ None) where
    abbrev keys : ℕ → List ℕ
    keys = key_at sheet m

    abbrev now : ℕ → List ℕ
    now = key_at sheet with_key

    heads_now : (d : ℕ) → d < 1024 → head with_key d ≡ head_in hash_of now d (suc n)
    unfolding head_in
    heads_now d l = go (eqb (hash_of (now n)) d) refl
      where
        go : (t : Bool) → eqb (hash_of (now n)) d ≡ t → head with_key d ≡ pick (eqb (hash_of (now n)) d) (suc n) (head_in hash_of now d n)
        go true q =
            let h : d ≡ b = sym (eqb-true (hash_of (now n)) d q) ∙ ap hash_of (own_key sheet) ∙ sym hash in
            rw (q, h) (own_head small ∙ e)
        go false q =
            rw q (other_head d (λ h. eqb-false (hash_of (now n)) d q (ap hash_of (own_key sheet) ∙ sym hash ∙ sym h)) ∙ z.heads d l ∙ head_same hash_of keys now d n (old_key sheet))

    next_old : (i : ℕ) → i < n → cell with_key i 4 ≡ head_in hash_of now (hash_of (now i)) i
    next_old i l =
        old_cell i 4 l (omega arith) ∙ z.nexts i l ∙ head_same hash_of keys now (hash_of (keys i)) i (λ j g. old_key sheet j (omega arith))
        ∙ ap (λ (k : List ℕ). head_in hash_of now (hash_of k) i) (old_key sheet i l)

    next_new : cell with_key n 4 ≡ head_in hash_of now (hash_of (now n)) n
    next_new =
        new_cell 4 (omega arith) ∙ z.heads b small ∙ head_same hash_of keys now b n (old_key sheet)
        ∙ ap (λ (d : ℕ). head_in hash_of now d n) (hash ∙ ap hash_of (sym (own_key sheet)))

    once_old : (i : ℕ) → i < n → find_in now (now i) i ≡ None
    once_old i l = sym (find_same keys now (now i) i (λ j g. old_key sheet j (omega arith))) ∙ ap (λ (k : List ℕ). find_in keys k i) (sym (old_key sheet i l)) ∙ z.once i l

    once_new : find_in now (now n) n ≡ None
    once_new = sym (find_same keys now (now n) n (old_key sheet)) ∙ ap (λ (k : List ℕ). find_in keys k n) (own_key sheet) ∙ gone

    map_now : map_in sheet with_key (suc n) ≡ record { key = kept_in (part_at sheet ka ke); value = content_in (part_at sheet va ve) } ∷ map_in sheet m n
    unfolding map_in
    map_now = rw (own_key sheet, own_value sheet, sym (map_same sheet m with_key n (old_key sheet) (old_value sheet)))

    key_inserted : Inserted sheet m n ka ke va ve with_key (suc n)
    key_inserted =
        record {
          map = map_now ∙ sym (map_none sheet m (kept_in (part_at sheet ka ke)) (content_in (part_at sheet va ve)) n gone);
          count = omega arith;
          indexed =
              record {
                long = length-set stored (20480 + b) x ∙ length-sets m (n * 5) words ∙ long;
                few = omega arith;
                row = λ i l. split_last i n l (λ g. old_row sheet i g (z.row i g)) (λ q. own_row sheet i q row);
                heads = heads_now;
                nexts = λ i l. split_last i n l (next_old i) (λ q. rw q next_new);
                once = λ i l. split_last i n l (once_old i) (λ q. rw q once_new);
              };
        }

-- ---- what the functions leave

module _ {sheet m₀ : List ℕ} {n ka ke va ve : ℕ} (z : Indexed sheet m₀ n) (row : RowIn sheet ka ke va ve) {f : Option ℕ} (p : RowFound sheet m₀ n (part_at sheet ka ke) f) where
  pub inserted_value : {m : List ℕ} {i : ℕ} → f ≡ Some i → ValueSet m₀ i va ve m → Inserted sheet m₀ n ka ke va ve m n
  inserted_value {m} {i} e s = rw s.is (value_inserted z row i (sym p.is ∙ e))

  pub found_below : {i : ℕ} → f ≡ Some i → i < 4096
  found_below {i} e = omega (arith, find_below (key_at sheet m₀) (kept_in (part_at sheet ka ke)) n i (sym p.is ∙ e), z.few)

  pub inserted_key : {m : List ℕ} {b : ℕ} → n < 4096 → Hashed (kept_in (part_at sheet ka ke)) b → f ≡ None → KeyPushed m₀ n b ka ke va ve m → Inserted sheet m₀ n ka ke va ve m (n + 1)
  inserted_key {m} {b} l h e s =
      let k : Inserted sheet m₀ n ka ke va ve (with_key m₀ n b ka ke va ve (n + 1) l z.long) (suc n) = key_inserted m₀ n b ka ke va ve (n + 1) l z.long z row h.small h.is (add-one n) (sym p.is ∙ e) in
      let q : n + 1 ≡ suc n = add-one n in
      at_count (n + 1) (sym q) (rw s.is k)
    where
      at_count : {w : List ℕ} (r : ℕ) → suc n ≡ r → Inserted sheet m₀ n ka ke va ve w (suc n) → Inserted sheet m₀ n ka ke va ve w r
      at_count r q y = rw q at y

-- ---- no rows

pub heads_cleared : (m : List ℕ) {p : List ℕ} → length m ≡ INDEX_WORDS → p ≡ replicate (length (mid_of 20480 (length m - 20480) m)) 0 → Cleared m (put_mid 20480 (length m - 20480) m p)
heads_cleared m {p} h e =
    let k : length (mid_of 20480 (length m - 20480) m) ≡ length m - 20480 = mid_len 20480 (length m) m (omega arith) in
    let q : length p ≡ length m - 20480 = ap (λ (l : List ℕ). length l) e ∙ length-replicate _ 0 ∙ k in
    let a : length (take 20480 m) ≡ 20480 = length-take-le 20480 m (omega arith) in
    record {
      long = same_len_mid 20480 (length m - 20480) m p (q ∙ sym k);
      heads = λ b l.
          let i : 20480 + b - length (take 20480 m) ≡ b = omega arith in
          get_or-append_right (take 20480 m) (p ++ post_of 20480 (length m - 20480) m) (20480 + b) 0 (omega arith)
          ∙ rw i (get_or-append p (post_of 20480 (length m - 20480) m) 0 b (omega arith) ∙ ap (λ (w : List ℕ). get_or w b 0) e ∙ get_or-replicate _ b 0 0 (omega (arith, k)));
    }

pub indexed_none : (sheet : List ℕ) {m₀ m : List ℕ} → length m₀ ≡ INDEX_WORDS → Cleared m₀ m → Indexed sheet m 0
unfolding head_in
indexed_none sheet h c =
    record {
      long = c.long ∙ h;
      few = omega arith;
      row = λ i l. absurd (omega arith);
      heads = λ b l. c.heads b l;
      nexts = λ i l. absurd (omega arith);
      once = λ i l. absurd (omega arith);
    }

pub key_pushed : {m₀ m₁ : List ℕ} (n b ka ke va ve : ℕ) → m₁ ≡ sets m₀ (n * 5) (ka ∷ ke ∷ va ∷ ve ∷ head m₀ b ∷ []) → KeyPushed m₀ n b ka ke va ve (set m₁ (20480 + b) (n + 1))
key_pushed n b ka ke va ve e = record { is = rw e }
