-- What tables hold after a row more.
use Prim.Native.Nat.{ℕ, zero, suc, ◌+◌, ◌*◌, ◌≤◌, ◌<◌}
use mathlib.Core.Path.{◌≡◌, refl, sym, ap, ◌∙◌}
use mathlib.Core.List.{List, [], ◌∷◌}
use mathlib.Core.Bool.{Bool, true, false}
use Rattle.std.specs.Prelude.{Some}
use native.Mathlib.Omega.{arith}
use native.Mathlib.Numerals.{add-one}
use lib.Dec.{eqb}
use lib.ListN.{length, get_or, set, length-set}
use lib.Seq.{sets, get_or-set_same, get_or-set_other}
use borrow.Author.Tests.{ne_eqb, eqb-true, eqb-false}
use borrow.Rule.Slice.PartMut.{mid_of}
use Rattle.rules.specs.Basic.{pick}
use Rattle.rules.specs.Model.{Kind, set_relation}
use Rattle.rules.specs.Reference.{entry_at, referred_by, set_referenced_from}
use Rattle.model.specs.Rows.{row_at, row_on, noted_on, referrers_by, bit_of, relation_word, relation_of, row_words, row_of, relation_as, relation_in, entry_as, referrers_in, entry_in, entries_in, noted_words, noted_of, finding_of, finding_in, findings_in, block_of, blocks_in}
use Rattle.model.specs.Memory.{Below}
use Rattle.model.specs.Fits.{EachRow}
use Rattle.model.specs.declared.Target.TheVariants.{Ingredient, Step, Section}
use Rattle.model.specs.declared.Relation.{Relation}
use Rattle.model.specs.declared.Relation.TheVariants.{Definition, Reference}
use Rattle.model.specs.declared.Row.{Row}
use Rattle.model.specs.declared.Noted.{Noted}
use Rattle.model.proofs.Stores.{mid_stored, mid_below, get_or_sets_other}
use Rattle.model.specs.declared.layout.TheConstants.{ROW, PAIR, FINDING}

-- ---- a row that was written is read

bit_back : (b : Bool) → eqb (bit_of b) 1 ≡ b
bit_back true = refl
bit_back false = refl

relation_back : (r : Relation) → relation_of (relation_word r) ≡ r
unfolding relation_of relation_word
relation_back Definition = refl
relation_back (Reference Ingredient) = refl
relation_back (Reference Step) = refl
relation_back (Reference Section) = refl

pub row_back : (r : Row) → row_of (row_words r) ≡ r
unfolding row_of row_words
row_back r = simp (bit_back, relation_back)

pub noted_back : (n : Noted) → noted_of (noted_words n) ≡ n
unfolding noted_of noted_words
noted_back n = simp (bit_back)

pub row_length : (r : Row) → length (row_words r) ≡ ROW
unfolding row_words
row_length r = refl

pub noted_length : (n : Noted) → length (noted_words n) ≡ FINDING
unfolding noted_words
noted_length n = refl

-- the row that was stored, and those below it
pub row_stored : (rows : List ℕ) (i : ℕ) (r : Row) → i * ROW + ROW ≤ length rows → row_on (sets rows (i * ROW) (row_words r)) i ≡ r
row_stored rows i r h =
    ap (λ (n : ℕ). row_of (mid_of (i * ROW) n (sets rows (i * ROW) (row_words r)))) (sym (row_length r))
    ∙ ap row_of (mid_stored (i * ROW) rows (row_words r) (omega (arith, row_length r)))
    ∙ row_back r

pub row_other : (rows : List ℕ) (n i : ℕ) (r : Row) → i < n → row_at ROW (sets rows (n * ROW) (row_words r)) i ≡ row_at ROW rows i
row_other rows n i r h = mid_below (i * ROW) ROW rows (n * ROW) (row_words r) (omega arith)

pub noted_stored : (fs : List ℕ) (i : ℕ) (x : Noted) → i * FINDING + FINDING ≤ length fs → noted_on (sets fs (i * FINDING) (noted_words x)) i ≡ x
noted_stored fs i x h =
    ap (λ (n : ℕ). noted_of (mid_of (i * FINDING) n (sets fs (i * FINDING) (noted_words x)))) (sym (noted_length x))
    ∙ ap noted_of (mid_stored (i * FINDING) fs (noted_words x) (omega (arith, noted_length x)))
    ∙ noted_back x

pub noted_other : (fs : List ℕ) (n i : ℕ) (x : Noted) → i < n → row_at FINDING (sets fs (n * FINDING) (noted_words x)) i ≡ row_at FINDING fs i
noted_other fs n i x h = mid_below (i * FINDING) FINDING fs (n * FINDING) (noted_words x) (omega arith)

-- ---- components

module _ (k : Kind) (sheet rows : List ℕ) (by : ℕ → List ℕ) where
  pub entries_length : (n : ℕ) → length (entries_in k sheet rows by n) ≡ n
  unfolding entries_in
  entries_length zero = refl
  entries_length (suc n) = ap suc (entries_length n)

  entries_below : (n i : ℕ) (r : Row) → i ≤ n → entries_in k sheet (sets rows (n * ROW) (row_words r)) by i ≡ entries_in k sheet rows by i
  unfolding entries_in entry_in
  entries_below n zero r h = refl
  entries_below n (suc i) r h = rw (row_other rows n i r (omega arith), entries_below n i r (omega arith))

  pub entries_more : (n : ℕ) (r : Row) → n * ROW + ROW ≤ length rows
      → entries_in k sheet (sets rows (n * ROW) (row_words r)) by (suc n) ≡ entry_as k sheet r (by n) ∷ entries_in k sheet rows by n
  unfolding entries_in entry_in
  entries_more n r h = rw (row_stored rows n r h, entries_below n n r (omega arith))

  -- the entry of an index
  pub entries_at : (i n : ℕ) → i < n → entry_at i (entries_in k sheet rows by n) ≡ Some (entry_in k sheet rows by i)
  unfolding entries_in entry_at
  entries_at i zero h = absurd (omega arith)
  entries_at i (suc n) h = rw (entries_length n) (this (eqb i n) refl (λ l. entries_at i n l))
    where
      this : (t : Bool) → eqb i n ≡ t → (i < n → entry_at i (entries_in k sheet rows by n) ≡ Some (entry_in k sheet rows by i))
          → pick t (Some (entry_in k sheet rows by n)) (entry_at i (entries_in k sheet rows by n)) ≡ Some (entry_in k sheet rows by i)
      this true e ih = let q : i ≡ n = eqb-true i n e in ap (λ (j : ℕ). Some (entry_in k sheet rows by j)) (sym q)
      this false e ih = let q : (i ≡ n → ⊥) = eqb-false i n e in let l : i < n = omega arith in ih l

-- what holds of all rows, and of one more
pub each_none : (P : Row → Type 0) (rows : List ℕ) → EachRow P rows 0
each_none P rows = record { at = λ i h. absurd (omega arith) }

pub each_more : (P : Row → Type 0) (rows : List ℕ) (n : ℕ) (r : Row) → EachRow P rows n → P r → n * ROW + ROW ≤ length rows → EachRow P (sets rows (n * ROW) (row_words r)) (suc n)
each_more P rows n r z p h = record { at = λ i l. by i (eqb i n) refl l }
  where
    by : (i : ℕ) (t : Bool) → eqb i n ≡ t → i < suc n → P (row_on (sets rows (n * ROW) (row_words r)) i)
    by i true e l = let q : i ≡ n = eqb-true i n e in rw q (rw (row_stored rows n r h) p)
    by i false e l = let q : (i ≡ n → ⊥) = eqb-false i n e in let g : i < n = omega arith in rw (row_other rows n i r g) (z.at i g)

-- no referrers of what has not come
pub referrers_none : (pairs : List ℕ) (m n : ℕ) → Below pairs m n → referrers_by pairs m n ≡ []
unfolding referrers_by referrers_in
referrers_none pairs zero n b = refl
referrers_none pairs (suc m) n b =
    let l : get_or pairs (m * PAIR) 0 < n = b.definition m (omega arith) in
    rw (ne_eqb (get_or pairs (m * PAIR) 0) n (λ q. omega arith)) (unfold referrers_by in referrers_none pairs m n (record { definition = λ j h. b.definition j (omega arith); referrer = λ j h. b.referrer j (omega arith) }))

-- an entry with one referrer more
relation_referred : (k : Kind) (x : Relation) (b : Bool) (i r : ℕ) (by : List ℕ) → referred_by r (relation_as k x b i by) ≡ relation_as k x b i (r ∷ by)
unfolding referred_by relation_as
relation_referred k Definition b i r by = refl
relation_referred k (Reference Ingredient) b i r by = refl
relation_referred k (Reference Step) b i r by = refl
relation_referred k (Reference Section) b i r by = refl

entry_referred : (k : Kind) (sheet : List ℕ) (x : Row) (r : ℕ) (by : List ℕ) → set_relation (referred_by r (entry_as k sheet x by).relation) (entry_as k sheet x by) ≡ entry_as k sheet x (r ∷ by)
unfolding entry_as set_relation relation_in
entry_referred k sheet x r by = simp (relation_referred)

-- ---- pairs

pub pair_definition : (pairs : List ℕ) (m d r : ℕ) → m * PAIR + PAIR ≤ length pairs → get_or (sets pairs (m * PAIR) (d ∷ r ∷ [])) (m * PAIR) 0 ≡ d
pair_definition pairs m d r h =
    get_or-set_other (set pairs (m * PAIR) d) (suc (m * PAIR)) (m * PAIR) r 0 (λ q. omega arith) ∙ get_or-set_same pairs (m * PAIR) d 0 (omega arith)

pub pair_referrer : (pairs : List ℕ) (m d r : ℕ) → m * PAIR + PAIR ≤ length pairs → get_or (sets pairs (m * PAIR) (d ∷ r ∷ [])) (m * PAIR + 1) 0 ≡ r
pair_referrer pairs m d r h = rw (add-one (m * PAIR)) (get_or-set_same (set pairs (m * PAIR) d) (suc (m * PAIR)) r 0 (omega (arith, length-set pairs (m * PAIR) d)))

module _ (pairs : List ℕ) (m d r : ℕ) (h : m * PAIR + PAIR ≤ length pairs) where
  referrers_before : (i j : ℕ) → j ≤ m → referrers_in (sets pairs (m * PAIR) (d ∷ r ∷ [])) i j ≡ referrers_in pairs i j
  unfolding referrers_in
  referrers_before i zero l = refl
  referrers_before i (suc j) l =
      rw (get_or_sets_other pairs (m * PAIR) (d ∷ r ∷ []) (j * PAIR) (omega arith), get_or_sets_other pairs (m * PAIR) (d ∷ r ∷ []) (j * PAIR + 1) (omega arith), referrers_before i j (omega arith))

  pub referrers_more : (i : ℕ) → referrers_by (sets pairs (m * PAIR) (d ∷ r ∷ [])) (suc m) i ≡ pick (eqb d i) (r ∷ referrers_by pairs m i) (referrers_by pairs m i)
  unfolding referrers_by referrers_in
  referrers_more i = rw (pair_definition pairs m d r h, pair_referrer pairs m d r h, referrers_before i m (omega arith))

  pub below_more : (n : ℕ) → Below pairs m n → d < n → r < n → Below (sets pairs (m * PAIR) (d ∷ r ∷ [])) (suc m) n
  below_more n b l g = record { definition = λ j q. definition j (eqb j m) refl q; referrer = λ j q. referrer j (eqb j m) refl q }
    where
      definition : (j : ℕ) (t : Bool) → eqb j m ≡ t → j < suc m → get_or (sets pairs (m * PAIR) (d ∷ r ∷ [])) (j * PAIR) 0 < n
      definition j true e z = let q : j ≡ m = eqb-true j m e in rw q (rw (pair_definition pairs m d r h) l)
      definition j false e z = let q : (j ≡ m → ⊥) = eqb-false j m e in let s : j < m = omega arith in rw (get_or_sets_other pairs (m * PAIR) (d ∷ r ∷ []) (j * PAIR) (omega arith)) (b.definition j s)

      referrer : (j : ℕ) (t : Bool) → eqb j m ≡ t → j < suc m → get_or (sets pairs (m * PAIR) (d ∷ r ∷ [])) (j * PAIR + 1) 0 < n
      referrer j true e z = let q : j ≡ m = eqb-true j m e in rw q (rw (pair_referrer pairs m d r h) g)
      referrer j false e z = let q : (j ≡ m → ⊥) = eqb-false j m e in let s : j < m = omega arith in rw (get_or_sets_other pairs (m * PAIR) (d ∷ r ∷ []) (j * PAIR + 1) (omega arith)) (b.referrer j s)

  module _ (k : Kind) (sheet rows : List ℕ) where
    -- entries at most at d are as they were
    entries_past : (n : ℕ) → n ≤ d → entries_in k sheet rows (referrers_by (sets pairs (m * PAIR) (d ∷ r ∷ [])) (suc m)) n ≡ entries_in k sheet rows (referrers_by pairs m) n
    unfolding entries_in entry_in
    entries_past zero l = refl
    entries_past (suc n) l = rw (referrers_more n, ne_eqb d n (λ q. omega arith), entries_past n (omega arith))

    -- one pair more is `set_referenced_from`
    pub entries_referred : (n : ℕ) → entries_in k sheet rows (referrers_by (sets pairs (m * PAIR) (d ∷ r ∷ [])) (suc m)) n ≡ set_referenced_from d r (entries_in k sheet rows (referrers_by pairs m) n)
    unfolding entries_in entry_in set_referenced_from
    entries_referred zero = refl
    entries_referred (suc n) = rw (entries_length k sheet rows (referrers_by pairs m) n, referrers_more n) (go (eqb d n) refl (entries_referred n))
      where
        go : (t : Bool) → eqb d n ≡ t
            → entries_in k sheet rows (referrers_by (sets pairs (m * PAIR) (d ∷ r ∷ [])) (suc m)) n ≡ set_referenced_from d r (entries_in k sheet rows (referrers_by pairs m) n)
            → (entry_as k sheet (row_on rows n) (pick t (r ∷ referrers_by pairs m n) (referrers_by pairs m n)) ∷ entries_in k sheet rows (referrers_by (sets pairs (m * PAIR) (d ∷ r ∷ [])) (suc m)) n)
            ≡ pick t (set_relation (referred_by r (entry_in k sheet rows (referrers_by pairs m) n).relation) (entry_in k sheet rows (referrers_by pairs m) n) ∷ entries_in k sheet rows (referrers_by pairs m) n) (entry_in k sheet rows (referrers_by pairs m) n ∷ set_referenced_from d r (entries_in k sheet rows (referrers_by pairs m) n))
        go true e ih = let q : d ≡ n = eqb-true d n e in rw (entries_past n (omega arith)) (rw (entry_referred k sheet (row_on rows n) r (referrers_by pairs m n)))
        go false e ih = rw ih

-- ---- findings

findings_below : (fs : List ℕ) (n i : ℕ) (x : Noted) → i ≤ n → findings_in (sets fs (n * FINDING) (noted_words x)) i ≡ findings_in fs i
unfolding findings_in finding_in
findings_below fs n zero x h = refl
findings_below fs n (suc i) x h = rw (noted_other fs n i x (omega arith), findings_below fs n i x (omega arith))

pub findings_more : (fs : List ℕ) (n : ℕ) (x : Noted) → n * FINDING + FINDING ≤ length fs → findings_in (sets fs (n * FINDING) (noted_words x)) (suc n) ≡ finding_of x ∷ findings_in fs n
unfolding findings_in finding_in
findings_more fs n x h = rw (noted_stored fs n x h, findings_below fs n n x (omega arith))

pub findings_length : (fs : List ℕ) (n : ℕ) → length (findings_in fs n) ≡ n
unfolding findings_in
findings_length fs zero = refl
findings_length fs (suc n) = ap suc (findings_length fs n)

-- ---- kinds

blocks_below : (ks : List ℕ) (n i v : ℕ) → i ≤ n → blocks_in (set ks n v) i ≡ blocks_in ks i
unfolding blocks_in
blocks_below ks n zero v h = refl
blocks_below ks n (suc i) v h = rw (get_or-set_other ks n i v 0 (λ q. omega arith), blocks_below ks n i v (omega arith))

pub blocks_more : (ks : List ℕ) (n v : ℕ) → n < length ks → blocks_in (set ks n v) (suc n) ≡ block_of v ∷ blocks_in ks n
unfolding blocks_in
blocks_more ks n v h = rw (get_or-set_same ks n v 0 h, blocks_below ks n n v (omega arith))
