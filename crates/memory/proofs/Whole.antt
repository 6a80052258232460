-- What words and the small state stand for after one row, pair, finding or block more.
use Prim.Native.Nat.{ℕ, ◌+◌, ◌*◌, ◌≤◌, ◌<◌}
use mathlib.Core.Path.{◌≡◌, refl, ap, ◌∙◌}
use mathlib.Core.List.{List, [], ◌∷◌}
use native.Mathlib.Omega.{arith}
use native.Mathlib.Numerals.{add-one}
use lib.ListN.{length, set}
use lib.Seq.{sets, length-sets}
use borrow.Rule.Slice.PartMut.{mid_of, put_mid}
use Rattle.rules.specs.Model.{Kind, ingredient, cookware}
use Rattle.rules.specs.State.{set_table, set_tables, set_place, set_kept, report}
use Rattle.rules.specs.Pass.{keep_block}
use Rattle.model.specs.Kinds.{room_of, rows_from, pairs_from}
use Rattle.model.specs.Rows.{row_words, referrers_by, entries_in, noted_words}
use Rattle.model.specs.Memory.{windows_of, rows_in, pairs_in, count_of, pairs_of, referrers_of, open_of, state_of, state_in, Room, Below, Sound}
use Rattle.model.specs.Fits.{Fits, EachRow, AllFit}
use Rattle.model.specs.Small.{with_block, with_counter, with_here, with_blocks, with_findings}
use Rattle.model.specs.declared.Open.TheVariants.{Nothing}
use Rattle.model.specs.declared.Row.{Row}
use Rattle.model.specs.declared.Noted.{Noted}
use Rattle.model.specs.declared.Held.{Held}
use Rattle.model.proofs.Stores.{put_sets}
use Rattle.model.proofs.Tables.{row_length, each_more, noted_length, entries_more, referrers_none, entries_referred, below_more, findings_more, blocks_more}
use Rattle.model.proofs.Windows.{rows_long, pairs_long, findings_long, kinds_long, table_is}
use Rattle.memory.specs.Pushes.{with_count, with_pairs, RowPushed, PairPushed, FindingPushed, BlockKept}
use Rattle.memory.proofs.Bounds.{by_kind, room_set}
use Rattle.memory.proofs.Windows.{set_kind, in_rows, in_pairs, in_findings, in_kinds}
use Rattle.model.specs.declared.layout.TheConstants.{ROW, PAIR, FINDING, MOST_FINDINGS, MOST_KINDS, INGREDIENTS, COOKWARE, INGREDIENT_PAIRS, COOKWARE_PAIRS, FINDINGS, KINDS, STATE_WORDS}

still_long : (w : List ℕ) → STATE_WORDS ≤ length w → (at : ℕ) (vs : List ℕ) → STATE_WORDS ≤ length (sets w at vs)
still_long w l at vs = omega (arith, length-sets w at vs)

-- stores in a window that was lent
lent : (a n : ℕ) (w : List ℕ) (j : ℕ) (vs : List ℕ) → j + length vs ≤ n → {p : List ℕ} → p ≡ sets (mid_of a n w) j vs → put_mid a n w p ≡ sets w (a + j) vs
lent a n w j vs l e = ap (put_mid a n w) e ∙ put_sets a n w j vs l

-- ---- bounds of a kind

below_suc : {pairs : List ℕ} {m n : ℕ} → Below pairs m n → Below pairs m (n + 1)
below_suc {pairs} {m} {n} b = record { definition = λ j h. omega (arith, b.definition j h); referrer = λ j h. omega (arith, b.referrer j h) }

-- ---- the table of a kind, and another in its place

abbrev with_table : Kind → ℕ → ℕ → Held → Held
with_table k n m h = with_pairs k m (with_count k n h)

-- v and g are w and h, but for the table of k: n rows and m pairs, in these windows
record Tabled (k : Kind) (w : List ℕ) (h : Held) (rows : List ℕ) (n : ℕ) (pairs : List ℕ) (m : ℕ) (v : List ℕ) (g : Held) : Type 0 where
  windows : windows_of v ≡ set_kind k rows pairs (windows_of w)
  held : g ≡ with_table k n m h
  long : STATE_WORDS ≤ length v

-- after stores in its rows, or in its pairs
module _ {w v : List ℕ} {h : Held} (z : Sound w h) (j : ℕ) (vs : List ℕ) where
  tabled_rows : (k : Kind) (n : ℕ) → j + length vs ≤ room_of k * ROW → v ≡ sets w (rows_from k + j) vs → Tabled k w h (sets (rows_in k w) j vs) n (pairs_in k w) (pairs_of k h) v (with_count k n h)
  tabled_rows ingredient n l q = record { windows = rw q (in_rows w j vs ingredient l); held = refl; long = rw q (still_long w z.long (INGREDIENTS + j) vs) }
  tabled_rows cookware n l q = record { windows = rw q (in_rows w j vs cookware l); held = refl; long = rw q (still_long w z.long (COOKWARE + j) vs) }

  tabled_pairs : (k : Kind) (m : ℕ) → j + length vs ≤ room_of k * PAIR → v ≡ sets w (pairs_from k + j) vs → Tabled k w h (rows_in k w) (count_of k h) (sets (pairs_in k w) j vs) m v (with_pairs k m h)
  tabled_pairs ingredient m l q = record { windows = rw q (in_pairs w j vs ingredient l); held = refl; long = rw q (still_long w z.long (INGREDIENT_PAIRS + j) vs) }
  tabled_pairs cookware m l q = record { windows = rw q (in_pairs w j vs cookware l); held = refl; long = rw q (still_long w z.long (COOKWARE_PAIRS + j) vs) }

-- bounds of a table with n rows, no fewer than before, and m pairs
room_with : (k : Kind) (h : Held) (n m : ℕ) → Room h.counts → n ≤ room_of k → count_of k h ≤ n → m ≤ n → Room (with_table k n m h).counts
room_with ingredient h n m z a g b = let p = z.pairs ingredient in room_set 9 m (room_set 5 n z a (by_kind _ (omega arith) (z.pairs cookware))) (omega arith) (by_kind _ b (z.pairs cookware))
room_with cookware h n m z a g b = let p = z.pairs cookware in room_set 10 m (room_set 6 n z a (by_kind _ (z.pairs ingredient) (omega arith))) (omega arith) (by_kind _ (z.pairs ingredient) b)

module _ {w rows pairs v : List ℕ} {n m : ℕ} {h g : Held} where
  tabled_is : (k : Kind) → Tabled k w h rows n pairs m v g → (sheet : List ℕ) → state_in sheet v g ≡ set_table k (entries_in k sheet rows (referrers_by pairs m) n) (state_in sheet w h)
  unfolding state_in state_of set_table set_tables
  tabled_is ingredient t sheet = rw (t.windows, t.held)
  tabled_is cookware t sheet = rw (t.windows, t.held)

  tabled_fit : (k : Kind) → Tabled k w h rows n pairs m v g → {sheet : List ℕ} → AllFit sheet w h → EachRow (Fits k sheet) rows n → AllFit sheet v g
  tabled_fit ingredient t f x = rw t.held record { rows = by_kind _ (rw (rows_in, t.windows) x) (rw (rows_in, t.windows) (f.rows cookware)) }
  tabled_fit cookware t f x = rw t.held record { rows = by_kind _ (rw (rows_in, t.windows) (f.rows ingredient)) (rw (rows_in, t.windows) x) }

  tabled_sound : (k : Kind) → Tabled k w h rows n pairs m v g → Sound w h → n ≤ room_of k → count_of k h ≤ n → m ≤ n → Below pairs m n → Sound v g
  tabled_sound ingredient t z a q b x = rw t.held record { long = t.long; room = room_with ingredient h n m z.room a q b; pairs = by_kind _ (rw (pairs_in, t.windows) x) (rw (pairs_in, t.windows) (z.pairs cookware)) }
  tabled_sound cookware t z a q b x = rw t.held record { long = t.long; room = room_with cookware h n m z.room a q b; pairs = by_kind _ (rw (pairs_in, t.windows) (z.pairs ingredient)) (rw (pairs_in, t.windows) x) }

-- ---- a component more: its row, stored in the window that was lent

pub row_pushed : (k : Kind) {w : List ℕ} {h : Held} → Sound w h → (r : Row) → count_of k h < room_of k → (p : List ℕ) → p ≡ sets (mid_of (rows_from k) (room_of k * ROW) w) (count_of k h * ROW) (row_words r)
    → RowPushed k w h r (put_mid (rows_from k) (room_of k * ROW) w p) (with_count k (count_of k h + 1) h)
row_pushed k {w} {h} z r l p e =
    let room : count_of k h * ROW + length (row_words r) ≤ room_of k * ROW = omega (arith, row_length r) in
    let long : count_of k h * ROW + ROW ≤ length (rows_in k w) = omega (arith, rows_long w z.long k) in
    let q = lent (rows_from k) (room_of k * ROW) w (count_of k h * ROW) (row_words r) room e in
    let t = tabled_rows z (count_of k h * ROW) (row_words r) k (count_of k h + 1) room q in
    record {
      words = q;
      held = refl;
      is =
          λ sheet.
          rw (
            tabled_is k t sheet,
            add-one (count_of k h),
            entries_more k sheet (rows_in k w) (referrers_of k w h) (count_of k h) r long,
            referrers_none (pairs_in k w) (pairs_of k h) (count_of k h) (z.pairs k),
            table_is k sheet w h,
          );
      fit = λ sheet f x. tabled_fit k t f (rw (add-one (count_of k h)) (each_more (Fits k sheet) (rows_in k w) (count_of k h) r (f.rows k) x long));
      sound = tabled_sound k t z (omega arith) (omega arith) (omega (arith, z.room.pairs k)) (below_suc (z.pairs k));
    }

-- ---- a referrer more: its pair

pub pair_pushed : (k : Kind) {w : List ℕ} {h : Held} → Sound w h → (d r : ℕ) → pairs_of k h < count_of k h → d < count_of k h → r < count_of k h → (p : List ℕ) → p ≡ sets (mid_of (pairs_from k) (room_of k * PAIR) w) (pairs_of k h * PAIR) (d ∷ r ∷ [])
    → PairPushed k w h d r (put_mid (pairs_from k) (room_of k * PAIR) w p) (with_pairs k (pairs_of k h + 1) h)
pair_pushed k {w} {h} z d r l g f p e =
    let most = z.room.rows k in
    let room : pairs_of k h * PAIR + length (d ∷ r ∷ []) ≤ room_of k * PAIR = omega arith in
    let long : pairs_of k h * PAIR + PAIR ≤ length (pairs_in k w) = omega (arith, pairs_long w z.long k) in
    let q = lent (pairs_from k) (room_of k * PAIR) w (pairs_of k h * PAIR) (d ∷ r ∷ []) room e in
    let t = tabled_pairs z (pairs_of k h * PAIR) (d ∷ r ∷ []) k (pairs_of k h + 1) room q in
    record {
      words = q;
      held = refl;
      is =
          λ sheet.
          rw (
            tabled_is k t sheet,
            add-one (pairs_of k h),
            entries_referred (pairs_in k w) (pairs_of k h) d r long k sheet (rows_in k w) (count_of k h),
            table_is k sheet w h,
          );
      fit = λ sheet x. tabled_fit k t x (x.rows k);
      sound = tabled_sound k t z most (omega arith) (omega arith) (rw (add-one (pairs_of k h)) (below_more (pairs_in k w) (pairs_of k h) d r long (count_of k h) (z.pairs k) g f));
    }

-- ---- a finding more

module _ {w : List ℕ} {h : Held} (z : Sound w h) (x : Noted) (l : h.counts.findings < MOST_FINDINGS) where
  pub finding_pushed : (p : List ℕ) → p ≡ sets (mid_of FINDINGS (MOST_FINDINGS * FINDING) w) (h.counts.findings * FINDING) (noted_words x)
      → FindingPushed w h x (put_mid FINDINGS (MOST_FINDINGS * FINDING) w p) (with_findings (h.counts.findings + 1) h)
  unfolding state_in state_of report
  finding_pushed p e =
      let room : h.counts.findings * FINDING + length (noted_words x) ≤ MOST_FINDINGS * FINDING = omega (arith, noted_length x) in
      let q = lent FINDINGS (MOST_FINDINGS * FINDING) w (h.counts.findings * FINDING) (noted_words x) room e in
      let i = in_findings w (h.counts.findings * FINDING) (noted_words x) room in
      record {
        words = q;
        held = refl;
        is = λ sheet. rw (q, i, add-one h.counts.findings, findings_more (windows_of w).findings h.counts.findings x (omega (arith, findings_long w z.long)));
        fit = λ sheet f. record { rows = by_kind _ (rw (rows_in, q, i) (f.rows ingredient)) (rw (rows_in, q, i) (f.rows cookware)) };
        sound =
            record {
              long = rw q (still_long w z.long (FINDINGS + h.counts.findings * FINDING) (noted_words x));
              room = room_set 11 (h.counts.findings + 1) z.room (omega arith) (by_kind _ (z.room.pairs ingredient) (z.room.pairs cookware));
              pairs = by_kind _ (rw (pairs_in, q, i) (z.pairs ingredient)) (rw (pairs_in, q, i) (z.pairs cookware));
            };
      }

-- ---- a block more

abbrev kept : ℕ → Held → Held
kept c h = with_block Nothing (with_counter c (with_blocks (h.counts.blocks + 1) (with_here (h.counts.here + 1) h)))

room_kept : (h : Held) → Room h.counts → (c : ℕ) → h.counts.here < MOST_KINDS → h.counts.blocks < 100000 → c ≤ 100000 → Room (kept c h).counts
room_kept h z c l m n =
    room_set 0 c (room_set 3 (h.counts.blocks + 1) (room_set 1 (h.counts.here + 1) z (omega arith) (by_kind _ (z.pairs ingredient) (z.pairs cookware))) (omega arith) (by_kind _ (z.pairs ingredient) (z.pairs cookware))) n (by_kind _ (z.pairs ingredient) (z.pairs cookware))

module _ {w : List ℕ} {h : Held} (z : Sound w h) (v c : ℕ) (l : h.counts.here < MOST_KINDS) (m : h.counts.blocks < 100000) (n : c ≤ 100000) where
  pub block_kept : (p : List ℕ) → p ≡ set (mid_of KINDS MOST_KINDS w) h.counts.here v → {r : Held} → r ≡ kept c h → BlockKept w h v c (put_mid KINDS MOST_KINDS w p) r
  unfolding state_in state_of keep_block set_kept set_place open_of
  block_kept p e {r} f =
      let room : h.counts.here + length (v ∷ []) ≤ MOST_KINDS = omega arith in
      let q = lent KINDS MOST_KINDS w h.counts.here (v ∷ []) room e in
      let i = in_kinds w h.counts.here (v ∷ []) room in
      rw f
      record {
        words = q;
        held = refl;
        is = λ sheet. rw (q, i, add-one h.counts.here, add-one h.counts.blocks, blocks_more (windows_of w).kinds h.counts.here v (omega (arith, kinds_long w z.long)));
        fit = λ sheet g. record { rows = by_kind _ (rw (rows_in, q, i) (g.rows ingredient)) (rw (rows_in, q, i) (g.rows cookware)) };
        sound =
            record {
              long = rw q (still_long w z.long (KINDS + h.counts.here) (v ∷ []));
              room = room_kept h z.room c l m n;
              pairs = by_kind _ (rw (pairs_in, q, i) (z.pairs ingredient)) (rw (pairs_in, q, i) (z.pairs cookware));
            };
      }
