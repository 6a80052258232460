-- Each push, and each list of findings, writes in the windows of the state alone.
use Rattle.std.specs.Prelude.{None, Option, Some}
use Prim.Native.Nat.{ℕ, ◌+◌, ◌*◌, ◌≤◌}
use mathlib.Core.Path.{◌≡◌, refl, ap}
use mathlib.Core.List.{List, [], ◌∷◌}
use mathlib.Core.Bool.{false}
use native.Mathlib.Omega.{arith}
use lib.ListN.{length}
use lib.Seq.{sets}
use Rattle.rules.specs.Model.{Kind, ingredient, cookware}
use Rattle.rules.specs.Finding.{Finding}
use Rattle.model.specs.Rows.{row_words, noted_words}
use Rattle.model.specs.Kinds.{room_of, rows_from, pairs_from}
use Rattle.model.specs.Memory.{count_of, pairs_of, Sound}
use Rattle.model.specs.Writes.{Writes}
use Rattle.model.specs.declared.Row.{Row}
use Rattle.model.specs.declared.Noted.{Noted}
use Rattle.model.specs.declared.Held.{Held}
use Rattle.model.proofs.Tables.{row_length, noted_length}
use Rattle.model.proofs.Writes.{writes_none, writes_on, writes_sets}
use Rattle.memory.specs.Pushes.{with_pairs, held_with, RowPushed, PairPushed, FindingPushed, BlockKept, ComponentAdded}
use Rattle.memory.specs.Reports.{Reported, nothing, more}
use Rattle.model.specs.declared.layout.TheConstants.{ROW, PAIR, FINDING, MOST_FINDINGS, MOST_KINDS, FINDINGS, KINDS, STATE_WORDS}

-- ---- findings

pub finding_writes : {w₀ w : List ℕ} {h₀ h : Held} {x : Noted} → FindingPushed w₀ h₀ x w h → Writes w₀ w false
finding_writes {h₀ = h₀} {h = h} {x = x} p =
    let n : h.counts.findings ≡ h₀.counts.findings + 1 = ap (λ (z : Held). z.counts.findings) p.held in
    let m : h.counts.findings ≤ MOST_FINDINGS = p.sound.room.others.findings in
    writes_sets (FINDINGS + h₀.counts.findings * FINDING) (noted_words x) (omega (arith, noted_length x)) p.words

pub reported_writes : {fs : List Finding} {w₀ w : List ℕ} {h₀ h : Held} → Reported fs w₀ h₀ w h → Writes w₀ w false
reported_writes nothing = writes_none
reported_writes (more x e p r) = writes_on (finding_writes p) (reported_writes r)

-- ---- blocks

pub block_writes : {w₀ w : List ℕ} {h₀ h : Held} {v n : ℕ} → BlockKept w₀ h₀ v n w h → Writes w₀ w false
block_writes {h₀ = h₀} {h = h} {v = v} p =
    let n : h.counts.here ≡ h₀.counts.here + 1 = ap (λ (z : Held). z.counts.here) p.held in
    let m : h.counts.here ≤ MOST_KINDS = p.sound.room.others.here in
    writes_sets (KINDS + h₀.counts.here) (v ∷ []) (omega arith) p.words

-- ---- components: a row, and a pair

-- one more is counted, and the windows have room for it
counted : (k : Kind) (to : Option ℕ) (h₀ : Held) {h : Held} → h ≡ held_with k to h₀ → count_of k h ≡ count_of k h₀ + 1
counted ingredient None h₀ e = ap (λ (z : Held). z.counts.ingredients) e
counted ingredient (Some d) h₀ e = ap (λ (z : Held). z.counts.ingredients) e
counted cookware None h₀ e = ap (λ (z : Held). z.counts.cookware) e
counted cookware (Some d) h₀ e = ap (λ (z : Held). z.counts.cookware) e

paired : (k : Kind) (h₀ x : Held) {h : Held} → h ≡ with_pairs k (pairs_of k h₀ + 1) x → pairs_of k h ≡ pairs_of k h₀ + 1
paired ingredient h₀ x e = ap (λ (z : Held). z.counts.ingredient_pairs) e
paired cookware h₀ x e = ap (λ (z : Held). z.counts.cookware_pairs) e

row_room : (k : Kind) (to : Option ℕ) (h₀ : Held) {w : List ℕ} {h : Held} → h ≡ held_with k to h₀ → Sound w h → count_of k h₀ + 1 ≤ room_of k
row_room k to h₀ e z = omega (arith, counted k to h₀ e, z.room.rows k)

pair_room : (k : Kind) (h₀ x : Held) {w : List ℕ} {h : Held} → h ≡ with_pairs k (pairs_of k h₀ + 1) x → Sound w h → pairs_of k h₀ + 1 ≤ room_of k
pair_room k h₀ x e z = omega (arith, paired k h₀ x e, z.room.pairs k, z.room.rows k)

row_inside : (k : Kind) (n : ℕ) (r : Row) → n + 1 ≤ room_of k → rows_from k + n * ROW + length (row_words r) ≤ STATE_WORDS
row_inside ingredient n r h = omega (arith, row_length r)
row_inside cookware n r h = omega (arith, row_length r)

pair_inside : (k : Kind) (n : ℕ) → n + 1 ≤ room_of k → pairs_from k + n * PAIR + 2 ≤ STATE_WORDS
pair_inside ingredient n h = omega arith
pair_inside cookware n h = omega arith

row_stored : (k : Kind) (n : ℕ) (r : Row) {w₀ w : List ℕ} → n + 1 ≤ room_of k → w ≡ sets w₀ (rows_from k + n * ROW) (row_words r) → Writes w₀ w false
row_stored k n r l e = writes_sets (rows_from k + n * ROW) (row_words r) (row_inside k n r l) e

pair_stored : (k : Kind) (n d r : ℕ) {w₀ w : List ℕ} → n + 1 ≤ room_of k → w ≡ sets w₀ (pairs_from k + n * PAIR) (d ∷ r ∷ []) → Writes w₀ w false
pair_stored k n d r l e = writes_sets (pairs_from k + n * PAIR) (d ∷ r ∷ []) (pair_inside k n l) e

pub row_writes : (k : Kind) {w₀ w : List ℕ} {h₀ h : Held} {r : Row} → RowPushed k w₀ h₀ r w h → Writes w₀ w false
row_writes k {h₀ = h₀} {r = r} p = row_stored k (count_of k h₀) r (row_room k None h₀ p.held p.sound) p.words

pub pair_writes : (k : Kind) {w₀ w : List ℕ} {h₀ h : Held} {d r : ℕ} → PairPushed k w₀ h₀ d r w h → Writes w₀ w false
pair_writes k {h₀ = h₀} {d = d} {r} p = pair_stored k (pairs_of k h₀) d r (pair_room k h₀ _ p.held p.sound) p.words

pub component_writes : (k : Kind) (to : Option ℕ) {w₀ w : List ℕ} {h₀ h : Held} {r : Row} → ComponentAdded k w₀ h₀ r to w h → Writes w₀ w false
component_writes k None {h₀ = h₀} {r = r} p = row_stored k (count_of k h₀) r (row_room k None h₀ p.held p.sound) p.words
component_writes k (Some d) {h₀ = h₀} {r = r} p =
    writes_on (row_stored k (count_of k h₀) r (row_room k (Some d) h₀ p.held p.sound) refl)
    (pair_stored k (pairs_of k h₀) d (count_of k h₀) (pair_room k h₀ _ p.held p.sound) p.words)
