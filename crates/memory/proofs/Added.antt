-- A component and its referrer: first its row, then the pair.
use Rattle.std.specs.Prelude.{None, Option, Some}
use Prim.Native.Nat.{ℕ, ◌+◌, ◌*◌, ◌<◌}
use mathlib.Core.Path.{◌≡◌, refl, sym, ap, ◌∙◌}
use mathlib.Core.List.{List, [], ◌∷◌}
use native.Mathlib.Omega.{arith}
use lib.ListN.{length}
use lib.Seq.{sets}
use Rattle.rules.specs.Model.{Kind, ingredient, cookware, Entry}
use Rattle.rules.specs.Reference.{set_referenced_from}
use Rattle.rules.specs.State.{State, table_of, set_table}
use Rattle.model.specs.Rows.{entry_as}
use Rattle.model.specs.Memory.{rows_in, count_of, pairs_of, referrers_of, state_in, Sound}
use Rattle.model.specs.declared.Row.{Row}
use Rattle.model.specs.declared.Held.{Held}
use Rattle.model.proofs.Tables.{entries_length}
use Rattle.model.specs.Kinds.{pairs_from}
use Rattle.model.proofs.Windows.{table_is}
use Rattle.model.proofs.Entries.{referred_later, table_set, set_table_twice}
use Rattle.memory.specs.Pushes.{with_count, with_pairs, RowPushed, PairPushed, FoundBelow, ComponentAdded}
use Rattle.model.specs.declared.layout.TheConstants.{PAIR}

-- a table has as many entries as are counted
pub table_count : (k : Kind) (sheet w : List ℕ) (h : Held) → length (table_of k (state_in sheet w h)) ≡ count_of k h
table_count k sheet w h = rw (table_is k sheet w h) (entries_length k sheet (rows_in k w) (referrers_of k w h) (count_of k h))

pairs_same : (k : Kind) (n : ℕ) (h : Held) → pairs_of k (with_count k n h) ≡ pairs_of k h
pairs_same ingredient n h = refl
pairs_same cookware n h = refl

-- the pair after the row, on the rules' side
later : (k : Kind) (d : ℕ) (e : Entry) (st : State) → d < length (table_of k st)
    → set_table k (set_referenced_from d (length (table_of k st)) (table_of k (set_table k (e ∷ table_of k st) st))) (set_table k (e ∷ table_of k st) st)
    ≡ set_table k (e ∷ set_referenced_from d (length (table_of k st)) (table_of k st)) st
later k d e st h = rw (table_set k (e ∷ table_of k st) st, referred_later d (length (table_of k st)) e (table_of k st) h) (set_table_twice k (e ∷ table_of k st) _ st)

module _ (k : Kind) {w₀ w₁ : List ℕ} {h₀ h₁ : Held} {r : Row} (a : RowPushed k w₀ h₀ r w₁ h₁) where
  pub added_alone : ComponentAdded k w₀ h₀ r None w₁ h₁
  added_alone = record { words = a.words; held = a.held; is = a.is; fit = a.fit; sound = a.sound }

  module _ {w : List ℕ} {h : Held} {d : ℕ} (b : PairPushed k w₁ h₁ d (count_of k h₀) w h) (l : d < count_of k h₀) where
    added_pairs : pairs_of k h₁ ≡ pairs_of k h₀
    added_pairs = ap (pairs_of k) a.held ∙ pairs_same k (count_of k h₀ + 1) h₀

    added_is : (sheet : List ℕ) → state_in sheet w h ≡ set_table k (entry_as k sheet r [] ∷ set_referenced_from d (length (table_of k (state_in sheet w₀ h₀))) (table_of k (state_in sheet w₀ h₀))) (state_in sheet w₀ h₀)
    added_is sheet =
        let n : length (table_of k (state_in sheet w₀ h₀)) ≡ count_of k h₀ = table_count k sheet w₀ h₀ in
        b.is sheet
        ∙ ap (λ (st : State). set_table k (set_referenced_from d (count_of k h₀) (table_of k st)) st) (a.is sheet)
        ∙ ap (λ (m : ℕ). set_table k (set_referenced_from d m (table_of k (set_table k (entry_as k sheet r [] ∷ table_of k (state_in sheet w₀ h₀)) (state_in sheet w₀ h₀)))) (set_table k (entry_as k sheet r [] ∷ table_of k (state_in sheet w₀ h₀)) (state_in sheet w₀ h₀))) (sym n)
        ∙ later k d (entry_as k sheet r []) (state_in sheet w₀ h₀) (omega arith)

    pub added_referring : ComponentAdded k w₀ h₀ r (Some d) w h
    added_referring =
        record {
          words = b.words ∙ ap (λ (m : ℕ). sets w₁ (pairs_from k + m * PAIR) (d ∷ count_of k h₀ ∷ [])) added_pairs ∙ ap (λ (v : List ℕ). sets v (pairs_from k + pairs_of k h₀ * PAIR) (d ∷ count_of k h₀ ∷ [])) a.words;
          held = b.held ∙ ap (λ (m : ℕ). with_pairs k (m + 1) h₁) added_pairs ∙ ap (with_pairs k (pairs_of k h₀ + 1)) a.held;
          is = added_is;
          fit = λ sheet f x. b.fit sheet (a.fit sheet f x);
          sound = b.sound;
        }

-- ---- as the code comes to it

count_more : (k : Kind) (n : ℕ) (h : Held) → count_of k (with_count k n h) ≡ n
count_more ingredient n h = refl
count_more cookware n h = refl

below_at : {to : Option ℕ} (n d : ℕ) → FoundBelow to n → to ≡ Some d → d < n
below_at {to} n d f e = rw e at f

module _ (k : Kind) {w₀ w₁ : List ℕ} {h₀ h₁ : Held} {r : Row} (a : RowPushed k w₀ h₀ r w₁ h₁) {to : Option ℕ} where
  pub refer_ready : (d : ℕ) → Sound w₀ h₀ → FoundBelow to (count_of k h₀) → to ≡ Some d → (pairs_of k h₁ < count_of k h₁) × (d < count_of k h₁) × (count_of k h₀ < count_of k h₁)
  refer_ready d z f e =
      let n : count_of k h₁ ≡ count_of k h₀ + 1 = ap (count_of k) a.held ∙ count_more k (count_of k h₀ + 1) h₀ in
      let p : pairs_of k h₁ ≡ pairs_of k h₀ = ap (pairs_of k) a.held ∙ pairs_same k (count_of k h₀ + 1) h₀ in
      let l : d < count_of k h₀ = below_at (count_of k h₀) d f e in
      (omega (arith, z.room.pairs k), omega arith, omega arith)

  pub added_none : to ≡ None → ComponentAdded k w₀ h₀ r to w₁ h₁
  added_none e = rw e (added_alone k a)

  pub added_to : {w : List ℕ} {h : Held} (d : ℕ) → FoundBelow to (count_of k h₀) → to ≡ Some d → PairPushed k w₁ h₁ d (count_of k h₀) w h → ComponentAdded k w₀ h₀ r to w h
  added_to d f e b = rw e (added_referring k a b (below_at (count_of k h₀) d f e))
