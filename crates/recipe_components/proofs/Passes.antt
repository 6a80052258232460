-- One law for each way through the checks and the pass.
use Prim.Native.Nat.{ℕ, ◌+◌, ◌*◌, ◌≤◌, ◌<◌}
use mathlib.Core.Path.{◌≡◌, refl, sym, ap, ◌∙◌}
use mathlib.Core.List.{List, []}
use mathlib.Core.Bool.{Bool, true, false, ◌&&◌, ◌||◌}
use native.Mathlib.Omega.{arith}
use Rattle.std.specs.Prelude.{Option, None, Some, Result, Ok, Err}
use lib.Dec.{leb, ltb}
use lib.ListN.{length, take, drop}
use borrow.Author.Tests.{leb-true, le-ltb}
use Rattle.rules.specs.Input.{Input, Context, context_of}
use Rattle.rules.specs.Event.{Event}
use Rattle.rules.specs.Finding.{Finding}
use Rattle.rules.specs.Model.{Kind, ingredient, cookware, Entry}
use Rattle.rules.specs.Reference.{entry_at, own_references}
use Rattle.rules.specs.State.{Tables, State, set_kept, table_of, report, Outcome, recipe, no_recipe, refusal}
use Rattle.rules.specs.Pass.{is_empty_section, close_section, ended, parse_events}
use Rattle.rules.specs.Answer.{words_needed, bytes_needed, is_short, events_of}
use Rattle.rules.proofs.Basics.{pick_either, no_some, and_left, and_right}
use Rattle.rules.proofs.Referrers.{Linked, walk_linked}
use Rattle.refusals.specs.Told.{number_of}
use Rattle.refusals.specs.declared.Reason.TheVariants.{NoRoom}
use Rattle.refusals.specs.declared.Refusal.{Refusal}
use Rattle.inputs.specs.Inputs.{InputsChecked, GoodInputs}
use Rattle.rules.proofs.Agreed.{own_context}
use Rattle.inputs.proofs.Answers.{refused_outcome, good_words, good_collects}
use Rattle.model.specs.Blank.{blank, blank_tables}
use Rattle.model.specs.Kinds.{room_of, rows_from}
use Rattle.model.specs.Rows.{entries_in}
use Rattle.model.specs.Memory.{count_of, referrers_of}
use Rattle.model.specs.Fits.{Fits, EachRow}
use Rattle.model.specs.declared.Held.{Held}
use Rattle.model.proofs.Tables.{entries_length}
use Rattle.model.proofs.Windows.{table_is, rows_window, rows_end}
use Rattle.component_records.specs.Records.{records_in}
use Rattle.component_records.specs.Links.{pairs_of, pairs_from, own_count, Linkable}
use Rattle.pass.specs.Walks.{RanRecipe, RanFailed, RanBy, RanAs}
use Rattle.component_records.specs.Tables.{TableRoom, Ready, is_room_for}
use Rattle.recipe_components.specs.declared.ComponentCounts.{ComponentCounts}
use Rattle.recipe_components.specs.Components.{RecordsOf, table_pairs, Room, table_fits, both_fit, counts_of, answer_of, told_answer, table_lent, outcome_of}
use Rattle.recipe_components.specs.Tables.{ingredients_of, cookware_of, row_counts, counts_or20, RowsOf, RowsCollected}
use Rattle.recipe_components.proofs.Rows.{window_table, table_records, table_linkable, table_pairs_lem, table_own}
use Rattle.model.specs.declared.layout.TheConstants.{ROW, MOST_ROWS, INGREDIENTS, COOKWARE}

-- ---- no rows

no_rows : (k : Kind) (sheet w : List ℕ) (from : ℕ) → RowsOf k sheet [] w from 0
unfolding records_in entry_at pairs_of pairs_from table_pairs
no_rows k sheet w from = record { count = refl; records = record { long = refl; at = λ i e q. no_some q }; pairs = refl }

no_ready : (w : List ℕ) (from : ℕ) (m : TableRoom) → Ready w from 0 m
unfolding records_in own_count
no_ready w from m =
    record {
      few = omega arith;
      held = λ h. absurd (omega arith);
      room = omega arith;
      linkable = record { back = λ i h q. absurd (omega arith); fits = omega arith };
    }

module _ (i : Input) (m : Room) {w : List ℕ} (long : length w ≡ m.words) where
  empty : (r : Result (Option ComponentCounts) Refusal) → ingredients_of r ≡ 0 → cookware_of r ≡ 0 → told_answer r ≡ answer_of m (outcome_of i m) → ((k : Kind) → table_lent m k (outcome_of i m) ≡ []) → RowsCollected i m w r
  empty r a c e t =
      record {
        answer = e;
        long = long;
        ingredients = rw (a, t ingredient) (no_rows ingredient i.sheet w INGREDIENTS);
        cookware = rw (c, t cookware) (no_rows cookware i.sheet w COOKWARE);
        ingredients_ready = rw a (no_ready w INGREDIENTS m.ingredients);
        cookware_ready = rw c (no_ready w COOKWARE m.cookware);
      }

  pub refused_rows : {f : Refusal} → outcome_of i m ≡ refusal (number_of f.reason) f.line → RowsCollected i m w (Err f)
  unfolding ingredients_of cookware_of answer_of told_answer table_lent
  refused_rows {f} e = empty (Err f) refl refl (rw e) (λ k. rw e)

  pub none_rows : (fs : List Finding) → outcome_of i m ≡ no_recipe fs → RowsCollected i m w (Ok None)
  unfolding ingredients_of cookware_of answer_of told_answer table_lent
  none_rows fs e = empty (Ok None) refl refl (rw e) (λ k. rw e)

  pub full_rows : (st : State) → outcome_of i m ≡ recipe st → both_fit m st ≡ false → RowsCollected i m w (Err (record { reason = NoRoom; line = 0 }))
  unfolding ingredients_of cookware_of answer_of told_answer table_lent
  full_rows st e b = empty (Err (record { reason = NoRoom; line = 0 })) refl refl (rw (e, b)) (λ k. rw (e, b))

-- ---- a recipe

close_tables : (st : State) → (close_section st).tables ≡ st.tables
unfolding close_section set_kept
close_tables st = pick_either (λ (s : State). s.tables ≡ st.tables) (is_empty_section st.place.section) _ _ (λ b. refl) (λ b. refl)

ended_tables : (st : State) → (ended st).tables ≡ st.tables
unfolding ended report
ended_tables st = close_tables st

-- n rows of which memory holds the table es
pub record TableHeld (k : Kind) (sheet w : List ℕ) (from n : ℕ) (es : List Entry) : Type 0 where
  pub few : n ≤ MOST_ROWS
  pub held : 0 < n → from + n * ROW ≤ length w
  pub long : length es ≡ n
  pub own : own_count (records_in w from n) ≡ own_references k es
  pub records : RecordsOf k sheet es (records_in w from n)
  pub pairs : pairs_of (records_in w from n) ≡ table_pairs k es
  pub linkable : (words : ℕ) → own_count (records_in w from n) * 2 ≤ words → Linkable (records_in w from n) words

module _ {k : Kind} {sheet w : List ℕ} {from n : ℕ} {es : List Entry} (x : TableHeld k sheet w from n es) where
  fits_same : (m : TableRoom) → table_fits k m es ≡ is_room_for n (own_count (records_in w from n)) m
  unfolding is_room_for table_fits
  fits_same m = rw (x.own, x.long)

  rows_are : RowsOf k sheet es w from n
  rows_are = record { count = sym x.long; records = x.records; pairs = x.pairs }

  rows_ready : (m : TableRoom) → is_room_for n (own_count (records_in w from n)) m ≡ true → Ready w from n m
  unfolding is_room_for
  rows_ready m q =
      record {
        few = x.few;
        held = x.held;
        room = leb-true n m.records (and_left _ _ q);
        linkable = x.linkable m.pairs (leb-true _ m.pairs (and_right (leb n m.records) _ q));
      }

module _ (k : Kind) (sheet w : List ℕ) (from size : ℕ) (by : ℕ → List ℕ) (n : ℕ) (room : n * ROW ≤ size) where
  window_held : n ≤ MOST_ROWS → from + size ≤ length w → EachRow (Fits k sheet) (take size (drop from w)) n → Linked k (window_table k sheet w from size by n)
      → TableHeld k sheet w from n (window_table k sheet w from size by n)
  window_held few most f l =
      record {
        few = few;
        held = λ h. omega arith;
        long = entries_length k sheet (take size (drop from w)) by n;
        own = table_own k sheet w from size by n room;
        records = table_records k sheet w from size by n room f;
        pairs = table_pairs_lem k sheet w from size by n room;
        linkable = table_linkable k sheet w from size by n room l;
      }

module _ {cx : Context} {sheet : List ℕ} {es : List Event} {w : List ℕ} {h : Held} (x : RanRecipe cx sheet es w h) where
  abbrev st : State
  st = x.state

  table_blank : (k : Kind) → table_of k (blank st) ≡ table_of k st
  unfolding table_of blank blank_tables
  table_blank ingredient = refl
  table_blank cookware = refl

  rows_table : (k : Kind) → table_of k st ≡ window_table k sheet w (rows_from k) (room_of k * ROW) (referrers_of k w h) (count_of k h)
  rows_table k = sym (table_blank k) ∙ sym (ap (table_of k) x.memory) ∙ table_is k sheet w h ∙ ap (λ (rows : List ℕ). entries_in k sheet rows (referrers_of k w h) (count_of k h)) (rows_window k w)

  tables_end : (k : Kind) → table_of k (ended st) ≡ table_of k st
  unfolding table_of
  tables_end ingredient = ap (λ (t : Tables). t.ingredients) (ended_tables st)
  tables_end cookware = ap (λ (t : Tables). t.cookware) (ended_tables st)

  few_rows : (k : Kind) → (count_of k h ≤ MOST_ROWS) × (count_of k h * ROW ≤ room_of k * ROW)
  few_rows ingredient = let n = x.kept.sound.room.rows ingredient in (omega arith, omega arith)
  few_rows cookware = let n = x.kept.sound.room.rows cookware in (omega arith, omega arith)

  pub rows_held : (k : Kind) → TableHeld k sheet w (rows_from k) (count_of k h) (table_of k (ended st))
  rows_held k =
      let l = walk_linked cx es st x.walked k in
      rw (tables_end k, rows_table k)
      (window_held k sheet w (rows_from k) (room_of k * ROW) (referrers_of k w h) (count_of k h) (few_rows k).1 (few_rows k).0 (rows_end k w x.kept.sound.long) (rw (← rows_window k w) (x.kept.fit.rows k)) (rw (rows_table k) at l))

  -- the counts of the rows are those of the recipe
  module _ (i : Input) (same : i.sheet ≡ sheet) (m : Room) (long : length w ≡ m.words) (o : outcome_of i m ≡ recipe (ended st)) where
    both_same : both_fit m (ended st) ≡ (is_room_for h.counts.ingredients (own_count (records_in w INGREDIENTS h.counts.ingredients)) m.ingredients && is_room_for h.counts.cookware (own_count (records_in w COOKWARE h.counts.cookware)) m.cookware)
    unfolding both_fit
    both_same = rw (fits_same (rows_held ingredient) m.ingredients, fits_same (rows_held cookware) m.cookware)

    counts_same : counts_of (ended st) ≡ row_counts w h
    unfolding counts_of row_counts
    counts_same = rw ((rows_held ingredient).long, (rows_held cookware).long, (rows_held ingredient).own, (rows_held cookware).own)

    fit_rows : (is_room_for h.counts.ingredients (own_count (records_in w INGREDIENTS h.counts.ingredients)) m.ingredients && is_room_for h.counts.cookware (own_count (records_in w COOKWARE h.counts.cookware)) m.cookware) ≡ true → RowsCollected i m w (Ok (Some (row_counts w h)))
    unfolding answer_of told_answer row_counts table_lent ingredients_of cookware_of
    fit_rows q =
        let b : both_fit m (ended st) ≡ true = both_same ∙ q in
        record {
          answer = rw (o, b) (ap (λ (x : ComponentCounts). Ok (Some x)) (sym counts_same));
          long = long;
          ingredients = rw (o, b, same) (rows_are (rows_held ingredient));
          cookware = rw (o, b, same) (rows_are (rows_held cookware));
          ingredients_ready = rows_ready (rows_held ingredient) m.ingredients (and_left _ _ q);
          cookware_ready = rows_ready (rows_held cookware) m.cookware (and_right (is_room_for h.counts.ingredients (own_count (records_in w INGREDIENTS h.counts.ingredients)) m.ingredients) _ q);
        }

    pub counted_rows : RowsCollected i m w (counts_or20 w h m.ingredients m.cookware)
    unfolding counts_or20
    counted_rows =
        pick_either (RowsCollected i m w) (is_room_for h.counts.ingredients (own_count (records_in w INGREDIENTS h.counts.ingredients)) m.ingredients && is_room_for h.counts.cookware (own_count (records_in w COOKWARE h.counts.cookware)) m.cookware) _ _ fit_rows
        (λ q. full_rows i m long (ended st) o (both_same ∙ q))

-- ---- before the pass

enough_words : (n : ℕ) → is_short (record { words = n; bytes = 65536; room = 0 }) ≡ ltb n words_needed
unfolding is_short bytes_needed
enough_words n = rw (le-ltb 65536 65536 (omega arith)) (or_false (ltb n words_needed))
  where
    or_false : (b : Bool) → (b || false) ≡ b
    or_false true = refl
    or_false false = refl

module _ {i : Input} (m : Room) {a : Result (Unit {0}) Refusal} (p : InputsChecked i m.words 65536 a) where
  pub inputs_refused : {f : Refusal} {w : List ℕ} → length w ≡ m.words → a ≡ Err f → RowsCollected i m w (Err f)
  unfolding outcome_of
  inputs_refused long q =
      refused_rows i m long
      (rw (enough_words m.words) at (refused_outcome i (record { words = m.words; bytes = 65536; room = 0 }) (rw q at p)))

-- ---- after the pass

module _ {i : Input} (m : Room) (g : GoodInputs i m.words 65536) where
  outcome_is : {x : Outcome} → parse_events (context_of i) (events_of i) ≡ x → outcome_of i m ≡ x
  unfolding outcome_of
  outcome_is e = rw (le-ltb m.words words_needed (good_words g)) (good_collects g ∙ e)

  module _ {w₀ w : List ℕ} {a : Result (Option Held) Refusal} (long : length w₀ ≡ m.words) (p : RanAs i.text i.units i.flags i.sheet (events_of i) w₀ w a) where
    ran : RanBy (context_of i) i.sheet (events_of i) w a
    ran = p.is.at (context_of i) (own_context i)

    pub recipe_rows : {h : Held} {r : Result (Option ComponentCounts) Refusal} → a ≡ Ok (Some h) → r ≡ counts_or20 w h m.ingredients m.cookware → RowsCollected i m w r
    unfolding RanBy
    recipe_rows {h} q e =
        let x : RanRecipe (context_of i) i.sheet (events_of i) w h = rw q at ran in
        rw e (counted_rows x i refl m (p.long ∙ long) (outcome_is x.is))

    pub failed_rows : a ≡ Ok None → RowsCollected i m w (Ok None)
    unfolding RanBy
    failed_rows q =
        let x : RanFailed (context_of i) (events_of i) = rw q at ran in
        none_rows i m (p.long ∙ long) x.findings (outcome_is x.is)

    pub stopped_rows : {f : Refusal} → a ≡ Err f → RowsCollected i m w (Err f)
    unfolding RanBy
    stopped_rows {f} q =
        let x : parse_events (context_of i) (events_of i) ≡ refusal (number_of f.reason) f.line = rw q at ran in
        refused_rows i m (p.long ∙ long) (outcome_is x)
