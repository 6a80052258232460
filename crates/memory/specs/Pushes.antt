-- What the functions on the whole of work memory leave.
use Rattle.std.specs.Prelude.{ℕ, ◌+◌, ◌*◌, ◌<◌, ◌≡◌, List, [], ◌∷◌, Bool, true, false, length, Option, None, Some, Result, Ok, Err}
use Rattle.std.proofs.lemmas.List.Edits.{sets}
use Rattle.rules.specs.Basic.{is_some, on_some}
use Rattle.rules.specs.Event.{Text}
use Rattle.rules.specs.Model.{Kind, ingredient, cookware, Entry}
use Rattle.rules.specs.Reference.{set_referenced_from}
use Rattle.rules.specs.State.{table_of, set_table, report, over_limits, going}
use Rattle.rules.specs.Pass.{keep_block, on_section, finish}
use Rattle.refusals.specs.declared.Reason.{Reason}
use Rattle.refusals.specs.declared.Reason.TheVariants as reason
use Rattle.refusals.specs.Told.{number_told}
use Rattle.model.specs.Blank.{blank, refusal_of}
use Rattle.model.specs.Rows.{row_words, entry_as, noted_words, finding_of, block_of}
use Rattle.model.specs.Kinds.{rows_from, pairs_from}
use Rattle.model.specs.Memory.{count_of, pairs_of, state_in, Sound}
use Rattle.model.specs.Fits.{Fits, AllFit}
use Rattle.model.specs.Small.{with_block, with_counter, with_here, with_blocks, with_ingredients, with_cookware, with_ingredient_pairs, with_cookware_pairs, with_findings}
use Rattle.model.specs.declared.Open.{Open}
use Rattle.model.specs.declared.Open.TheVariants.{Nothing, Step, Text as TextBlock, TextMode}
use Rattle.model.specs.declared.Row.{Row}
use Rattle.model.specs.declared.Noted.{Noted}
use Rattle.model.specs.declared.Held.{Held}
use Rattle.model.specs.declared.layout.TheConstants.{ROW, PAIR, FINDING, FINDINGS, KINDS}

-- ---- the counts of each kind

abbrev pub with_count : Kind → ℕ → Held → Held
with_count ingredient n h = with_ingredients n h
with_count cookware n h = with_cookware n h

abbrev pub with_pairs : Kind → ℕ → Held → Held
with_pairs ingredient n h = with_ingredient_pairs n h
with_pairs cookware n h = with_cookware_pairs n h

-- ---- one more: w₀ and h₀ before, w and h after. The words are exact, and what they stand for is the rules' update

-- a component without referrers
pub record RowPushed (k : Kind) (w₀ : List ℕ) (h₀ : Held) (r : Row) (w : List ℕ) (h : Held) : Type 0 where
  pub words : w ≡ sets w₀ (rows_from k + count_of k h₀ * ROW) (row_words r)
  pub held : h ≡ with_count k (count_of k h₀ + 1) h₀
  pub is : (sheet : List ℕ) → state_in sheet w h ≡ set_table k (entry_as k sheet r [] ∷ table_of k (state_in sheet w₀ h₀)) (state_in sheet w₀ h₀)
  pub fit : (sheet : List ℕ) → AllFit sheet w₀ h₀ → Fits k sheet r → AllFit sheet w h
  pub sound : Sound w h

-- the referrer r of the definition at d
pub record PairPushed (k : Kind) (w₀ : List ℕ) (h₀ : Held) (d r : ℕ) (w : List ℕ) (h : Held) : Type 0 where
  pub words : w ≡ sets w₀ (pairs_from k + pairs_of k h₀ * PAIR) (d ∷ r ∷ [])
  pub held : h ≡ with_pairs k (pairs_of k h₀ + 1) h₀
  pub is : (sheet : List ℕ) → state_in sheet w h ≡ set_table k (set_referenced_from d r (table_of k (state_in sheet w₀ h₀))) (state_in sheet w₀ h₀)
  pub fit : (sheet : List ℕ) → AllFit sheet w₀ h₀ → AllFit sheet w h
  pub sound : Sound w h

pub record FindingPushed (w₀ : List ℕ) (h₀ : Held) (x : Noted) (w : List ℕ) (h : Held) : Type 0 where
  pub words : w ≡ sets w₀ (FINDINGS + h₀.counts.findings * FINDING) (noted_words x)
  pub held : h ≡ with_findings (h₀.counts.findings + 1) h₀
  pub is : (sheet : List ℕ) → state_in sheet w h ≡ report (finding_of x ∷ []) (state_in sheet w₀ h₀)
  pub fit : (sheet : List ℕ) → AllFit sheet w₀ h₀ → AllFit sheet w h
  pub sound : Sound w h

-- a block of the kind v closed, and the next step's number
pub record BlockKept (w₀ : List ℕ) (h₀ : Held) (v counter : ℕ) (w : List ℕ) (h : Held) : Type 0 where
  pub words : w ≡ sets w₀ (KINDS + h₀.counts.here) (v ∷ [])
  pub held : h ≡ with_block Nothing (with_counter counter (with_blocks (h₀.counts.blocks + 1) (with_here (h₀.counts.here + 1) h₀)))
  pub is : (sheet : List ℕ) → state_in sheet w h ≡ keep_block (block_of v) counter (state_in sheet w₀ h₀)
  pub fit : (sheet : List ℕ) → AllFit sheet w₀ h₀ → AllFit sheet w h
  pub sound : Sound w h

-- a section closed and another begun, with a name or without
pub record SectionBegun (h₀ : Held) (named : Bool) (h : Held) : Type 0 where
  pub is : (sheet w : List ℕ) (name : Option Text) → is_some name ≡ named → state_in sheet w h ≡ blank (on_section name (state_in sheet w h₀))
  pub fit : (sheet w : List ℕ) → AllFit sheet w h₀ → AllFit sheet w h
  pub sound : (w : List ℕ) → Sound w h₀ → Sound w h

pub record OverLimits (h : Held) (r : Bool) : Type 0 where
  pub is : (sheet w : List ℕ) → r ≡ over_limits (state_in sheet w h)

-- what is refused after a line: 17 where a limit is passed
abbrev pub limits_answer : Bool → Result (Unit {0}) Reason
limits_answer true = Err reason.OverLimits
limits_answer false = Ok tt

pub record LimitsChecked (h : Held) (r : Result (Unit {0}) Reason) : Type 0 where
  pub is : (sheet w : List ℕ) → r ≡ limits_answer (over_limits (state_in sheet w h))

-- what the end of the pass refuses: 19 where a block is open, 17 where a limit is passed
pub record EndChecked (h : Held) (r : Result (Unit {0}) Reason) : Type 0 where
  pub is : (sheet w : List ℕ) → refusal_of (finish (going (state_in sheet w h))) ≡ on_some (λ (n : ℕ). (n, 0)) (number_told r)

abbrev pub is_open_block : Open → Bool
is_open_block Nothing = false
is_open_block Step = true
is_open_block TextBlock = true
is_open_block TextMode = true

-- ---- a component, and with it the referrer of what it refers to (`pushed` of the rules)

abbrev pub referred_to : Option ℕ → List Entry → List Entry
referred_to None table = table
referred_to (Some d) table = set_referenced_from d (length table) table

-- what is referred to is there
abbrev pub FoundBelow : Option ℕ → ℕ → Type 0
FoundBelow (Some d) n = d < n
FoundBelow None n = Unit {0}

abbrev pub held_with : Kind → Option ℕ → Held → Held
held_with k None h = with_count k (count_of k h + 1) h
held_with k (Some d) h = with_pairs k (pairs_of k h + 1) (with_count k (count_of k h + 1) h)

abbrev pub words_with : Kind → Option ℕ → List ℕ → Held → Row → List ℕ
words_with k None w h r = sets w (rows_from k + count_of k h * ROW) (row_words r)
words_with k (Some d) w h r = sets (sets w (rows_from k + count_of k h * ROW) (row_words r)) (pairs_from k + pairs_of k h * PAIR) (d ∷ count_of k h ∷ [])

pub record ComponentAdded (k : Kind) (w₀ : List ℕ) (h₀ : Held) (r : Row) (to : Option ℕ) (w : List ℕ) (h : Held) : Type 0 where
  pub words : w ≡ words_with k to w₀ h₀ r
  pub held : h ≡ held_with k to h₀
  pub is : (sheet : List ℕ) → state_in sheet w h ≡ set_table k (entry_as k sheet r [] ∷ referred_to to (table_of k (state_in sheet w₀ h₀))) (state_in sheet w₀ h₀)
  pub fit : (sheet : List ℕ) → AllFit sheet w₀ h₀ → Fits k sheet r → AllFit sheet w h
  pub sound : Sound w h
