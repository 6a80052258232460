-- What a new component refers to (`resolve_reference`, `set_referenced_from`).
use Rattle.std.specs.Prelude.{ℕ, ◌+◌, ◌≡◌, List, [], ◌∷◌, ◌++◌, reverse, Bool, true, false, ◌&&◌, ◌||◌, not, eqb, length, Option, None, Some}
use Rattle.rules.specs.Basic.{pick, eq_list, is_some, when}
use Rattle.rules.specs.Unicode.{fold_name}
use Rattle.rules.specs.Finding.{Finding, diag, found}
use Rattle.rules.specs.Event.{Modifiers}
use Rattle.rules.specs.Model.{Kind, both, either, any_beyond, with_ref, inherits, target_of, is_own, Relation, definition, reference, Entry, set_relation, set_modifiers}
use Rattle.rules.specs.Modes.{Modes, is_steps, is_reference}

-- ---- the same-name search

-- an earlier entry and its index
pub record Earlier : Type 0 where
  pub index : ℕ
  pub entry : Entry

unfoldable pub eq_bool : Bool → Bool → Bool
eq_bool true b = b
eq_bool false b = not b

-- "The same-name search takes the last earlier component without REF; without an explicit REF on the new one, OPT must agree too."
module _ (folded : List ℕ) (any_opt is_opt : Bool) where
  unfoldable pub fits : Entry → Bool
  fits e = not e.modifiers.ref && (any_opt || eq_bool e.modifiers.opt is_opt) && eq_list (fold_name e.name) folded

  unfoldable pub same_name_in : List Entry → Option Earlier
  same_name_in [] = None
  same_name_in (e ∷ es) = pick (fits e) (Some (record { index = length es; entry = e })) (same_name_in es)

unfoldable pub same_name_of : Bool → Entry → List Entry → Option Earlier
same_name_of any_opt new table = same_name_in (fold_name new.name) any_opt new.modifiers.opt table

-- the entry of an index
module _ (i : ℕ) where
  unfoldable pub entry_at : List Entry → Option Entry
  entry_at [] = None
  entry_at (e ∷ es) = pick (eqb i (length es)) (Some e) (entry_at es)

-- ---- `resolve_reference`: `same` is what the search found

module _ (modes : Modes) (new : Entry) where
  unfoldable pub is_explicit : Bool
  is_explicit = new.modifiers.ref

  -- `treat_as_reference`
  unfoldable pub treat_as_reference : Option Earlier → Bool
  treat_as_reference same = is_explicit || is_steps modes.define || is_reference modes.duplicate && is_some same

  -- "NEW with REF: an error, no reference, both kept."
  unfoldable pub refers_to : Option Earlier → Option Earlier
  refers_to same = pick new.modifiers.new None (pick (treat_as_reference same) same None)

  -- 11, redundant NEW: never in steps mode; else with `[duplicate] new`, or where the name is new
  unfoldable pub redundant_new : Option Earlier → List Finding
  redundant_new same =
      when (not (is_steps modes.define) && (not (is_reference modes.duplicate) || not (is_some same)))
      (found 11 new.source.modifiers_span)

  -- 12, redundant REF
  unfoldable pub redundant_ref : List Finding
  redundant_ref =
      when (is_explicit && (is_reference modes.duplicate || is_steps modes.define)) (found 12 new.source.modifiers_span)

  module _ (inherit : Modifiers) where
    -- 13, modifier conflict: modifiers that the definition does not hand down; 14, not found
    unfoldable pub conflict_or_missing : Option Earlier → List Finding
    conflict_or_missing None = diag 14 (new.source.span ∷ []) (not is_explicit) ∷ []
    conflict_or_missing (Some d) =
        when (any_beyond new.modifiers (with_ref (both d.entry.modifiers inherit)))
        (diag 13 (new.source.modifiers_span ∷ []) (not is_explicit))

    -- what is found, in order; 10, NEW with REF
    unfoldable pub reference_findings : Option Earlier → List Finding
    reference_findings same =
        pick new.modifiers.new
        (pick is_explicit (found 10 new.source.modifiers_span ∷ []) (redundant_new same))
        (redundant_ref ++ pick (treat_as_reference same) (conflict_or_missing same) [])

-- the new entry where it refers to d: the definition's modifiers that it inherits, and REF
unfoldable pub as_referring : Kind → Option Earlier → Entry → Entry
as_referring k None new = new
as_referring k (Some d) new =
    set_relation (reference (target_of k) d.index)
    (set_modifiers (with_ref (either new.modifiers (both d.entry.modifiers (inherits k)))) new)

-- ---- `set_referenced_from`: the definition at i gets the referrer n

unfoldable pub referred_by : ℕ → Relation → Relation
referred_by n (definition in_step by) = definition in_step (n ∷ by)
referred_by n (reference t j) = reference t j

module _ (i n : ℕ) where
  unfoldable pub set_referenced_from : List Entry → List Entry
  set_referenced_from [] = []
  set_referenced_from (e ∷ es) = pick (eqb i (length es)) (set_relation (referred_by n e.relation) e ∷ es) (e ∷ set_referenced_from es)

unfoldable pub is_definition : Relation → Bool
is_definition (definition in_step by) = true
is_definition (reference t j) = false

-- the indices that refer to a definition, oldest first
unfoldable pub referrers : Relation → List ℕ
referrers (definition in_step by) = reverse by
referrers (reference t j) = []

-- what the pass keeps of a table: an entry without REF is a definition, so no search finds a reference
pub data DefinedWithoutRef : List Entry → Type 0 where
  defined_none : DefinedWithoutRef []
  defined_more : {e : Entry} {es : List Entry} → (e.modifiers.ref ≡ false → is_definition e.relation ≡ true) → DefinedWithoutRef es
      → DefinedWithoutRef (e ∷ es)

-- ---- how many refer to an entry of their own table

unfoldable pub is_own_reference : Kind → Relation → Bool
is_own_reference k (definition in_step by) = false
is_own_reference k (reference t j) = is_own k t

module _ (k : Kind) where
  -- the references to an entry of their own table
  unfoldable pub own_references : List Entry → ℕ
  own_references [] = 0
  own_references (e ∷ es) = pick (is_own_reference k e.relation) 1 0 + own_references es
