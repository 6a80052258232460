-- What the row of a component says of its line: what it refers to without REF, and 23.
use Prim.Native.Nat.{ℕ}
use mathlib.Core.Path.{◌≡◌, refl, sym, ap, ◌∙◌}
use mathlib.Core.List.{List, [], ◌∷◌}
use mathlib.Core.Bool.{Bool, true, false}
use Rattle.std.specs.Prelude.{Option, None, Some}
use native.Mathlib.Omega.{arith}
use lib.ListN.{length}
use Rattle.rules.specs.Input.{Context}
use Rattle.rules.specs.Basic.{pick, on_some}
use Rattle.rules.specs.Unicode.{fold_name}
use Rattle.rules.specs.Event.{Component}
use Rattle.rules.specs.Model.{Kind, ingredient, cookware, target_of, to_ingredient, to_cookware, to_step, to_section, Relation, definition, reference, Entry, entry_with, entry_of, set_relation, set_modifiers}
use Rattle.rules.specs.Reference.{Earlier, fits, same_name_in, same_name_of, as_referring}
use Rattle.rules.specs.State.{State, table_of}
use Rattle.rules.specs.Components.{Made, new_entry, made_with, made_by_name}
use Rattle.rules.specs.Plain.{implicit_of, is_last, implicit_fault, marked_if}
use Rattle.content.specs.Contents.{kept_in}
use Rattle.model.specs.Memory.{rows_in}
use Rattle.model.specs.Rows.{row_on, own_target, relation_as, relation_in, entry_as, entry_in, entries_in}
use Rattle.model.specs.Fits.{Fits, EachRow}
use Rattle.model.specs.declared.Relation as declared
use Rattle.model.specs.declared.Relation.TheVariants.{Definition, Reference}
use Rattle.model.specs.declared.Target.TheVariants.{Ingredient, Step, Section}
use Rattle.lookup.specs.Names.{name_part, same_row, earlier_in}
use Rattle.lookup.proofs.Names.{name_of, rows_search}
use Rattle.plain_walk.specs.Rows.{fault_as, marked_as, implicit_row, last_row, implicit_in, kind_fault}
use Rattle.plain_walk.proofs.Grown.{bare_relation, bare, index_of, bare_search}
use Rattle.plain_walk.proofs.Added.{MadeRow}

-- ---- the component that a relation refers to

unfoldable target_index : Relation → Option ℕ
target_index (definition b by) = None
target_index (reference to_ingredient j) = Some j
target_index (reference to_cookware j) = Some j
target_index (reference to_step j) = None
target_index (reference to_section j) = None

target_bare : (r : Relation) → target_index (bare_relation r) ≡ target_index r
unfolding target_index bare_relation
target_bare (definition b by) = refl
target_bare (reference t j) = refl

target_row : (k : Kind) (r : declared.Relation) (b : Bool) (i : ℕ) (by : List ℕ) → target_index (relation_as k r b i by) ≡ own_target r i
unfolding target_index relation_as own_target target_of
target_row k Definition b i by = refl
target_row ingredient (Reference Ingredient) b i by = refl
target_row cookware (Reference Ingredient) b i by = refl
target_row k (Reference Step) b i by = refl
target_row k (Reference Section) b i by = refl

target_made : (k : Kind) (to : Option Earlier) (new : Entry) → target_index new.relation ≡ None → target_index (as_referring k to new).relation ≡ on_some index_of to
unfolding target_index as_referring set_relation set_modifiers target_of on_some index_of
target_made k None new q = q
target_made ingredient (Some d) new q = refl
target_made cookware (Some d) new q = refl

target_new : (k : Kind) (c : Component) (st : State) → target_index (new_entry k c st).relation ≡ None
unfolding target_index new_entry entry_of entry_with
target_new k c st = refl

made_name : (k : Kind) (to : Option Earlier) (new : Entry) → (as_referring k to new).name ≡ new.name
unfolding as_referring set_relation set_modifiers
made_name k None new = refl
made_name k (Some d) new = refl

bare_target : (e : Entry) → target_index (bare e).relation ≡ target_index e.relation
unfolding bare set_relation
bare_target e = target_bare e.relation

bare_name : (e : Entry) → (bare e).name ≡ e.name
unfolding bare set_relation
bare_name e = refl

-- ---- the search where OPT need not agree

any_opt : (f : List ℕ) (o p : Bool) (es : List Entry) → same_name_in f true o es ≡ same_name_in f true p es
unfolding same_name_in fits
any_opt f o p [] = refl
any_opt f o p (e ∷ es) = ap (λ (x : Option Earlier). pick (fits f true o e) (Some (record { index = length es; entry = e })) x) (any_opt f o p es)

index_row : (k : Kind) (sheet rs : List ℕ) (by : ℕ → List ℕ) (o : Option ℕ) → on_some index_of (on_some (earlier_in k sheet rs by) o) ≡ o
unfolding on_some index_of earlier_in
index_row k sheet rs by None = refl
index_row k sheet rs by (Some i) = refl

fault_by : (d : Earlier) (last : Option Earlier) → pick (is_last d last) None (Some 23) ≡ fault_as (Some d.index) (on_some index_of last)
unfolding is_last fault_as on_some index_of
fault_by d None = refl
fault_by d (Some l) = refl

fault_as_lem : (new : Entry) (table : List Entry) (to : Option Earlier) → implicit_fault new table to ≡ fault_as (on_some index_of to) (on_some index_of (same_name_of true new table))
unfolding implicit_fault fault_as on_some index_of
fault_as_lem new table None = refl
fault_as_lem new table (Some d) = fault_by d (same_name_of true new table)

-- ---- a component with its row

module _ (cx : Context) (k : Kind) (c : Component) (st : State) (sheet rs : List ℕ) (by : ℕ → List ℕ) (n : ℕ) where
  abbrev made : Made
  made = made_by_name cx.units cx.flags k c st

  abbrev at : ℕ
  at = length (table_of k st)

  module _ (h : MadeRow k sheet rs by n made (table_of k st)) where
    refers_row : own_target (row_on rs at).relation.relation (row_on rs at).relation.index ≡ on_some index_of made.refers_to
    refers_row =
        sym (target_row k (row_on rs at).relation.relation (row_on rs at).relation.in_step (row_on rs at).relation.index (by at))
        ∙ unfold entry_in entry_as set_relation relation_in in (sym (bare_target (entry_in k sheet rs by at))
        ∙ ap (λ (e : Entry). target_index e.relation) h.entry
        ∙ bare_target made.entry
        ∙ unfold made_by_name made_with in target_made k made.refers_to (new_entry k c st) (target_new k c st))

    name_row : EachRow (Fits k sheet) rs n → kept_in (name_part sheet (row_on rs at)) ≡ (new_entry k c st).name
    name_row z =
        name_of (z.at at h.low)
        ∙ unfold entry_in entry_as set_relation in (sym (bare_name (entry_in k sheet rs by at)) ∙ ap (λ (e : Entry). e.name) h.entry
        ∙ bare_name made.entry
        ∙ unfold made_by_name made_with in made_name k made.refers_to (new_entry k c st))

    last_row_lem : EachRow (Fits k sheet) rs n
        → same_row sheet (fold_name (kept_in (name_part sheet (row_on rs at)))) true false rs at ≡ on_some index_of (same_name_of true (new_entry k c st) (table_of k st))
    unfolding same_name_of
    last_row_lem z =
        ap (λ (x : List ℕ). same_row sheet (fold_name x) true false rs at) (name_row z)
        ∙ sym (index_row k sheet rs by (same_row sheet (fold_name (new_entry k c st).name) true false rs at))
        ∙ ap (on_some index_of) (rows_search k sheet rs by (fold_name (new_entry k c st).name) true false at (record { at = λ i l. z.at i (omega (arith, l, h.low)) }))
        ∙ sym (bare_search (fold_name (new_entry k c st).name) true false (entries_in k sheet rs by at))
        ∙ ap (λ (x : List Entry). on_some index_of (same_name_in (fold_name (new_entry k c st).name) true false x)) h.before
        ∙ bare_search (fold_name (new_entry k c st).name) true false (table_of k st)
        ∙ ap (on_some index_of) (any_opt (fold_name (new_entry k c st).name) false (new_entry k c st).modifiers.opt (table_of k st))

marked_as_lem : (c : Component) (to : Option Earlier) → marked_if c to ≡ marked_as c (on_some index_of to)
unfolding marked_if marked_as on_some
marked_as_lem c None = refl
marked_as_lem c (Some d) = refl

-- ---- any component's line: `to` is what it refers to

module _ (cx : Context) (k : Kind) (c : Component) (st : State) (sheet w : List ℕ) (by : ℕ → List ℕ) (n : ℕ) (to : Option Earlier) where
  -- of a line without REF: its row, and that `to` is found by name
  pub record Named : Type 0 where
    pub row : MadeRow k sheet (rows_in k w) by n (made_by_name cx.units cx.flags k c st) (table_of k st)
    pub named : to ≡ (made_by_name cx.units cx.flags k c st).refers_to

  module _ (h : c.modifiers.ref ≡ false → Named) where
    pub implicit_row_lem : on_some index_of (implicit_of c to) ≡ implicit_in w k c (length (table_of k st))
    unfolding implicit_of implicit_in implicit_row
    implicit_row_lem = go c.modifiers.ref refl
      where
        go : (b : Bool) → c.modifiers.ref ≡ b
            → on_some index_of (pick b None to)
            ≡ pick b None (own_target (row_on (rows_in k w) (length (table_of k st))).relation.relation (row_on (rows_in k w) (length (table_of k st))).relation.index)
        go true q = unfold on_some in refl
        go false q = ap (on_some index_of) (h q).named ∙ sym (refers_row cx k c st sheet (rows_in k w) by n (h q).row)

    pub marked_row : marked_if c (implicit_of c to) ≡ marked_as c (implicit_in w k c (length (table_of k st)))
    marked_row = marked_as_lem c (implicit_of c to) ∙ ap (marked_as c) implicit_row_lem

    pub fault_row : EachRow (Fits k sheet) (rows_in k w) n
        → implicit_fault (new_entry k c st) (table_of k st) (implicit_of c to) ≡ kind_fault w sheet k c (length (table_of k st))
    unfolding kind_fault
    fault_row z =
        fault_as_lem (new_entry k c st) (table_of k st) (implicit_of c to)
        ∙ ap (λ (x : Option ℕ). fault_as x (on_some index_of (same_name_of true (new_entry k c st) (table_of k st)))) implicit_row_lem
        ∙ go c.modifiers.ref refl
      where
        go : (b : Bool) → c.modifiers.ref ≡ b
            → fault_as (implicit_in w k c (length (table_of k st))) (on_some index_of (same_name_of true (new_entry k c st) (table_of k st)))
            ≡ fault_as (implicit_in w k c (length (table_of k st))) (last_row (rows_in k w) sheet (length (table_of k st)))
        go true q = unfold implicit_in implicit_row fault_as in rw q
        go false q =
            unfold last_row in
            ap (fault_as (implicit_in w k c (length (table_of k st)))) (sym (last_row_lem cx k c st sheet (rows_in k w) by n (h q).row z))
