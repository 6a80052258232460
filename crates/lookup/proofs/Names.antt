-- The same-name search over rows is that over entries, for each kind.
use Prim.Native.Nat.{ℕ, zero, suc, ◌-◌, ◌≤◌, ◌<◌}
use mathlib.Core.Path.{◌≡◌, refl, sym, ap, ◌∙◌}
use mathlib.Core.List.{List, [], ◌∷◌}
use mathlib.Core.Bool.{Bool, true, false, ◌||◌, beq}
use Rattle.std.specs.Prelude.{Option, None, Some}
use native.Mathlib.Omega.{arith}
use lib.ListN.{take, drop}
use lib.Seq.{slice, take-nil}
use Rattle.rules.specs.Basic.{pick, on_some}
use Rattle.rules.specs.Text.{retain}
use Rattle.rules.specs.Read.{content_of}
use Rattle.rules.specs.Unicode.{fold_name, same_name}
use Rattle.rules.specs.Model.{Kind, Entry, set_relation, set_modifiers}
use Rattle.rules.specs.Reference.{eq_bool, fits, same_name_in, same_name_of}
use Rattle.rules.specs.State.{table_of}
use Rattle.rules.proofs.Basics.{no_some, some_inj}
use Rattle.content.specs.Contents.{content_in, kept_in}
use Rattle.content.specs.Parts.{Field}
use Rattle.content.proofs.Plains.{content_of_lem}
use Rattle.content.proofs.Lines.{field_content}
use Rattle.model.specs.Rows.{row_on, component_of_line, modifiers_in, entry_as, entry_in, entries_in}
use Rattle.model.specs.Memory.{table_in, referrers_of, state_in, count_of, rows_in}
use Rattle.model.specs.Fits.{Fits, EachRow, AllFit}
use Rattle.model.specs.declared.Row.{Row}
use Rattle.model.specs.declared.Held.{Held}
use Rattle.model.proofs.Tables.{entries_length}
use Rattle.model.proofs.Windows.{table_is}
use Rattle.lookup.specs.declared.NamePart.{NamePart}
use Rattle.lookup.specs.Names.{name_part, NamesInside, row_fits, same_row, earlier_in, earlier_at, SameFound, NewName}

-- ---- the name of a row

fewer : {k : Kind} {sheet rows : List ℕ} {n : ℕ} → EachRow (Fits k sheet) rows (suc n) → EachRow (Fits k sheet) rows n
fewer h = record { at = λ i l. h.at i (omega arith) }

pub names_inside : {k : Kind} {sheet rows : List ℕ} {n : ℕ} → EachRow (Fits k sheet) rows n → NamesInside sheet rows n
names_inside h = record { at = λ i l. record { order = (h.at i l).name; most = omega (arith, (h.at i l).name_end, (h.at i l).line.most) } }

read_kept : (f name : List ℕ) (o : Option (List ℕ)) → content_of f ≡ o → on_some (retain 0) o ≡ Some name → kept_in f ≡ name
unfolding on_some kept_in
read_kept f name None e q = no_some q
read_kept f name (Some c) e q = ap (retain 0) (content_of_lem f e) ∙ some_inj q

-- what a row points at is the name of the entry that it stands for
pub name_of : {k : Kind} {sheet : List ℕ} {r : Row} → Fits k sheet r → kept_in (name_part sheet r) ≡ (entry_as k sheet r []).name
name_of {k} {sheet} {r} h = read_kept (name_part sheet r) (entry_as k sheet r []).name _ refl h.is_name

-- ---- an entry has the name, REF and OPT of its row

module _ (k : Kind) (sheet rows : List ℕ) (by : ℕ → List ℕ) where
  entry_name : (i : ℕ) → (entry_in k sheet rows by i).name ≡ (entry_as k sheet (row_on rows i) []).name
  unfolding entry_in entry_as set_relation
  entry_name i = refl

  entry_ref : (i : ℕ) → (entry_in k sheet rows by i).modifiers.ref ≡ (row_on rows i).reference
  unfolding entry_in entry_as set_relation set_modifiers modifiers_in
  entry_ref i = refl

  entry_opt : (i : ℕ) → (entry_in k sheet rows by i).modifiers.opt ≡ (row_on rows i).opt
  unfolding entry_in entry_as set_relation set_modifiers modifiers_in
  entry_opt i = refl

  module _ (folded : List ℕ) (any_opt is_opt : Bool) where
    entry_fits : (i : ℕ) → Fits k sheet (row_on rows i) → fits folded any_opt is_opt (entry_in k sheet rows by i) ≡ row_fits sheet folded any_opt is_opt (row_on rows i)
    unfolding fits row_fits
    entry_fits i h = rw (entry_ref i, entry_opt i, entry_name i, name_of h)

    -- the lookup law, for either kind
    pub rows_search : (n : ℕ) → EachRow (Fits k sheet) rows n
        → on_some (earlier_in k sheet rows by) (same_row sheet folded any_opt is_opt rows n) ≡ same_name_in folded any_opt is_opt (entries_in k sheet rows by n)
    unfolding same_name_in entries_in same_row on_some earlier_in
    rows_search zero h = refl
    rows_search (suc n) h =
        rw (entry_fits n (h.at n (omega arith)), entries_length k sheet rows by n, ← rows_search n (fewer h)) (go (row_fits sheet folded any_opt is_opt (row_on rows n)))
      where
        go : (b : Bool) → on_some (earlier_in k sheet rows by) (pick b (Some n) (same_row sheet folded any_opt is_opt rows n))
            ≡ pick b (Some (record { index = n; entry = entry_in k sheet rows by n })) (on_some (earlier_in k sheet rows by) (same_row sheet folded any_opt is_opt rows n))
        go true = refl
        go false = refl

-- ---- what is found is one of the rows

module _ (sheet folded : List ℕ) (any_opt is_opt : Bool) (rows : List ℕ) where
  same_below : (n i : ℕ) → same_row sheet folded any_opt is_opt rows n ≡ Some i → i < n
  unfolding same_row
  same_below zero i e = no_some e
  same_below (suc n) i e = go (row_fits sheet folded any_opt is_opt (row_on rows n)) e (λ q. same_below n i q)
    where
      go : (b : Bool) → pick b (Some n) (same_row sheet folded any_opt is_opt rows n) ≡ Some i → (same_row sheet folded any_opt is_opt rows n ≡ Some i → i < n) → i < suc n
      go true q f = let z : n ≡ i = some_inj q in omega arith
      go false q f = let l : i < n = f q in omega arith

-- ---- the turns of the loop

-- the search from the row before i on is the whole search
pub record Searching (sheet rows : List ℕ) (n : ℕ) (name : List ℕ) (any_opt is_opt : Bool) (i : ℕ) : Type 0 where
  pub most : i ≤ n
  pub is : same_row sheet (fold_name (kept_in name)) any_opt is_opt rows i ≡ same_row sheet (fold_name (kept_in name)) any_opt is_opt rows n

pub search_start : (sheet rows : List ℕ) (n : ℕ) (name : List ℕ) (any_opt is_opt : Bool) → Searching sheet rows n name any_opt is_opt n
search_start sheet rows n name any_opt is_opt = record { most = omega arith; is = refl }

module _ {sheet rows : List ℕ} {n : ℕ} {name : List ℕ} {any_opt is_opt : Bool} {i : ℕ} (v : Searching sheet rows n name any_opt is_opt i) where
  turn : 0 < i → same_row sheet (fold_name (kept_in name)) any_opt is_opt rows i
      ≡ pick (row_fits sheet (fold_name (kept_in name)) any_opt is_opt (row_on rows (i - 1))) (Some (i - 1)) (same_row sheet (fold_name (kept_in name)) any_opt is_opt rows (i - 1))
  unfolding same_row
  turn h = let e : i ≡ suc (i - 1) = omega arith in ap (λ (j : ℕ). same_row sheet (fold_name (kept_in name)) any_opt is_opt rows j) e

  module _ {r : Bool} (h : 0 < i) (e : r ≡ row_fits sheet (fold_name (kept_in name)) any_opt is_opt (row_on rows (i - 1))) where
    pub search_hit : r ≡ true → (Some (i - 1)) ≡ same_row sheet (fold_name (kept_in name)) any_opt is_opt rows n
    search_hit t = sym (turn h ∙ rw (← e, t)) ∙ v.is

    pub search_miss : r ≡ false → Searching sheet rows n name any_opt is_opt (i - 1)
    search_miss t = record { most = omega (arith, v.most); is = sym (turn h ∙ rw (← e, t)) ∙ v.is }

  pub search_end : i ≤ 0 → None ≡ same_row sheet (fold_name (kept_in name)) any_opt is_opt rows n
  unfolding same_row
  search_end h = let e : i ≡ 0 = omega arith in rw e at v.is

-- OPT
pub agree_not : (any opt is : Bool) → any ≡ false → beq opt is ≡ (any || eq_bool opt is)
unfolding eq_bool
agree_not any true true e = rw e
agree_not any true false e = rw e
agree_not any false true e = rw e
agree_not any false false e = rw e

-- a part that is lent, as a slice
pub part_slice : (a b : ℕ) (l : List ℕ) → a ≤ b → take (b - a) (drop a l) ≡ slice a b l
part_slice zero b l h = let e : b - 0 ≡ b = omega arith in ap (λ (n : ℕ). take n l) e
part_slice (suc a) zero l h = absurd (omega arith)
part_slice (suc a) (suc b) [] h = take-nil (suc b - suc a)
part_slice (suc a) (suc b) (x ∷ l) h = let e : suc b - suc a ≡ b - a = omega arith in ap (λ (n : ℕ). take n (drop a l)) e ∙ part_slice a b l (omega arith)

-- REF and OPT, then the name
module _ (sheet rows : List ℕ) (i : ℕ) (name : List ℕ) (any is : Bool) where
  module _ {ref : Bool} (er : ref ≡ (row_on rows i).reference) where
    pub fits_not_ref : ref ≡ true → false ≡ row_fits sheet (fold_name (kept_in name)) any is (row_on rows i)
    unfolding row_fits
    fits_not_ref t = rw (sym er ∙ t)

    module _ {opt agree : Bool} (f : ref ≡ false) (eo : opt ≡ (row_on rows i).opt) (ea : agree ≡ (any || eq_bool opt is)) where
      pub fits_not_opt : agree ≡ false → false ≡ row_fits sheet (fold_name (kept_in name)) any is (row_on rows i)
      unfolding row_fits
      fits_not_opt t = rw (sym er ∙ f, ← eo, ← ea, t)

      pub fits_name : agree ≡ true → {a b : ℕ} → (a ≡ (row_on rows i).name_at) × (b ≡ (row_on rows i).name_end) → (r : Bool) → r ≡ same_name (kept_in (slice a b sheet)) (kept_in name)
          → r ≡ row_fits sheet (fold_name (kept_in name)) any is (row_on rows i)
      unfolding row_fits same_name
      fits_name t n r q = q ∙ rw (n.0, n.1, sym er ∙ f, ← eo, ← ea, t)

pub named_part : (sheet : List ℕ) (a b : ℕ) (name : List ℕ) (r : Bool) → a ≤ b → r ≡ same_name (kept_in (take (b - a) (drop a sheet))) (kept_in name) → r ≡ same_name (kept_in (slice a b sheet)) (kept_in name)
named_part sheet a b name r h e = rw (part_slice a b sheet h) at e

-- ---- the whole of work memory

module _ (sheet w : List ℕ) (h : Held) (name : List ℕ) (any_opt is_opt : Bool) where
  pub same_found : (k : Kind) (r : Option ℕ) → AllFit sheet w h
      → r ≡ same_row sheet (fold_name (kept_in name)) any_opt is_opt (rows_in k w) (count_of k h) → SameFound k sheet w h name any_opt is_opt r
  unfolding same_name_of
  same_found k r z e =
      record {
        is = λ new en eo. ap (on_some (earlier_at k sheet w h)) e ∙ rows_search k sheet (rows_in k w) (referrers_of k w h) (fold_name (kept_in name)) any_opt is_opt (count_of k h) (z.rows k) ∙ said new en eo;
        below = λ i q. same_below sheet (fold_name (kept_in name)) any_opt is_opt (rows_in k w) (count_of k h) i (sym e ∙ q);
      }
    where
      said : (new : Entry) → new.name ≡ kept_in name → new.modifiers.opt ≡ is_opt
          → same_name_in (fold_name (kept_in name)) any_opt is_opt (table_in k sheet w h) ≡ same_name_of any_opt new (table_of k (state_in sheet w h))
      said new en eo = rw (en, eo, table_is k sheet w h)

pub part_found : {k : Kind} {x y : Bool} {sheet w : List ℕ} {h : Held} {from to : ℕ} {r : Option ℕ} → from ≤ to → SameFound k sheet w h (take (to - from) (drop from sheet)) x y r → SameFound k sheet w h (slice from to sheet) x y r
part_found {sheet = sheet} {from = from} {to} l s = rw (part_slice from to sheet l) at s

-- ---- the name of a new row

field_kept : {f : List ℕ} → Field f → on_some (retain 0) (content_of f) ≡ Some (kept_in f)
unfolding on_some kept_in
field_kept h = ap (on_some (retain 0)) (field_content h)

-- a row whose name is what `new_name` gives for its line points at it
pub name_new : {k : Kind} {sheet : List ℕ} {from to : ℕ} {p : NamePart} (r : Row) → NewName k sheet from to p → Field (slice from to sheet) → r.name_at ≡ p.at → r.name_end ≡ p.end
    → (component_of_line k (slice r.line_at r.line_end sheet)).name.content ≡ content_in (slice from to sheet) → on_some (retain 0) (content_of (name_part sheet r)) ≡ Some (entry_as k sheet r []).name
unfolding entry_as set_relation set_modifiers
name_new {k} {sheet} r z f ea ee e =
    rw (ea, ee) (field_kept (z.field f) ∙ ap Some (z.is true (component_of_line k (slice r.line_at r.line_end sheet)) e))
