-- The lines of rows, one after another.
use Prim.Native.Nat.{ℕ, ◌+◌, ◌-◌, ◌≤◌, ◌<◌}
use mathlib.Core.Path.{◌≡◌, refl}
use mathlib.Core.Bool.{true}
use mathlib.Core.List.{List, [], ◌∷◌, ◌++◌, append_assoc}
use native.Mathlib.Omega.{arith}
use native.Mathlib.Numerals.{add-one}
use lib.ListN.{length, take, drop}
use lib.Seq.{slice}
use Rattle.rules.specs.Basic.{lf, decimal}
use Rattle.rules.specs.Sheet.{line_of, Without}
use Rattle.rules.specs.Read.{parse_line}
use Rattle.rules.specs.Model.{Kind, ingredient, cookware, target_of, Entry, set_relation, set_modifiers}
use Rattle.rules.specs.Page.{target_word, relation_fields, ingredient_line, cookware_line, table_lines}
use Rattle.rules.specs.State.{table_of}
use Rattle.output.specs.Put.{Put, tabbed}
use Rattle.output.proofs.Puts.{put_seq, starts, ends_in}
use Rattle.output.proofs.Texts.{put_fields, put_line}
use Rattle.components.specs.declared.Modifiers.{Modifiers}
use Rattle.components.specs.Views.{modifiers_in}
use Rattle.model.specs.declared.Row.{Row}
use Rattle.model.specs.declared.Held.{Held}
use Rattle.model.specs.Rows as model
use Rattle.model.specs.Rows.{relation_in, component_of_line, entry_as, entry_in, entries_in}
use Rattle.model.specs.Memory.{count_of, rows_in, row_in, referrers_of, state_in}
use Rattle.model.specs.Fits.{Fits, AllFit, is_of_kind}
use Rattle.model.proofs.Tables.{entries_length}
use Rattle.model.proofs.Windows.{table_is}
use Rattle.lookup.proofs.Names.{part_slice}
use Rattle.page_fields.proofs.Tables.{lines_none, lines_more}
use Rattle.entry_lines.specs.Lines.{kind_word, entry_line, path_fields, own_fields, marked_entry}
use Rattle.entry_lines.proofs.Relations.{escape_word}

-- ---- one line

line_fields : (k : Kind) (i : ℕ) (e : Entry) → entry_line k i e ≡ line_of (kind_word k ∷ ((decimal i ∷ []) ++ own_fields k e ++ relation_fields e.relation))
unfolding entry_line ingredient_line cookware_line kind_word target_word target_of own_fields path_fields
line_fields ingredient i e = simp append_assoc
line_fields cookware i e = simp append_assoc

module _ (k : Kind) (sheet : List ℕ) (row : Row) (by : List ℕ) where
  own_same : (m : Modifiers) {line : List ℕ} → modifiers_in m ≡ model.modifiers_in row → line ≡ slice row.line_at row.line_end sheet
      → own_fields k (marked_entry k (modifiers_in m) (component_of_line k line)) ≡ own_fields k (entry_as k sheet row by)
  unfolding own_fields marked_entry entry_as set_relation set_modifiers
  own_same m e q = rw (e, q)

  relation_same : (entry_as k sheet row by).relation ≡ relation_in k row.relation by
  unfolding entry_as set_relation
  relation_same = refl

module _ (k : Kind) {sheet w : List ℕ} {h : Held} {i : ℕ} (z : AllFit sheet w h) (l : i < count_of k h) {row : Row} (e : row ≡ row_in k w i) where
  fits_row_lem : Fits k sheet row
  fits_row_lem = let x = z.rows k in rw e (x.at i l)

  pub line_order : row.line_at ≤ row.line_end
  line_order = fits_row_lem.line.order

  pub line_most : row.line_end ≤ length sheet
  line_most = fits_row_lem.line.most

  line_part : take (row.line_end - row.line_at) (drop row.line_at sheet) ≡ slice row.line_at row.line_end sheet
  line_part = part_slice row.line_at row.line_end sheet line_order

  pub line_kind : is_of_kind k (parse_line (take (row.line_end - row.line_at) (drop row.line_at sheet))) ≡ true
  line_kind = rw line_part fits_row_lem.is_line

  pub line_without : Without lf (take (row.line_end - row.line_at) (drop row.line_at sheet))
  line_without = rw line_part fits_row_lem.line.no_lf

  pub put_entry_line : (x : Modifiers) {o₀ o₁ o₂ o₃ o₄ o : List ℕ} {at a b c d r : ℕ} → modifiers_in x ≡ model.modifiers_in row
      → Put (kind_word k) o₀ at o₁ a → Put (tabbed (decimal i ∷ [])) o₁ a o₂ b
      → Put (tabbed (own_fields k (marked_entry k (modifiers_in x) (component_of_line k (take (row.line_end - row.line_at) (drop row.line_at sheet)))))) o₂ b o₃ c
      → Put (tabbed (relation_fields (relation_in k row.relation (referrers_of k w h i)))) o₃ c o₄ d → Put (lf ∷ []) o₄ d o r
      → Put (entry_line k i (entry_in k sheet (rows_in k w) (referrers_of k w h) i)) o₀ at o r
  unfolding entry_in
  put_entry_line x ex p₁ p₂ p₃ p₄ p₅ =
      let by : List ℕ = referrers_of k w h i in
      let s = own_same k sheet row by x ex line_part in
      rw (← e, line_fields k i (entry_as k sheet row by), ← s, relation_same k sheet row by)
      (put_line (kind_word k) _ (rw (escape_word k) p₁) (put_fields _ _ (put_fields (decimal i ∷ []) _ p₂ p₃) p₄) p₅)

-- ---- the loop

-- the lines of the first i rows stand from `at` on, and the next one goes to n
pub record Lined (k : Kind) (sheet w : List ℕ) (h : Held) (o₀ : List ℕ) (at i : ℕ) (o : List ℕ) (n : ℕ) : Type 0 where
  pub most : i ≤ count_of k h
  pub is : Put (table_lines (entry_line k) (entries_in k sheet (rows_in k w) (referrers_of k w h) i)) o₀ at o n

module _ (k : Kind) (sheet w : List ℕ) (h : Held) {o₀ : List ℕ} {at : ℕ} where
  pub lined_none : at ≤ length o₀ → Lined k sheet w h o₀ at 0 o₀ at
  unfolding entries_in
  lined_none l = record { most = omega arith; is = rw (lines_none (entry_line k)) (ends_in starts l) }

  pub lined_more : {i : ℕ} {o o' : List ℕ} {n n' : ℕ} → Lined k sheet w h o₀ at i o n → i < count_of k h → Put (entry_line k i (entry_in k sheet (rows_in k w) (referrers_of k w h) i)) o n o' n' → Lined k sheet w h o₀ at (i + 1) o' n'
  unfolding entries_in
  lined_more {i} x l p =
      let rows : List ℕ = rows_in k w in
      let by : ℕ → List ℕ = referrers_of k w h in
      record {
        most = omega arith;
        is = rw (add-one i, lines_more (entry_line k) (entry_in k sheet rows by i) (entries_in k sheet rows by i), entries_length k sheet rows by i) (put_seq x.is p);
      }

  pub lined_all : {i r : ℕ} {o : List ℕ} → Lined k sheet w h o₀ at i o r → count_of k h ≤ i → Put (table_lines (entry_line k) (table_of k (state_in sheet w h))) o₀ at o r
  lined_all {i} x l = let e : i ≡ count_of k h = omega (arith, x.most) in rw (table_is k sheet w h) (rw e at x.is)
