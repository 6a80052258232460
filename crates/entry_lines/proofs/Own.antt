-- The fields of an entry between its index and its relation.
use Prim.Native.Nat.{ℕ}
use mathlib.Core.Path.{◌≡◌, refl, ◌∙◌}
use mathlib.Core.Bool.{Bool, true}
use Rattle.std.specs.Prelude.{Option, None, Some}
use mathlib.Core.List.{List, [], ◌∷◌}
use Rattle.rules.specs.Basic.{on_some, is_some}
use Rattle.rules.specs.Utf8.{encode}
use Rattle.rules.specs.Event.{Event}
use Rattle.rules.specs.Read.{parse_line}
use Rattle.rules.specs.Write.{modifiers_field}
use Rattle.rules.specs.Model.{Kind, is_ingredient, trimmed_text, amount_of, name_of, path_of, reference_in, entry_with, entry_of, set_modifiers}
use Rattle.rules.specs.Page.{optional, amount_fields}
use Rattle.rules.proofs.Basics.{no_truth}
use Rattle.output.specs.Put.{Put, tabbed}
use Rattle.output.proofs.Texts.{put_fields}
use Rattle.content.specs.Contents.{kept_in}
use Rattle.content.specs.Parts.{Field}
use Rattle.content.proofs.Retains.{kept_trimmed}
use Rattle.text.specs.Trims.{TrimmedTo}
use Rattle.parts.specs.declared.TextView.{TextView}
use Rattle.parts.specs.Views.{part_of, text_in, opt_text_in, opt_quantity_in}
use Rattle.components.specs.declared.ComponentView.{ComponentView}
use Rattle.components.specs.declared.Modifiers.{Modifiers}
use Rattle.components.specs.Views.{modifiers_in, component_in}
use Rattle.known_events.specs.Fields.{TextField, ComponentFields}
use Rattle.model.specs.Rows.{component_of_line}
use Rattle.model.specs.Fits.{is_of_kind}
use Rattle.recall.specs.Recalls.{Recalled}
use Rattle.page_fields.proofs.Contents.{part_content}
use Rattle.entry_lines.specs.Lines.{path_fields, own_fields, marked_entry}

-- ---- the name, trimmed

module _ (line : List ℕ) (v : TextView) (h : TextField line v) {f w : List ℕ} (e : f ≡ part_of line v.content) (d : TrimmedTo f w) where
  pub name_field_lem : Field w
  unfolding TextField
  name_field_lem = d.field (rw e h)

  name_kept : kept_in w ≡ trimmed_text (text_in line v)
  unfolding TextField trimmed_text text_in
  name_kept = kept_trimmed f w d.is ∙ rw (e, ← part_content line v.content h)

-- ---- all fields

module _ (kind : Kind) {b : Bool} (a : b ≡ is_ingredient kind) (line : List ℕ) (v : ComponentView) (m : Modifiers) (h : ComponentFields line v) {f w : List ℕ} (e : f ≡ part_of line v.name.content) (d : TrimmedTo f w) where
  pub put_own : {o₀ o₁ o₂ o₃ o₄ o₅ o₆ : List ℕ} {at i j k l n r : ℕ} → Put (tabbed (encode (name_of (kept_in w) (reference_in kind (kept_in w))) ∷ [])) o₀ at o₁ i
      → Put (tabbed (optional (on_some trimmed_text (opt_text_in line v.alias)) ∷ [])) o₁ i o₂ j
      → Put (tabbed (amount_fields (on_some (amount_of b) (opt_quantity_in line v.quantity)))) o₂ j o₃ k
      → Put (tabbed (optional (on_some trimmed_text (opt_text_in line v.note)) ∷ [])) o₃ k o₄ l
      → Put (tabbed (path_fields kind (path_of (reference_in kind (kept_in w))))) o₄ l o₅ n
      → Put (tabbed (modifiers_field (modifiers_in m) ∷ [])) o₅ n o₆ r
      → Put (tabbed (own_fields kind (marked_entry kind (modifiers_in m) (component_in line v)))) o₀ at o₆ r
  unfolding own_fields marked_entry set_modifiers entry_of entry_with component_in
  put_own x₁ x₂ x₃ x₄ x₅ x₆ =
      let q = name_kept line v.name h.name e d in
      rw (← a, ← q) (put_fields _ _ (put_fields _ _ (put_fields _ _ (put_fields _ _ (put_fields (encode (name_of (kept_in w) (reference_in kind (kept_in w))) ∷ []) _ x₁ x₂) x₃) x₄) x₅) x₆)

-- ---- the component of a line

some_kind : (k : Kind) (o : Option Event) → is_of_kind k o ≡ true → is_some o ≡ true
some_kind k None h = unfold is_of_kind in no_truth h
some_kind k (Some e) h = unfold is_some in refl

pub line_some : (k : Kind) (line : List ℕ) → is_of_kind k (parse_line line) ≡ true → is_some (parse_line line) ≡ true
line_some k line h = some_kind k (parse_line line) h

pub put_line_own : (k : Kind) (m : Modifiers) {line : List ℕ} {v : ComponentView} {o₀ o : List ℕ} {at r : ℕ} → Recalled line v → is_of_kind k (parse_line line) ≡ true
    → Put (tabbed (own_fields k (marked_entry k (modifiers_in m) (component_in line v)))) o₀ at o r → Put (tabbed (own_fields k (marked_entry k (modifiers_in m) (component_of_line k line)))) o₀ at o r
put_line_own k m z h x = rw (z.is k h) at x
