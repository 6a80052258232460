-- The fields of spans, texts, quantities and components, as their writers write them.
use Rattle.std.specs.Prelude.{None, Option, Some}
use Prim.Native.Nat.{ℕ}
use mathlib.Core.Path.{◌≡◌}
use mathlib.Core.Bool.{Bool, true, false}
use mathlib.Core.List.{List, [], ◌∷◌}
use Rattle.rules.specs.Basic.{pick, codes, decimal}
use Rattle.rules.specs.Utf8.{encode}
use Rattle.rules.specs.Event as rules
use Rattle.rules.specs.Model.{with_ref}
use Rattle.rules.specs.Write.{opt_fields, span_fields, text_fields, kind_field, quantity_fields, modifiers_field, named_fields}
use Rattle.rules.specs.Plain.{mark_ref}
use Rattle.output.specs.Put.{Put, tabbed}
use Rattle.output.proofs.Texts.{put_fields}
use Rattle.parts.specs.declared.Span.{Span}
use Rattle.parts.specs.declared.TextView.{TextView}
use Rattle.parts.specs.declared.QuantityView.{QuantityView}
use Rattle.parts.specs.Views.{span_in, content_in, text_in, opt_text_in, quantity_in, opt_quantity_in}
use Rattle.components.specs.declared.ComponentView.{ComponentView}
use Rattle.components.specs.Views.{modifiers_in, component_in}
use Rattle.known_events.specs.Fields.{TextField, OptTextField}
use Rattle.sheet.specs.Words.{kind_in}

module _ {o₀ o₁ o₂ : List ℕ} {at n r : ℕ} where
  pub span_put : (s : Span) → Put (tabbed (decimal s.start ∷ [])) o₀ at o₁ n → Put (tabbed (decimal s.end ∷ [])) o₁ n o₂ r → Put (tabbed (span_fields (span_in s))) o₀ at o₂ r
  unfolding span_fields span_in
  span_put s x y = put_fields (decimal s.start ∷ []) (decimal s.end ∷ []) x y

  pub text_put : (line : List ℕ) (v : TextView) → Put (tabbed (span_fields (span_in v.span))) o₀ at o₁ n → Put (tabbed (encode (text_in line v).content ∷ [])) o₁ n o₂ r → Put (tabbed (text_fields (text_in line v))) o₀ at o₂ r
  unfolding text_fields text_in
  text_put line v x y = put_fields (span_fields (span_in v.span)) (encode (content_in line v.content) ∷ []) x y

-- ---- what may be absent

module _ (line : List ℕ) {q : Option TextView} where
  pub text_field : {v : TextView} → q ≡ Some v → OptTextField line q → TextField line v
  unfolding OptTextField
  text_field e h = rw e at h

module _ {A : Type 0} (write : A → List (List ℕ)) {p : Option A} {o₀ o : List ℕ} {at r : ℕ} where
  pub part_absent : p ≡ None → Put (tabbed (codes "-" ∷ [])) o₀ at o r → Put (tabbed (opt_fields write p)) o₀ at o r
  unfolding opt_fields
  part_absent e x = rw e x

  pub part_present : {a : A} → p ≡ Some a → Put (tabbed (write a)) o₀ at o r → Put (tabbed (opt_fields write p)) o₀ at o r
  unfolding opt_fields
  part_present e x = rw e x

-- ---- quantities

module _ {b : Bool} {o₀ o : List ℕ} {at r : ℕ} where
  pub lock_set : b ≡ true → Put (tabbed (codes "l" ∷ [])) o₀ at o r → Put (tabbed (pick b (codes "l") (codes "-") ∷ [])) o₀ at o r
  lock_set e x = rw e x

  pub lock_none : b ≡ false → Put (tabbed (codes "-" ∷ [])) o₀ at o r → Put (tabbed (pick b (codes "l") (codes "-") ∷ [])) o₀ at o r
  lock_none e x = rw e x

module _ {o₀ o₁ o₂ o₃ o₄ o₅ o₆ : List ℕ} {at i j k l n r : ℕ} where
  pub quantity_put : (line : List ℕ) (v : QuantityView) → Put (tabbed (span_fields (span_in v.span))) o₀ at o₁ i → Put (tabbed (kind_field (kind_in v.kind) ∷ [])) o₁ i o₂ j
      → Put (tabbed (span_fields (span_in v.value_span))) o₂ j o₃ k → Put (tabbed (encode (content_in line v.value) ∷ [])) o₃ k o₄ l
      → Put (tabbed (pick v.lock (codes "l") (codes "-") ∷ [])) o₄ l o₅ n → Put (tabbed (opt_fields text_fields (opt_text_in line v.unit))) o₅ n o₆ r
      → Put (tabbed (quantity_fields (quantity_in line v))) o₀ at o₆ r
  unfolding quantity_fields quantity_in
  quantity_put line v x₁ x₂ x₃ x₄ x₅ x₆ =
      let y = put_fields (encode (content_in line v.value) ∷ []) (pick v.lock (codes "l") (codes "-") ∷ []) x₄ x₅ in
      put_fields _ _ (put_fields _ _ (put_fields _ _ (put_fields _ _ x₁ x₂) x₃) y) x₆

-- ---- components

module _ {o₀ o₁ o₂ o₃ o₄ o₅ o₆ o₇ : List ℕ} {at i j k l m n r : ℕ} where
  pub marked_put : (line : List ℕ) (v : ComponentView) {marks : rules.Modifiers} → Put (tabbed (span_fields (span_in v.span))) o₀ at o₁ i
      → Put (tabbed (text_fields (text_in line v.name))) o₁ i o₂ j → Put (tabbed (opt_fields text_fields (opt_text_in line v.alias))) o₂ j o₃ k
      → Put (tabbed (opt_fields quantity_fields (opt_quantity_in line v.quantity))) o₃ k o₄ l → Put (tabbed (opt_fields text_fields (opt_text_in line v.note))) o₄ l o₅ m
      → marks ≡ with_ref (modifiers_in v.modifiers) → Put (tabbed (modifiers_field marks ∷ [])) o₅ m o₆ n
      → Put (tabbed (span_fields (span_in v.modifiers_span))) o₆ n o₇ r → Put (tabbed (named_fields (mark_ref (component_in line v)))) o₀ at o₇ r
  unfolding named_fields mark_ref component_in
  marked_put line v x₁ x₂ x₃ x₄ x₅ e x₆ x₇ =
      put_fields _ _ (put_fields _ _ (put_fields _ _ (put_fields _ _ (put_fields _ _ (put_fields _ _ x₁ x₂) x₃) x₄) x₅) (rw e at x₆)) x₇
