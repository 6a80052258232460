-- The fields of a quantity.
use Prim.Native.Nat.{ℕ}
use mathlib.Core.Path.{◌≡◌}
use mathlib.Core.Bool.{Bool, true, false, not}
use Rattle.std.specs.Prelude.{Some, None, Option}
use mathlib.Core.List.{List, [], ◌∷◌}
use borrow.Author.Tests.{not-true, not-false}
use Rattle.rules.specs.Basic.{pick, codes, on_some}
use Rattle.rules.specs.Utf8.{encode}
use Rattle.rules.specs.Model.{trimmed_text, is_textual, amount_of}
use Rattle.rules.specs.Page.{optional, amount_fields}
use Rattle.rules.specs.Write.{kind_field}
use Rattle.output.specs.Put.{Put, tabbed}
use Rattle.output.proofs.Texts.{put_fields}
use Rattle.sheet.specs.declared.ValueKind.{ValueKind}
use Rattle.sheet.specs.declared.ValueKind.TheVariants as kind
use Rattle.parts.specs.declared.QuantityView.{QuantityView}
use Rattle.parts.specs.Views.{content_in, opt_text_in, quantity_in, opt_quantity_in}
use Rattle.known_events.specs.Fields.{QuantityFields, OptQuantityFields}
use Rattle.page_fields.specs.Letters.{scalable}
use Rattle.sheet.specs.Words.{kind_in}

-- ---- kinds

module _ {k : ValueKind} {o₀ o : List ℕ} {at r : ℕ} where
  pub kind_number : k ≡ kind.Number → Put (tabbed (codes "n" ∷ [])) o₀ at o r → Put (tabbed (kind_field (kind_in k) ∷ [])) o₀ at o r
  unfolding kind_field kind_in
  kind_number e x = rw e x

  pub kind_range : k ≡ kind.Range → Put (tabbed (codes "r" ∷ [])) o₀ at o r → Put (tabbed (kind_field (kind_in k) ∷ [])) o₀ at o r
  unfolding kind_field kind_in
  kind_range e x = rw e x

  pub kind_textual : k ≡ kind.Textual → Put (tabbed (codes "t" ∷ [])) o₀ at o r → Put (tabbed (kind_field (kind_in k) ∷ [])) o₀ at o r
  unfolding kind_field kind_in
  kind_textual e x = rw e x

-- ---- scalable

module _ (b : Bool) (k : ValueKind) (lock : Bool) where
  pub scalable_other : not b ≡ true → false ≡ scalable b (kind_in k) lock
  unfolding scalable
  scalable_other e = rw (not-true b e)

  pub scalable_number : not b ≡ false → k ≡ kind.Number → not lock ≡ scalable b (kind_in k) lock
  unfolding scalable kind_in is_textual
  scalable_number e q = rw (not-false b e, q)

  pub scalable_range : not b ≡ false → k ≡ kind.Range → not lock ≡ scalable b (kind_in k) lock
  unfolding scalable kind_in is_textual
  scalable_range e q = rw (not-false b e, q)

  pub scalable_textual : not b ≡ false → k ≡ kind.Textual → false ≡ scalable b (kind_in k) lock
  unfolding scalable kind_in is_textual
  scalable_textual e q = rw (not-false b e, q)

module _ {b : Bool} {o₀ o : List ℕ} {at r : ℕ} where
  pub scaling_yes : b ≡ true → Put (tabbed (codes "s" ∷ [])) o₀ at o r → Put (tabbed (pick b (codes "s") (codes "f") ∷ [])) o₀ at o r
  scaling_yes e x = rw e x

  pub scaling_no : b ≡ false → Put (tabbed (codes "f" ∷ [])) o₀ at o r → Put (tabbed (pick b (codes "s") (codes "f") ∷ [])) o₀ at o r
  scaling_no e x = rw e x

-- ---- all its fields

pub put_quantity : {o₀ o₁ o₂ o₃ o₄ : List ℕ} {at l m n r : ℕ} (line : List ℕ) (v : QuantityView) (b : Bool) {s : Bool} → Put (tabbed (kind_field (kind_in v.kind) ∷ [])) o₀ at o₁ l → Put (tabbed (encode (content_in line v.value) ∷ [])) o₁ l o₂ m → Put (tabbed (optional (on_some trimmed_text (opt_text_in line v.unit)) ∷ [])) o₂ m o₃ n → s ≡ scalable b (kind_in v.kind) v.lock → Put (tabbed (pick s (codes "s") (codes "f") ∷ [])) o₃ n o₄ r → Put (tabbed (amount_fields (Some (amount_of b (quantity_in line v))))) o₀ at o₄ r
unfolding amount_fields amount_of quantity_in scalable
put_quantity line v b w x y e z =
    let k : List ℕ = kind_field (kind_in v.kind) in
    let c : List ℕ = encode (content_in line v.value) in
    let u : List ℕ = optional (on_some trimmed_text (opt_text_in line v.unit)) in
    put_fields (k ∷ c ∷ u ∷ []) _ (put_fields (k ∷ c ∷ []) (u ∷ []) (put_fields (k ∷ []) (c ∷ []) w x) y) (rw e at z)

module _ (line : List ℕ) {q : Option QuantityView} where
  pub amount_fields_lem : {v : QuantityView} → q ≡ Some v → OptQuantityFields line q → QuantityFields line v
  unfolding OptQuantityFields
  amount_fields_lem e h = rw e at h

  module _ (b : Bool) {o₀ o : List ℕ} {at r : ℕ} where
    pub amount_absent : q ≡ None → Put (tabbed (codes "-" ∷ [])) o₀ at o r → Put (tabbed (amount_fields (on_some (amount_of b) (opt_quantity_in line q)))) o₀ at o r
    unfolding amount_fields on_some opt_quantity_in
    amount_absent e x = rw e x

    pub amount_present : {v : QuantityView} → q ≡ Some v → Put (tabbed (amount_fields (Some (amount_of b (quantity_in line v))))) o₀ at o r → Put (tabbed (amount_fields (on_some (amount_of b) (opt_quantity_in line q)))) o₀ at o r
    unfolding on_some opt_quantity_in
    amount_present e x = rw e x
