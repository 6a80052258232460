-- A field of one byte.
use Rattle.std.proofs.Common.{◌≡◌, ℕ, ◌+◌, ◌<◌, ◌≤◌, Bool, true, false, eqb, List, [], ◌∷◌, length, get_or, sym, refl, ◌∙◌, arith, eq-eqb, ne_eqb, eqb-true}
use borrow.Author.Tests.{eqb-false}
use Rattle.rules.specs.Basic.{minus, eq_list, is_empty}
use Rattle.rules.proofs.Basics.{no_truth}
use Rattle.sheet.specs.Lines.{field_at}
use Rattle.sheet.proofs.Tests.{eq_length}
use Rattle.parts.specs.declared.Dash.TheVariants as dash
use Rattle.parts.specs.Got.{DashAt}
use Rattle.parts.proofs.Bytes.{at_end_lem, at_tab, at_byte}
use Rattle.parts.proofs.Leaves.{dash_absent}

module _ (line : List ℕ) (at c : ℕ) where
  pub alone_past : length line ≤ at → false ≡ eq_list (field_at line at) (c ∷ [])
  unfolding eq_list
  alone_past h = rw (at_end_lem line at h)

  pub alone_other : at < length line → (get_or line at 0 ≡ c → ⊥) → false ≡ eq_list (field_at line at) (c ∷ [])
  unfolding eq_list
  alone_other h q = by (eqb (get_or line at 0) 9) refl
    where
      by : (t : Bool) → eqb (get_or line at 0) 9 ≡ t → false ≡ eq_list (field_at line at) (c ∷ [])
      by true e = rw (at_tab line at h (eqb-true _ _ e))
      by false e = rw (at_byte line at h (eqb-false _ _ e), ne_eqb _ c q)

  pub alone_is : 9 < c → at < length line → get_or line at 0 ≡ c → {t : Bool} → t ≡ is_empty (field_at line (at + 1)) → t ≡ eq_list (field_at line at) (c ∷ [])
  unfolding eq_list is_empty
  alone_is b h q e = e ∙ rw (at_byte line at h (λ z. omega arith), eq-eqb _ c q) (by (field_at line (at + 1)))
    where
      by : (f : List ℕ) → is_empty f ≡ eq_list f []
      by [] = refl
      by (x ∷ f) = refl

length_one : (f : List ℕ) (c : ℕ) {t : Bool} → t ≡ eq_list f (c ∷ []) → t ≡ true → length f ≡ 1
length_one [] c p q = no_truth (eq_length [] (c ∷ []) (λ e. omega arith) ∙ sym p ∙ q)
length_one (x ∷ []) c p q = refl
length_one (x ∷ y ∷ f) c p q = no_truth (eq_length (x ∷ y ∷ f) (c ∷ []) (λ e. omega arith) ∙ sym p ∙ q)

pub dash_alone : (line : List ℕ) (at : ℕ) → at ≤ length line → {t : Bool} → t ≡ eq_list (field_at line at) (minus ∷ []) → t ≡ true → DashAt line at (dash.Absent (at + 2))
dash_alone line at h p q =
    let l = length_one (field_at line at) minus p q in
    let k : at + length (field_at line at) + 1 ≡ at + 2 = omega (arith, l) in
    rw k at (dash_absent line at h refl p q)
