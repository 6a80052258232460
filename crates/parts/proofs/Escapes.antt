-- What one turn over a content's bytes does, in the field that starts at `at`.
use Rattle.std.proofs.Common.{◌≡◌, ℕ, suc, ◌+◌, ◌<◌, ◌≤◌, Bool, true, false, eqb, List, [], ◌∷◌, length, get_or, sym, refl, ap, ◌∙◌, arith, eqb-true}
use Rattle.std.specs.Prelude.{Option, None, Some}
use borrow.Author.Tests.{eqb-false}
use Rattle.rules.specs.Basic.{is_some}
use Rattle.rules.specs.Sheet.{escaped, onto, unescape}
use Rattle.sheet.specs.Lines.{field_at}
use Rattle.sheet.proofs.Texts.{step_plain_lem, step_ill, step_cut, step_wrong, step_escaped, letter_other}
use Rattle.parts.specs.Got.{ContentRead}
use Rattle.parts.proofs.Bytes.{at_end_lem, at_tab, at_byte}
use Rattle.parts.proofs.Leaves.{content_bad, content_got_lem}

-- from `at` to i every escape is well-formed, and there the field goes on
pub record ContentFrom (line : List ℕ) (at i : ℕ) : Type 0 where
  pub starts : at ≤ i
  pub inside : i ≤ length line
  pub to : at + length (field_at line at) ≡ i + length (field_at line i)
  pub is : is_some (unescape (field_at line at)) ≡ is_some (unescape (field_at line i))

pub content_starts : (line : List ℕ) (at : ℕ) → at ≤ length line → ContentFrom line at at
content_starts line at h = record { starts = omega arith; inside = h; to = refl; is = refl }

onto_some : (x : ℕ) (t : Option (List ℕ)) → is_some (onto (Some x) t) ≡ is_some t
unfolding onto is_some
onto_some x None = refl
onto_some x (Some t) = refl

module _ {line : List ℕ} {at i : ℕ} (d : ContentFrom line at i) where
  pub content_ends : field_at line i ≡ [] → ContentRead line at (Some ((record { from = at; to = i }), (i + 1)))
  unfolding unescape is_some
  content_ends e =
      let z : length (field_at line i) ≡ 0 = rw e in
      let k : i ≡ at + length (field_at line at) = omega (arith, d.to) in
      let w : true ≡ is_some (unescape (field_at line at)) = sym (d.is ∙ rw e) in
      let g = content_got_lem line at {f = field_at line at} (omega (arith, d.starts, d.inside)) refl w refl in
      rw (← k) at g

  stops : unescape (field_at line i) ≡ None → ContentRead line at None
  unfolding is_some
  stops e = content_bad line at {f = field_at line at} (omega (arith, d.starts, d.inside)) refl (sym (d.is ∙ rw e)) refl

  module _ (h : i < length line) where
    pub content_plain : (get_or line i 0 ≡ 9 → ⊥) → (get_or line i 0 ≡ 92 → ⊥) → (get_or line i 0 ≡ 13 → ⊥) → ContentFrom line at (i + 1)
    content_plain t q r =
        let e = at_byte line i h t in
        let z : length (field_at line i) ≡ suc (length (field_at line (i + 1))) = ap length e in
        record {
          starts = omega (arith, d.starts);
          inside = omega arith;
          to = omega (arith, d.to);
          is = d.is ∙ ap is_some (ap unescape e ∙ step_plain_lem (get_or line i 0 ∷ field_at line (i + 1)) 0 (omega arith) q r) ∙ onto_some _ _;
        }

    pub content_ill : get_or line i 0 ≡ 13 → ContentRead line at None
    content_ill q = stops (rw (at_byte line i h (λ t. omega arith)) (step_ill (get_or line i 0 ∷ field_at line (i + 1)) 0 (omega arith) q))

    module _ (q : get_or line i 0 ≡ 92) where
      here : field_at line i ≡ get_or line i 0 ∷ field_at line (i + 1)
      here = at_byte line i h (λ t. omega arith)

      -- a backslash that ends the field
      last : field_at line (i + 1) ≡ [] → unescape (field_at line i) ≡ None
      last e = rw (here, e) (step_cut (get_or line i 0 ∷ []) 0 (omega arith) q (omega arith))

      pub content_cut : length line ≤ i + 1 → ContentRead line at None
      content_cut l = stops (last (at_end_lem line (i + 1) l))

      module _ (l : i + 1 < length line) {o : Option ℕ} (p : o ≡ escaped (get_or line (i + 1) 0)) where
        both : (get_or line (i + 1) 0 ≡ 9 → ⊥) → field_at line i ≡ get_or line i 0 ∷ get_or line (i + 1) 0 ∷ field_at line (i + 1 + 1)
        both t = here ∙ ap (λ (f : List ℕ). get_or line i 0 ∷ f) (at_byte line (i + 1) l t)

        pub content_wrong : o ≡ None → ContentRead line at None
        content_wrong z = stops (by (eqb (get_or line (i + 1) 0) 9) refl)
          where
            by : (t : Bool) → eqb (get_or line (i + 1) 0) 9 ≡ t → unescape (field_at line i) ≡ None
            by true u = last (at_tab line (i + 1) l (eqb-true _ _ u))
            by false u = rw (both (eqb-false _ _ u)) (step_wrong (get_or line i 0 ∷ get_or line (i + 1) 0 ∷ field_at line (i + 1 + 1)) 0 (omega arith) q (omega arith) p z)

        pub content_escaped : {e : ℕ} → o ≡ Some e → ContentFrom line at (i + 1 + 1)
        content_escaped {e} z =
            let t : get_or line (i + 1) 0 ≡ 9 → ⊥ = λ u. let w : ◌≡◌ {A = Option ℕ} None (Some e) = letter_other 9 (λ v. omega arith) (λ v. omega arith) (λ v. omega arith) (λ v. omega arith) ∙ sym (ap escaped u) ∙ sym p ∙ z in cc in
            let b = both t in
            let k : length (field_at line i) ≡ suc (suc (length (field_at line (i + 1 + 1)))) = ap length b in
            record {
              starts = omega (arith, d.starts);
              inside = omega arith;
              to = omega (arith, d.to);
              is = d.is ∙ ap is_some (ap unescape b ∙ step_escaped (get_or line i 0 ∷ get_or line (i + 1) 0 ∷ field_at line (i + 1 + 1)) 0 (omega arith) q (omega arith) p z) ∙ onto_some _ _;
            }
