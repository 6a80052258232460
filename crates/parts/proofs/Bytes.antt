-- The field at a position, byte by byte.
use Rattle.std.proofs.Common.{◌≡◌, ℕ, suc, ◌+◌, ◌<◌, ◌≤◌, Bool, true, false, eqb, leb, List, [], ◌∷◌, length, get_or, sym, refl, ◌∙◌, add-one, arith, drop_of_length-le, drop-cons, eq-eqb, ne_eqb, eqb-true, le-leb}
use borrow.Author.Tests.{eqb-false}
use Rattle.rules.specs.Basic.{pick, tab, split_at, on_first, is_empty}
use Rattle.rules.specs.Sheet.{fields_of}
use Rattle.sheet.specs.Lines.{fields_from, field_at}

on_first_lem : (x : ℕ) (fs : List (List ℕ)) → get_or (on_first x fs) 0 [] ≡ x ∷ get_or fs 0 []
unfolding on_first
on_first_lem x [] = refl
on_first_lem x (f ∷ fs) = refl

module _ (s : List ℕ) (i : ℕ) where
  pub at_end_lem : length s ≤ i → field_at s i ≡ []
  unfolding field_at fields_from fields_of split_at
  at_end_lem h = rw (drop_of_length-le s h) (by (leb i (length s)))
    where
      by : (t : Bool) → get_or {A = List ℕ} (pick t ([] ∷ []) []) 0 [] ≡ []
      by true = refl
      by false = refl

  pub at_tab : i < length s → get_or s i 0 ≡ 9 → field_at s i ≡ []
  unfolding field_at fields_from fields_of split_at
  at_tab h q = let k : i ≤ length s = omega arith in rw (le-leb i (length s) k, drop-cons s i 0 h, eq-eqb _ tab q)

  pub at_byte : i < length s → (get_or s i 0 ≡ 9 → ⊥) → field_at s i ≡ get_or s i 0 ∷ field_at s (i + 1)
  unfolding field_at fields_from fields_of split_at
  at_byte h q =
      let k : i ≤ length s = omega arith in
      let l : suc i ≤ length s = omega arith in
      rw (add-one, le-leb i (length s) k, le-leb (suc i) (length s) l, drop-cons s i 0 h, ne_eqb _ tab q) (on_first_lem _ _)

  -- the field ends here
  pub ends_end : length s ≤ i → true ≡ is_empty (field_at s i)
  unfolding is_empty
  ends_end h = rw (at_end_lem h)

  pub ends_tab : i < length s → get_or s i 0 ≡ 9 → true ≡ is_empty (field_at s i)
  unfolding is_empty
  ends_tab h q = rw (at_tab h q)

  pub ends_not : i < length s → (get_or s i 0 ≡ 9 → ⊥) → false ≡ is_empty (field_at s i)
  unfolding is_empty
  ends_not h q = rw (at_byte h q)

  pub ends_byte : i < length s → eqb (get_or s i 0) 9 ≡ is_empty (field_at s i)
  ends_byte h = by (eqb (get_or s i 0) 9) refl
    where
      by : (t : Bool) → eqb (get_or s i 0) 9 ≡ t → t ≡ is_empty (field_at s i)
      by true e = ends_tab h (eqb-true _ _ e)
      by false e = ends_not h (eqb-false _ _ e)

pub empty_is : (f : List ℕ) {t : Bool} → t ≡ is_empty f → t ≡ true → f ≡ []
unfolding is_empty
empty_is [] p q = refl
empty_is (x ∷ f) p q = absurd (let z : ◌≡◌ {A = Bool} false true = sym p ∙ q in let y : ◌≡◌ {A = ℕ} 0 1 = cc in omega arith)
