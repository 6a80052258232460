-- Modifiers and signed numbers.
use Prim.Native.Nat.{ℕ, ◌+◌, ◌≤◌, ◌<◌}
use mathlib.Core.Path.{◌≡◌, refl, ap, sym, ◌∙◌}
use mathlib.Core.Bool.{Bool, true, false}
use mathlib.Core.List.{List, [], ◌∷◌}
use Rattle.std.specs.Prelude.{Option, None, Some}
use native.Mathlib.Omega.{arith}
use native.Mathlib.Numerals.{add-one}
use borrow.Author.Tests.{eq-eqb, ne_eqb, le-ltb}
use lib.Dec.{eqb, ltb}
use lib.ListN.{length, get_or, drop, drop_of_length-le}
use lib.Seq.{drop-cons}
use Rattle.rules.specs.Basic.{pick, on_some, eq_list, is_empty, minus}
use Rattle.rules.specs.Sheet.{Signed, signed_as, signed_of, number_up_to}
use Rattle.rules.specs.Read.{leads, past, no_modifiers, modifier_letters, modifiers_of}
use Rattle.rules.proofs.Basics.{pick_either, no_some, some_inj}
use Rattle.parts.proofs.Leaves.{number_most}
use Rattle.components.specs.declared.Modifiers.{Modifiers}
use Rattle.components.specs.Views.{Skips, modifiers_in}

-- ---- one letter
module _ (s : List ℕ) (i c : ℕ) where
  pub letter_past : length s ≤ i → ltb i (length s) ≡ leads c (drop i s)
  unfolding leads
  letter_past h = rw (le-ltb i (length s) h, drop_of_length-le s h)

  pub letter_is : i < length s → eqb (get_or s i 0) c ≡ leads c (drop i s)
  unfolding leads
  letter_is h = rw (drop-cons s i 0 h)

  pub after_past : length s ≤ i → Skips s c i i
  unfolding past
  after_past h = record { is = rw (drop_of_length-le s h) }

  pub after_hit : i < length s → get_or s i 0 ≡ c → Skips s c i (i + 1)
  unfolding past
  after_hit h q = record { is = rw add-one (simp (drop-cons s i 0 h, eq-eqb _ _ q)) }

  pub after_miss : i < length s → (get_or s i 0 ≡ c → ⊥) → Skips s c i i
  unfolding past
  after_miss h q = record { is = simp (drop-cons s i 0 h, ne_eqb _ _ q) }

-- ---- all of them
module _ (s s1 s2 s3 s4 s5 : List ℕ) (e1 : s1 ≡ past 64 s) (e2 : s2 ≡ past 38 s1) (e3 : s3 ≡ past 45 s2) (e4 : s4 ≡ past 63 s3) (e5 : s5 ≡ past 43 s4) where
  last_is : past 43 (past 63 (past 45 (past 38 (past 64 s)))) ≡ s5
  last_is = sym (rw (e5, e4, e3, e2, e1) refl)

  pub letters_ill : is_empty s5 ≡ false → on_some modifiers_in None ≡ modifier_letters s
  unfolding on_some modifier_letters
  letters_ill q = rw last_is (simp q)

  pub letters_set : is_empty s5 ≡ true → {r1 r2 r3 r4 r5 : Bool} → r1 ≡ leads 64 s → r2 ≡ leads 38 s1 → r3 ≡ leads 45 s2 → r4 ≡ leads 63 s3 → r5 ≡ leads 43 s4
      → on_some modifiers_in (Some (record { recipe = r1; reference = r2; hidden = r3; opt = r4; new = r5 })) ≡ modifier_letters s
  unfolding on_some modifiers_in modifier_letters
  letters_set q p1 p2 p3 p4 p5 = rw (p1, p2, p3, p4, p5, e4, e3, e2, e1) (rw last_is (simp q))

empty_is : (s : List ℕ) (i : ℕ) → length s ≤ i → is_empty (drop i s) ≡ true
unfolding is_empty
empty_is s i h = rw (drop_of_length-le s h)

more_is : (s : List ℕ) (i : ℕ) → i < length s → is_empty (drop i s) ≡ false
unfolding is_empty
more_is s i h = rw (drop-cons s i 0 h)

module _ {s : List ℕ} {a1 a2 a3 a4 a5 : ℕ} (e1 : Skips s 64 0 a1) (e2 : Skips s 38 a1 a2) (e3 : Skips s 45 a2 a3) (e4 : Skips s 63 a3 a4) (e5 : Skips s 43 a4 a5) where
  pub places_ill : a5 < length s → on_some modifiers_in None ≡ modifier_letters s
  places_ill h = letters_ill s _ _ _ _ _ e1.is e2.is e3.is e4.is e5.is (more_is s a5 h)

  pub places_set : length s ≤ a5 → {r1 r2 r3 r4 r5 : Bool} → r1 ≡ leads 64 (drop 0 s) → r2 ≡ leads 38 (drop a1 s) → r3 ≡ leads 45 (drop a2 s) → r4 ≡ leads 63 (drop a3 s) → r5 ≡ leads 43 (drop a4 s)
      → on_some modifiers_in (Some (record { recipe = r1; reference = r2; hidden = r3; opt = r4; new = r5 })) ≡ modifier_letters s
  places_set h = letters_set s _ _ _ _ _ e1.is e2.is e3.is e4.is e5.is (empty_is s a5 h)

-- ---- modifiers
pub no_modifiers_lem : (s : List ℕ) → length s ≡ 0 → on_some modifiers_in None ≡ modifiers_of s
unfolding on_some modifiers_of
no_modifiers_lem [] h = refl
no_modifiers_lem (x ∷ s) h = absurd (omega arith)

modifiers_more : (s : List ℕ) → (length s ≡ 0 → ⊥) → modifiers_of s ≡ pick (eq_list s (46 ∷ [])) (Some no_modifiers) (modifier_letters s)
unfolding modifiers_of
modifiers_more [] h = absurd (h refl)
modifiers_more (x ∷ s) h = refl

module _ (s : List ℕ) (h : length s ≡ 0 → ⊥) {t : Bool} (p : t ≡ eq_list s (46 ∷ [])) where
  pub point_alone : t ≡ true → on_some modifiers_in (Some (record { recipe = false; reference = false; hidden = false; opt = false; new = false })) ≡ modifiers_of s
  unfolding on_some modifiers_in no_modifiers
  point_alone q = sym (modifiers_more s h ∙ simp (sym p ∙ q))

  pub not_point : t ≡ false → (r : Option Modifiers) → on_some modifiers_in r ≡ modifier_letters s → on_some modifiers_in r ≡ modifiers_of s
  not_point q r e = e ∙ sym (modifiers_more s h ∙ simp (sym p ∙ q))

-- ---- numbers with a sign
sign_most : (b : Bool) (m : ℕ) (f : List ℕ) (o : Option ℕ) {v : Signed} → number_up_to m f ≡ o → signed_as b o ≡ Some v → v.size ≤ m
unfolding signed_as
sign_most b m f None e q = no_some q
sign_most false m f (Some n) {v} e q = let k : n ≡ v.size = ap (λ (s : Signed). s.size) (some_inj q) in let z = number_most m f e in omega arith
sign_most true m f (Some n) {v} e q =
    pick_either (λ (o : Option Signed). o ≡ Some v → v.size ≤ m) (eqb n 0) None (Some (record { negative = true; size = n })) (λ b l. no_some l) (λ b l. let k : n ≡ v.size = ap (λ (s : Signed). s.size) (some_inj l) in let z = number_most m f e in omega arith) q

pub signed_most : (f : List ℕ) {v : Signed} → signed_of f ≡ Some v → v.size ≤ 32768
unfolding signed_of
signed_most [] q = no_some q
signed_most (c ∷ s) {v} q =
    pick_either (λ (o : Option Signed). o ≡ Some v → v.size ≤ 32768) (eqb c minus) (signed_as true (number_up_to 32768 s)) (signed_as false (number_up_to 32767 (c ∷ s)))
    (λ b l. sign_most true 32768 s _ refl l) (λ b l. let z = sign_most false 32767 (c ∷ s) _ refl l in omega arith) q
