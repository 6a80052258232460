-- A line that starts with a word and a tab: its first field is the word.
use Prim.Native.Nat.{ℕ, ◌+◌, ◌≤◌, ◌<◌}
use mathlib.Core.Path.{◌≡◌, refl, ap, sym, ◌∙◌}
use mathlib.Core.Bool.{Bool, true, false}
use mathlib.Core.List.{List, [], ◌∷◌}
use native.Mathlib.Numerals.{add-one}
use native.Mathlib.Omega.{arith}
use borrow.Author.Tests.{eqb-true, eq-eqb, ne_eqb, le-leb}
use lib.Dec.{eqb}
use lib.ListN.{length, get_or, drop, drop_of_length-le}
use lib.Seq.{drop-cons}
use Rattle.std.specs.Prelude.{None, Some}
use Rattle.rules.specs.Basic.{pick, tab, split_at, on_first, on_some, eq_list, word_in}
use Rattle.rules.specs.Sheet.{fields_of, Without, without_none, without_more}
use Rattle.rules.specs.Words.{event_words}
use Rattle.rules.proofs.Basics.{no_truth, no_some, some_inj}
use Rattle.sheet.specs.Lines.{fields_from, field_at}
use Rattle.sheet.specs.Words.{event_word_in}
use Rattle.sheet.specs.declared.EventWord.{EventWord}
use Rattle.sheet.specs.declared.EventWord.TheVariants.{Text, Ingredient, Start, End}
use Rattle.reading.specs.Answers.{leads_with, WordRead}

-- ---- byte by byte
pub leads_short : (w s : List ℕ) → length s ≤ length w → false ≡ leads_with w s
unfolding leads_with
leads_short [] [] h = refl
leads_short [] (c ∷ s) h = absurd (omega arith)
leads_short (x ∷ w) [] h = refl
leads_short (x ∷ w) (c ∷ s) h = by (eqb c x) (leads_short w s (omega arith))
  where
    by : (t : Bool) → false ≡ leads_with w s → false ≡ pick t (leads_with w s) false
    by true e = e
    by false e = refl

module _ (w s : List ℕ) (i : ℕ) {r : Bool} (e : leads_with (drop i w) (drop i s) ≡ r) (l : i < length s) where
  module _ (h : i < length w) where
    pub leads_on : get_or s i 0 ≡ get_or w i 0 → leads_with (drop (i + 1) w) (drop (i + 1) s) ≡ r
    unfolding leads_with
    leads_on q = simp (add-one) (simp (drop-cons w i 0 h, drop-cons s i 0 l, eq-eqb _ _ q) at e)

    pub leads_off : (get_or s i 0 ≡ get_or w i 0 → ⊥) → false ≡ r
    unfolding leads_with
    leads_off q = simp (drop-cons w i 0 h, drop-cons s i 0 l, ne_eqb _ _ q) at e

  pub leads_end : length w ≤ i → eqb (get_or s i 0) 9 ≡ r
  unfolding leads_with
  leads_end h = simp (drop_of_length-le w h, drop-cons s i 0 l) at e

-- ---- the first field
on_first_lem : (x : ℕ) (fs : List (List ℕ)) → get_or (on_first x fs) 0 [] ≡ x ∷ get_or fs 0 []
unfolding on_first
on_first_lem x [] = refl
on_first_lem x (f ∷ fs) = refl

leading : (w s : List ℕ) → leads_with w s ≡ true → Without tab w → get_or (split_at tab s) 0 [] ≡ w
unfolding leads_with split_at
leading [] [] e n = no_truth e
leading [] (c ∷ s) e n = rw e
leading (x ∷ w) [] e n = no_truth e
leading (x ∷ w) (c ∷ s) e (without_more q n) = by (eqb c x) refl e (λ p. leading w s p n)
  where
    by : (t : Bool) → eqb c x ≡ t → pick t (leads_with w s) false ≡ true → (leads_with w s ≡ true → get_or (split_at tab s) 0 [] ≡ w) → get_or (pick (eqb c tab) ([] ∷ split_at tab s) (on_first c (split_at tab s))) 0 [] ≡ x ∷ w
    by true p k g = rw (eqb-true c x p, q) (on_first_lem x (split_at tab s) ∙ ap (λ (f : List ℕ). x ∷ f) (g k))
    by false p k g = no_truth k

field_leading : (w s : List ℕ) → leads_with w s ≡ true → Without tab w → field_at s 0 ≡ w
unfolding field_at fields_from fields_of
field_leading w s e n = rw (le-leb 0 (length s) (omega arith)) (leading w s e n)

-- a field that was read
module _ (s : List ℕ) {f : List ℕ} (e : f ≡ field_at s 0) where
  pub no_word : on_some event_word_in None ≡ word_in f event_words → WordRead s None
  unfolding on_some
  no_word a = record { word = rw e at a; next = λ w n q. no_some q }

  pub word_read : {k : EventWord} {n : ℕ} → on_some event_word_in (Some k) ≡ word_in f event_words → n ≡ length f + 1 → WordRead s (Some (k, n))
  unfolding on_some
  word_read a b = record { word = rw e at a; next = λ w m q. sym (ap (λ (p : EventWord × ℕ). p.1) (some_inj q)) ∙ rw e at b }

-- a word without tabs that the line starts with
pub word_led : (w s : List ℕ) {t : Bool} → t ≡ leads_with w s → t ≡ true → Without tab w → {k : EventWord} {n : ℕ} → on_some event_word_in (Some k) ≡ word_in w event_words → n ≡ length w + 1 → WordRead s (Some (k, n))
word_led w s e q n = word_read s (sym (field_leading w s (sym e ∙ q) n))

-- ---- the frequent words
pub no_tab_text : Without tab (116 ∷ 101 ∷ 120 ∷ 116 ∷ [])
no_tab_text = without_more refl (without_more refl (without_more refl (without_more refl without_none)))

pub text_word_lem : on_some event_word_in (Some Text) ≡ word_in (116 ∷ 101 ∷ 120 ∷ 116 ∷ []) event_words
unfolding on_some event_word_in word_in eq_list
text_word_lem = refl

pub no_tab_ingredient : Without tab (105 ∷ 110 ∷ 103 ∷ 114 ∷ 101 ∷ 100 ∷ 105 ∷ 101 ∷ 110 ∷ 116 ∷ [])
no_tab_ingredient = without_more refl (without_more refl (without_more refl (without_more refl (without_more refl (without_more refl (without_more refl (without_more refl (without_more refl (without_more refl without_none)))))))))

pub ingredient_word : on_some event_word_in (Some Ingredient) ≡ word_in (105 ∷ 110 ∷ 103 ∷ 114 ∷ 101 ∷ 100 ∷ 105 ∷ 101 ∷ 110 ∷ 116 ∷ []) event_words
unfolding on_some event_word_in word_in eq_list
ingredient_word = refl

pub no_tab_start : Without tab (115 ∷ 116 ∷ 97 ∷ 114 ∷ 116 ∷ [])
no_tab_start = without_more refl (without_more refl (without_more refl (without_more refl (without_more refl without_none))))

pub start_word : on_some event_word_in (Some Start) ≡ word_in (115 ∷ 116 ∷ 97 ∷ 114 ∷ 116 ∷ []) event_words
unfolding on_some event_word_in word_in eq_list
start_word = refl

pub no_tab_end : Without tab (101 ∷ 110 ∷ 100 ∷ [])
no_tab_end = without_more refl (without_more refl (without_more refl without_none))

pub end_word : on_some event_word_in (Some End) ≡ word_in (101 ∷ 110 ∷ 100 ∷ []) event_words
unfolding on_some event_word_in word_in eq_list
end_word = refl
