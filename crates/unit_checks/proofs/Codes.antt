-- The words of earlier ingredients' units: what they are, that they stay right, and that they tell whether units fit.
use Prim.Native.Nat.{ℕ, suc, ◌+◌, ◌-◌, ◌*◌, ◌≤◌, ◌<◌}
use mathlib.Core.Path.{◌≡◌, refl, ap, sym, ◌∙◌}
use mathlib.Core.Bool.{Bool, true, false, ◌&&◌}
use mathlib.Core.List.{List}
use Rattle.std.specs.Prelude.{Option, None, Some}
use native.Mathlib.Omega.{arith}
use native.Mathlib.Numerals.{add-one}
use borrow.Author.Tests.{eqb-true, eqb-false, eq-eqb, ne_eqb, lt-ltb}
use lib.Dec.{eqb}
use lib.ListN.{get_or, take, drop, replicate, length-replicate, get_or-replicate}
use Rattle.rules.specs.Basic.{pick, eq_list, on_some}
use Rattle.rules.specs.Event.{Text, Quantity}
use Rattle.rules.specs.Units.{NamedUnit}
use Rattle.rules.specs.Model.{ingredient, trimmed_text}
use Rattle.rules.specs.Text.{text_trimmed}
use Rattle.rules.specs.Checks.{compatible_unit}
use Rattle.rules.proofs.Basics.{no_some, no_truth, some_inj, and_left, and_right, by_order}
use Rattle.rules.proofs.SameChars.{eq_true, eq_itself}
use Rattle.content.specs.Contents.{content_in, kept_in}
use Rattle.text.specs.Trims.{TrimmedTo}
use Rattle.units.specs.Lists.{units_from}
use Rattle.parts.specs.declared.Part.{Part}
use Rattle.parts.specs.Views.{part_of}
use Rattle.compatible.specs.Fitting.{unit_code, known_of, trimmed_in}
use Rattle.compatible.proofs.Laws.{code_small, names_fit, codes_fit, trimmed_is}
use Rattle.model.specs.Rows.{component_of_line}
use Rattle.recall.specs.Places.{content_if, unit_of, unit_as, UnitRecalled}
use Rattle.recall.specs.declared.UnitPlace.{UnitPlace}
use Rattle.recall.specs.declared.UnitPlace.TheVariants.{NoQuantity, NoUnit, At}
use Rattle.unit_codes.specs.Codes.{code_in, start_in, end_in, PlaceWord, kept_word, with_word, UpToFive, is_unlisted, code_fits, known_fits}
use Rattle.unit_codes.proofs.Codes.{with_long, with_starts, with_ends, with_says, with_others, zero_not, eight_not}
use Rattle.unit_checks.specs.Checked.{fits_unit}
use Rattle.unit_checks.specs.Codes.{Trims, text_code, amount_code, line_code, UnitPlaced, LineWord, CodesKept, SameUnit, new_text, NewCode}
use Rattle.unit_codes.specs.declared.TheConstants.{CODES}
use Rattle.model.specs.declared.layout.TheConstants.{MOST_INGREDIENTS}

pub up_to_five : (us : List NamedUnit) (a : List ℕ) {m : ℕ} → m ≡ unit_code us a → m ≤ 5
up_to_five us a e = rw e (code_small us a)

-- ---- words

-- a word that is a code
plain_word : {units line : List ℕ} {w : ℕ} → w < 16 → w ≡ line_code units line → LineWord units line w
unfolding code_in
plain_word {w = w} l e = record { is = rw (lt-ltb w 16 l) e; placed = λ g. absurd (omega arith) }

-- ---- of a line

module _ {old : List ℕ} {p : UnitPlace} (q : UnitRecalled old p) where
  place_is : {r : UnitPlace} → p ≡ r → unit_of (component_of_line ingredient old).quantity ≡ unit_as old r
  place_is e = q.is ∙ ap (unit_as old) e

  unit_content : (z : Quantity) (s : Text) → (component_of_line ingredient old).quantity ≡ Some z → z.unit ≡ Some s → unit_of (component_of_line ingredient old).quantity ≡ Some (Some s.content)
  unfolding unit_of content_if on_some
  unit_content z s a u = rw (a, u) refl

  pub word_absent : (units : List ℕ) → p ≡ NoQuantity → LineWord units old 8
  unfolding unit_as unit_of on_some line_code amount_code
  word_absent units e = plain_word (omega arith) (go (component_of_line ingredient old).quantity (place_is e))
    where
      go : (o : Option Quantity) → unit_of o ≡ None → 8 ≡ amount_code (units_from units 0) o
      go None k = refl
      go (Some x) k = no_some (sym k)

  pub word_unitless : (units : List ℕ) → p ≡ NoUnit → LineWord units old 7
  unfolding unit_as unit_of content_if on_some line_code amount_code text_code
  word_unitless units e = plain_word (omega arith) (go (component_of_line ingredient old).quantity (place_is e))
    where
      none_there : (u : Option Text) → content_if u ≡ None → 7 ≡ text_code (units_from units 0) u
      none_there None k = refl
      none_there (Some t) k = no_some (sym k)

      go : (o : Option Quantity) → unit_of o ≡ Some None → 7 ≡ amount_code (units_from units 0) o
      go None k = no_some k
      go (Some x) k = none_there x.unit (some_inj k)

  pub same_absent : {f : List ℕ} {r : Bool} → p ≡ NoQuantity → SameUnit old f r
  unfolding unit_as
  same_absent n = record { is = λ z s e u. no_some (sym (place_is n) ∙ unit_content z s e u) }

  pub same_unitless : {f : List ℕ} {r : Bool} → p ≡ NoUnit → SameUnit old f r
  unfolding unit_as
  same_unitless n = record { is = λ z s e u. no_some (some_inj (sym (place_is n) ∙ unit_content z s e u)) }

  module _ {x : Part} (e : p ≡ At x) where
    unit_is : (z : Quantity) (s : Text) → (component_of_line ingredient old).quantity ≡ Some z → z.unit ≡ Some s → trimmed_text s ≡ trimmed_in (part_of old x)
    unfolding unit_as trimmed_text trimmed_in
    unit_is z s a u = ap text_trimmed (sym (some_inj (some_inj (sym (place_is e) ∙ unit_content z s a u))))

    pub same_at : {f g : List ℕ} {r : Bool} → g ≡ part_of old x → r ≡ eq_list (trimmed_in g) (trimmed_in f) → SameUnit old f r
    same_at i c = record { is = λ z s a u. rw (unit_is z s a u, ← i) c }

    module _ (units : List ℕ) {g y : List ℕ} (i : g ≡ part_of old x) (t : TrimmedTo g y) {m : ℕ} (c : m ≡ unit_code (units_from units 0) (kept_in y)) where
      code_there : m + 1 ≡ line_code units old
      unfolding unit_as unit_of content_if on_some line_code amount_code text_code
      code_there = go (component_of_line ingredient old).quantity (place_is e)
        where
          unit_there : (u : Option Text) → content_if u ≡ Some (content_in (part_of old x)) → m + 1 ≡ text_code (units_from units 0) u
          unit_there None k = no_some k
          unit_there (Some s) k =
              let w : trimmed_text s ≡ trimmed_in (part_of old x) = unfold trimmed_text trimmed_in in ap text_trimmed (some_inj k) in
              let z : trimmed_text s ≡ kept_in y = w ∙ ap trimmed_in (sym i) ∙ sym (trimmed_is t) in
              rw (add-one m) (ap suc (c ∙ ap (unit_code (units_from units 0)) (sym z)))

          go : (o : Option Quantity) → unit_of o ≡ Some (Some (content_in (part_of old x))) → m + 1 ≡ amount_code (units_from units 0) o
          go None k = no_some k
          go (Some z) k = unit_there z.unit (some_inj k)

      pub word_coded : LineWord units old (m + 1)
      word_coded = plain_word (omega (arith, up_to_five (units_from units 0) (kept_in y) c)) code_there

      pub word_placed : {w : ℕ} → m ≡ 5 → PlaceWord x w → LineWord units old w
      unfolding part_of
      word_placed {w} n k = record { is = k.is ∙ ap suc (sym n) ∙ sym (add-one m) ∙ code_there; placed = there }
        where
          there : 16 ≤ w → UnitPlaced old w
          there l =
              record {
                order = rw (k.start l, k.end l) (q.within x e).0;
                ends = rw (k.end l) (q.within x e).1;
                is = λ z s a u. rw (k.start l, k.end l) (unit_is z s a u);
              }

-- ---- its unit

pub same_placed : {old f : List ℕ} {w : ℕ} {r : Bool} → UnitPlaced old w → r ≡ eq_list (trimmed_in (take (end_in w - start_in w) (drop (start_in w) old))) (trimmed_in f) → SameUnit old f r
same_placed k c = record { is = λ z s a u. rw (k.is z s a u) c }

-- as they are written
pub written_same : (g f : List ℕ) {r : Bool} → r ≡ eq_list g f → r ≡ true → true ≡ eq_list (trimmed_in g) (trimmed_in f)
written_same g f s t = rw (eq_true g f (sym s ∙ t)) (sym (eq_itself (trimmed_in f)))

pub written_trimmed : {g f x y : List ℕ} {r : Bool} → TrimmedTo g y → Trims f x → r ≡ eq_list (kept_in y) (kept_in x) → r ≡ eq_list (trimmed_in g) (trimmed_in f)
written_trimmed j k c = rw (← trimmed_is j, ← k.is) c

-- ---- kept

pub codes_none : {units sheet : List ℕ} → CodesKept units sheet (replicate CODES 0)
codes_none =
    record {
      long = length-replicate {A = ℕ} CODES 0;
      is = λ i few there. absurd (there (get_or-replicate {A = ℕ} CODES (i * 3 + 2) 0 0 (omega (arith, few))));
    }

module _ {units sheet codes : List ℕ} (v : CodesKept units sheet codes) (i : ℕ) (l : i < MOST_INGREDIENTS) where
  pub word_kept : (at end : ℕ) {known : ℕ} → known ≡ kept_word codes i at end → (known ≡ 0 → ⊥) → LineWord units (take (end - at) (drop at sheet)) known
  unfolding kept_word
  word_kept at end {known} k n = by (eqb (get_or codes (i * 3) 0) at) refl (eqb (get_or codes (i * 3 + 1) 0) end) refl k
    where
      by : (a : Bool) → eqb (get_or codes (i * 3) 0) at ≡ a → (b : Bool) → eqb (get_or codes (i * 3 + 1) 0) end ≡ b → known ≡ pick a (pick b (get_or codes (i * 3 + 2) 0) 0) 0 → LineWord units (take (end - at) (drop at sheet)) known
      by false p b q e = absurd (n e)
      by true p false q e = absurd (n e)
      by true p true q e = rw (e, ← eqb-true (get_or codes (i * 3) 0) at p, ← eqb-true (get_or codes (i * 3 + 1) 0) end q) (v.is i l (λ z. n (e ∙ z)))

  -- one more
  module _ (at end w : ℕ) where
    -- the words of the row j, with that one
    abbrev Told : ℕ → Type 0
    Told j = LineWord units (take (get_or (with_word codes i at end w) (j * 3 + 1) 0 - get_or (with_word codes i at end w) (j * 3) 0) (drop (get_or (with_word codes i at end w) (j * 3) 0) sheet)) (get_or (with_word codes i at end w) (j * 3 + 2) 0)

    pub word_added : LineWord units (take (end - at) (drop at sheet)) w → CodesKept units sheet (with_word codes i at end w)
    word_added c = record { long = with_long codes v.long i at end w; is = λ j g n. by_order i j (λ p. by_order j i (λ q. here j (omega arith)) (λ q. there j g (λ e. omega arith) n)) (λ p. there j g (λ e. omega arith) n) }
      where
        here : (j : ℕ) → j ≡ i → Told j
        here j e = rw (e, with_says codes v.long i at end w l, with_ends codes v.long i at end w l, with_starts codes v.long i at end w l) c

        there : (j : ℕ) → j < MOST_INGREDIENTS → (j ≡ i → ⊥) → (get_or (with_word codes i at end w) (j * 3 + 2) 0 ≡ 0 → ⊥) → Told j
        there j g d n =
            let o : get_or (with_word codes i at end w) (j * 3 + 2) 0 ≡ get_or codes (j * 3 + 2) 0 = with_others codes v.long i at end w l (j * 3 + 2) (λ q. d (omega arith)) (λ q. d (omega arith)) (λ q. d (omega arith)) in
            rw (o, with_others codes v.long i at end w l (j * 3 + 1) (λ q. d (omega arith)) (λ q. d (omega arith)) (λ q. d (omega arith)), with_others codes v.long i at end w l (j * 3) (λ q. d (omega arith)) (λ q. d (omega arith)) (λ q. d (omega arith)))
            (v.is j g (λ z. n (o ∙ z)))

-- ---- whether units fit

text_small : (us : List NamedUnit) (u : Option Text) → text_code us u ≤ 7
unfolding text_code
text_small us None = omega arith
text_small us (Some t) = omega (arith, code_small us (trimmed_text t))

-- a line without a quantity draws nothing
pub fits_absent : (us : List NamedUnit) (old : Option Quantity) (b : Option (List ℕ)) {o : ℕ} → o ≡ amount_code us old → o ≡ 8 → true ≡ fits_unit us old b
unfolding fits_unit amount_code
fits_absent us None b e n = refl
fits_absent us (Some q) b e n = absurd (omega (arith, text_small us q.unit, e))

module _ (us : List NamedUnit) {f x : List ℕ} (t : Trims f x) {n : Option ℕ} (c : NewCode us x n) where
  new_small : (m : ℕ) → n ≡ Some m → m ≤ 5
  new_small m p = up_to_five us (kept_in x) (c.is m p)

  new_code : (m : ℕ) → n ≡ Some m → m ≡ unit_code us (trimmed_in f)
  new_code m p = c.is m p ∙ ap (unit_code us) t.is

  pub number_small : UpToFive n
  number_small = go n refl
    where
      go : (z : Option ℕ) → n ≡ z → UpToFive z
      go None p = tt
      go (Some m) p = new_small m p

  module _ {o : ℕ} {r : Bool} where
    unit_fits : (u : Option Text) (z : Option ℕ) → n ≡ z → o ≡ text_code us u → (eqb o 6 && is_unlisted z) ≡ false → r ≡ code_fits o z → r ≡ eqb (compatible_unit us (on_some trimmed_text u) (new_text z f)) 0
    unfolding text_code code_fits is_unlisted on_some compatible_unit
    unit_fits None (Some m) p e l k = k ∙ ne_eqb o (m + 1) (λ z. omega (arith, new_small m p))
    unit_fits None None p e l k = k ∙ eq-eqb o 7 e
    unit_fits (Some s) None p e l k = k ∙ ne_eqb o 7 (λ z. omega (arith, code_small us (trimmed_text s)))
    unit_fits (Some s) (Some m) p e l k =
        unfold known_of in codes_fit us (trimmed_text s) (trimmed_in f) refl (new_code m p) (λ z y. no_truth (sym l ∙ rw (eq-eqb o 6 (omega arith), eq-eqb m 5 y) refl)) r (k ∙ both)
      where
        both : eqb o (m + 1) ≡ eqb (unit_code us (trimmed_text s)) m
        both = same (eqb (unit_code us (trimmed_text s)) m) refl
          where
            same : (z : Bool) → eqb (unit_code us (trimmed_text s)) m ≡ z → eqb o (m + 1) ≡ z
            same true w = eq-eqb o (m + 1) (omega (arith, eqb-true (unit_code us (trimmed_text s)) m w))
            same false w = ne_eqb o (m + 1) (λ y. eqb-false (unit_code us (trimmed_text s)) m w (omega arith))

    -- where no unit has to be compared as it is written
    pub fits_coded : (old : Option Quantity) {b : Bool} → o ≡ amount_code us old → (o ≡ 8 → ⊥) → b ≡ (eqb o 6 && is_unlisted n) → b ≡ false → r ≡ code_fits o n → r ≡ fits_unit us old (new_text n f)
    unfolding fits_unit amount_code
    fits_coded None e g s l k = absurd (g e)
    fits_coded (Some q) e g s l k = unit_fits q.unit n refl e (sym s ∙ l) k

    -- where it has
    text_fits : (u : Option Text) → o ≡ text_code us u → o ≡ 6 → ((s : Text) → u ≡ Some s → r ≡ eq_list (trimmed_text s) (trimmed_in f)) → r ≡ eqb (compatible_unit us (on_some trimmed_text u) (Some (trimmed_in f))) 0
    unfolding text_code on_some compatible_unit
    text_fits None e w k = absurd (omega arith)
    text_fits (Some s) e w k = unfold known_of in names_fit us (trimmed_text s) (trimmed_in f) refl (omega arith) r (k s refl)

    pub fits_written : (line : List ℕ) {b : Bool} → o ≡ amount_code us (component_of_line ingredient line).quantity → b ≡ (eqb o 6 && is_unlisted n) → b ≡ true → SameUnit line f r
        → r ≡ fits_unit us (component_of_line ingredient line).quantity (new_text n f)
    unfolding fits_unit amount_code is_unlisted
    fits_written line e s l k = go n (sym s ∙ l) (component_of_line ingredient line).quantity refl e
      where
        go : (z : Option ℕ) → (eqb o 6 && is_unlisted z) ≡ true → (q : Option Quantity) → (component_of_line ingredient line).quantity ≡ q → o ≡ amount_code us q → r ≡ fits_unit us q (new_text z f)
        go z y None a w = absurd (omega (arith, eqb-true o 6 (and_left _ _ y)))
        go None y (Some q) a w = no_truth (and_right (eqb o 6) false y)
        go (Some m) y (Some q) a w = text_fits q.unit w (eqb-true o 6 (and_left _ _ y)) (λ t u. k.is q t a u)

-- by the word that is kept
module _ {units sheet codes : List ℕ} (v : CodesKept units sheet codes) (i : ℕ) (l : i < MOST_INGREDIENTS) {f x : List ℕ} (t : Trims f x) {n : Option ℕ} (c : NewCode (units_from units 0) x n) where
  pub fits_kept : (at end : ℕ) {r : Bool} → r ≡ known_fits (code_in (kept_word codes i at end)) n → r ≡ true
      → true ≡ fits_unit (units_from units 0) (component_of_line ingredient (take (end - at) (drop at sheet))).quantity (new_text n f)
  unfolding known_fits line_code
  fits_kept at end {r} k z = by (code_in (kept_word codes i at end)) refl (eqb (code_in (kept_word codes i at end)) 6 && is_unlisted n) refl (sym k ∙ z)
    where
      by : (o : ℕ) → code_in (kept_word codes i at end) ≡ o → (b : Bool) → (eqb (code_in (kept_word codes i at end)) 6 && is_unlisted n) ≡ b → pick b false (code_fits (code_in (kept_word codes i at end)) n) ≡ true
          → true ≡ fits_unit (units_from units 0) (component_of_line ingredient (take (end - at) (drop at sheet))).quantity (new_text n f)
      by o e true p q = no_truth q
      by o e false p q =
          let u : code_fits o n ≡ true = rw e at q in
          let w : (eqb o 6 && is_unlisted n) ≡ false = rw e at p in
          let no_word : code_in 0 ≡ 0 = unfold code_in in refl in
          fits_coded (units_from units 0) t c (component_of_line ingredient (take (end - at) (drop at sheet))).quantity
          (sym e ∙ (word_kept v i l at end refl (λ g. zero_not n (rw (sym e ∙ ap code_in g ∙ no_word) at u))).is)
          (λ g. eight_not n (number_small (units_from units 0) t c) (rw g at u)) refl w (sym u)
