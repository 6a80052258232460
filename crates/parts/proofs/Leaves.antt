-- Readers of one field.
use Rattle.std.proofs.Common.{◌≡◌, ℕ, ◌+◌, ◌-◌, ◌<◌, ◌≤◌, Bool, true, false, eqb, leb, List, [], ◌∷◌, length, get_or, take, drop, sym, refl, ap, ◌∙◌, arith, le-leb, leb-true}
use Rattle.std.specs.Prelude.{Option, None, Some}
use borrow.Author.Tests.{lt-leb}
use Rattle.rules.specs.Basic.{pick, tab, minus, eq_list, is_some, on_some, on_first, split_at}
use Rattle.rules.specs.Utf8.{chars}
use Rattle.rules.specs.Sheet.{fields_of, unescape, number_up_to, at_most, only_zero, digits_from}
use Rattle.rules.specs.Read.{Fields, go_on, ◌>>=◌, give, saying, got_one, opt, field, content_of, read_content}
use Rattle.rules.proofs.Basics.{pick_either, no_some, no_truth, some_inj}
use Rattle.sheet.specs.Lines.{fields_from, field_at}
use Rattle.sheet.proofs.Scans.{field_within, fields_next}
use Rattle.parts.specs.declared.Dash.TheVariants as dash
use Rattle.parts.specs.declared.Part.{Part}
use Rattle.parts.specs.Views.{part_of, or_empty, bytes_in, content_in}
use Rattle.parts.specs.Got.{among_end, among_past, among_one, ReadAt, no_contents, ContentRead, dash_as, DashAt}
use Rattle.parts.proofs.Sequence.{reads, fails}

-- ---- the fields that are left
pub no_fields : (line : List ℕ) (at : ℕ) → length line < at → fields_from line at ≡ []
unfolding fields_from
no_fields line at h = rw (lt-leb at (length line) h)

pub field_here : (line : List ℕ) (at : ℕ) {f : List ℕ} → at ≤ length line → f ≡ field_at line at → fields_from line at ≡ f ∷ fields_from line (at + length f + 1)
field_here line at h e = rw e (fields_next line at h)

-- the first field is the front of what is left
front_on : (x : ℕ) (xs : List ℕ) (fs : Fields) → take (length (get_or fs 0 [])) xs ≡ get_or fs 0 [] → take (length (get_or (on_first x fs) 0 [])) (x ∷ xs) ≡ get_or (on_first x fs) 0 []
unfolding on_first
front_on x xs [] e = refl
front_on x xs (f ∷ fs) e = ap (λ (l : List ℕ). x ∷ l) e

front : (xs : List ℕ) → take (length (get_or (split_at tab xs) 0 [])) xs ≡ get_or (split_at tab xs) 0 []
unfolding split_at
front [] = refl
front (x ∷ xs) = by (eqb x tab) (front xs)
  where
    by : (t : Bool) → take (length (get_or (split_at tab xs) 0 [])) xs ≡ get_or (split_at tab xs) 0 []
        → take (length (get_or (pick t ([] ∷ split_at tab xs) (on_first x (split_at tab xs))) 0 [])) (x ∷ xs) ≡ get_or (pick t ([] ∷ split_at tab xs) (on_first x (split_at tab xs))) 0 []
    by true e = refl
    by false e = front_on x xs (split_at tab xs) e

pub field_part : (line : List ℕ) (at : ℕ) {f : List ℕ} → at ≤ length line → f ≡ field_at line at → part_of line (record { from = at; to = at + length f }) ≡ f
unfolding part_of field_at fields_from fields_of
field_part line at {f} h e =
    let k : at + length f - at ≡ length f = omega arith in
    let q : f ≡ get_or (split_at tab (drop at line)) 0 [] = e ∙ rw (le-leb at (length line) h) in
    rw (k, q) (front (drop at line))

-- ---- one field, and what it says
leaf_is : {A : Type 0} (p : List ℕ → Option A) (line : List ℕ) (at : ℕ) {f : List ℕ} {a : A} → at ≤ length line → f ≡ field_at line at → p f ≡ Some a → (field >>= (λ (f : List ℕ). saying (p f))) (fields_from line at) ≡ Some (a, fields_from line (at + length f + 1))
unfolding ◌>>=◌ go_on field saying
leaf_is p line at h e q = rw (field_here line at h e, q)

module _ {View A : Type 0} {means : View → A} {Good : View → Type 0} {raw : View → Fields} (p : List ℕ → Option A) {line : List ℕ} {at : ℕ} where
  pub leaf_past : length line < at → ReadAt means Good raw (field >>= (λ (f : List ℕ). saying (p f))) line at None
  unfolding ◌>>=◌ go_on field
  leaf_past h = fails (rw (no_fields line at h))

  module _ {f : List ℕ} (h : at ≤ length line) (e : f ≡ field_at line at) where
    pub leaf_bad : p f ≡ None → ReadAt means Good raw (field >>= (λ (f : List ℕ). saying (p f))) line at None
    unfolding ◌>>=◌ go_on field saying
    leaf_bad q = fails (rw (field_here line at h e, q))

    pub leaf_content : {v : View} → p f ≡ Some (means v) → Good v → raw v ≡ f ∷ [] → ReadAt means Good raw (field >>= (λ (f : List ℕ). saying (p f))) line at (Some (v, at + length f + 1))
    leaf_content q g k = reads (record { is = leaf_is p line at h e q; among = rw (k, field_here line at h e) (among_one among_end) }) g

-- which holds no content
module _ {View A : Type 0} {means : View → A} {Good : View → Type 0} (p : List ℕ → Option A) {line : List ℕ} {at : ℕ} {f : List ℕ} (h : at ≤ length line) (e : f ≡ field_at line at) where
  pub leaf_got : {v : View} → p f ≡ Some (means v) → Good v → ReadAt means Good no_contents (field >>= (λ (f : List ℕ). saying (p f))) line at (Some (v, at + length f + 1))
  leaf_got q g = reads (record { is = leaf_is p line at h e q; among = rw (field_here line at h e) (among_past among_end) }) g

-- ---- numbers
most_of : (m : ℕ) (o : Option ℕ) {n : ℕ} → at_most m o ≡ Some n → n ≤ m
unfolding at_most
most_of m None e = no_some e
most_of m (Some k) {n} e = pick_either (λ (o : Option ℕ). o ≡ Some n → n ≤ m) (leb k m) (Some k) None (λ b q. rw (some_inj q) at (leb-true k m b)) (λ b q. no_some q) e

zero_of : (s : List ℕ) {n : ℕ} → only_zero s ≡ Some n → 0 ≡ n
unfolding only_zero
zero_of [] e = some_inj e
zero_of (c ∷ s) e = no_some e

pub number_most : (m : ℕ) (f : List ℕ) {n : ℕ} → number_up_to m f ≡ Some n → n ≤ m
unfolding number_up_to
number_most m [] e = no_some e
number_most m (c ∷ s) {n} e =
    pick_either (λ (o : Option ℕ). o ≡ Some n → n ≤ m) (eqb c 48) (only_zero s) (at_most m (digits_from 0 (c ∷ s))) (λ b q. let z = zero_of s q in omega arith) (λ b q. most_of m _ q) e

-- ---- contents
well_is : (o : Option (List ℕ)) → true ≡ is_some o → o ≡ Some (or_empty o)
unfolding is_some or_empty
well_is None q = no_truth (sym q)
well_is (Some s) q = refl

not_well : (o : Option (List ℕ)) → false ≡ is_some o → on_some chars o ≡ None
unfolding is_some on_some
not_well None q = refl
not_well (Some s) q = no_truth q

abbrev part_at : ℕ → List ℕ → Part
part_at at f = record { from = at; to = at + length f }

module _ (line : List ℕ) (at : ℕ) {f : List ℕ} (h : at ≤ length line) (e : f ≡ field_at line at) {w : Bool} (t : w ≡ is_some (unescape f)) where
  pub content_bad : w ≡ false → ContentRead line at None
  unfolding read_content content_of
  content_bad q = leaf_bad content_of h e (not_well _ (sym q ∙ t))

  content_well : w ≡ true → unescape (part_of line (part_at at f)) ≡ Some (bytes_in line (part_at at f))
  unfolding bytes_in
  content_well q = rw (field_part line at h e) (well_is _ (sym q ∙ t))

  content_is : w ≡ true → content_of f ≡ Some (content_in line (part_at at f))
  unfolding content_of content_in bytes_in on_some
  content_is q = rw (field_part line at h e) (ap (on_some chars) (well_is _ (sym q ∙ t)))

  pub content_got_lem : w ≡ true → ContentRead line at (Some ((record { from = at; to = at + length f }), (at + length f + 1)))
  unfolding read_content
  content_got_lem q = leaf_content content_of h e (content_is q) (record { ordered = omega arith; ends = rw (sym e) at (field_within line at h); well = content_well q }) (rw (field_part line at h e))

-- ---- opt
module _ (line : List ℕ) (at : ℕ) where
  pub dash_past : length line < at → DashAt line at dash.Ill
  unfolding dash_as opt
  dash_past h = rw (no_fields line at h)

  module _ {f : List ℕ} (h : at ≤ length line) (e : f ≡ field_at line at) {t : Bool} (p : t ≡ eq_list f (minus ∷ [])) where
    pub dash_absent : t ≡ true → DashAt line at (dash.Absent (at + length f + 1))
    unfolding dash_as opt
    dash_absent q = rw (field_here line at h e) (simp (sym p ∙ q))

    pub dash_present : t ≡ false → DashAt line at dash.Present
    unfolding dash_as opt got_one give
    dash_present q = rw (field_here line at h e) (simp (sym p ∙ q))
