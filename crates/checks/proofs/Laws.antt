-- One law for each way through a check.
use Prim.Native.Nat.{ℕ, zero, suc, ◌+◌, ◌-◌, ◌<◌, ◌≤◌}
use mathlib.Core.Path.{◌≡◌, refl, sym, ◌∙◌}
use mathlib.Core.Bool.{Bool, true, false, not}
use Rattle.std.specs.Prelude.{Some, None, Option}
use mathlib.Core.List.{List, [], ◌∷◌, ◌++◌}
use native.Mathlib.Omega.{arith}
use lib.ListN.{length}
use Rattle.rules.specs.Basic.{on_some, when}
use Rattle.rules.specs.Units.{NamedUnit}
use Rattle.rules.specs.Event as rules
use Rattle.rules.specs.Finding.{Finding, diag, found_two}
use Rattle.rules.specs.Model.{Source, Entry, amount_of, is_textual}
use Rattle.rules.specs.Checks.{note_check, note_place, widened, quantity_check, quantity_span, text_check, is_defined_in_step, unit_pair, unit_finding, unit_place, quantity_place, compatible_unit}
use Rattle.parts.specs.declared.Span.{Span}
use Rattle.parts.specs.declared.TextView.{TextView}
use Rattle.parts.specs.declared.QuantityView.{QuantityView}
use Rattle.parts.specs.Views.{span_in, SpanWithin, text_in, opt_text_in, OptTextWithin, quantity_in, opt_quantity_in, QuantityWithin, OptQuantityWithin}
use Rattle.model.specs.Rows.{finding_of, if_found}
use Rattle.model.specs.declared.Noted.{Noted}
use Rattle.model.specs.declared.Held.{Held}
use Rattle.compatible.specs.Fitting.{told, unit_in}
use Rattle.compatible.proofs.Laws.{not_told, is_told, told_not}
use Rattle.checks.specs.Reports.{NoteWithin, NoteChecked, QuantityChecked, place_with, place_of, UnitsChecked}
use Rattle.memory.specs.Reports.{Reported, nothing}
use Rattle.memory.proofs.Reports.{reported_seq, reported_count}
use Rattle.sheet.specs.Words.{kind_in}
use Rattle.sheet.specs.declared.ValueKind.{ValueKind}
use Rattle.sheet.specs.declared.ValueKind.TheVariants.{Number, Range, Textual}
use Rattle.model.specs.declared.layout.TheConstants.{MOST_FINDINGS}

-- what a check found: nothing, or one finding
pub nothing_found : {fs : List Finding} → fs ≡ [] → if_found None ≡ fs
unfolding if_found
nothing_found e = rw e

pub one_found : {f : Finding} {fs : List Finding} (x : Noted) → finding_of x ≡ f → fs ≡ f ∷ [] → if_found (Some x) ≡ fs
unfolding if_found
one_found x k e = rw (e, k)

-- nothing was stored, or what was stored is said otherwise
pub none_found : {fs : List Finding} {w : List ℕ} {h : Held} → fs ≡ [] → Reported fs w h w h
none_found e = rw e nothing

pub said : {fs gs : List Finding} {w w₁ : List ℕ} {h h₁ : Held} → gs ≡ fs → Reported fs w h w₁ h₁ → Reported gs w h w₁ h₁
said e r = rw e r

-- ---- 18

pub note_within : (n : Option TextView) (v : TextView) → NoteWithin n → n ≡ Some v → SpanWithin v.span
unfolding NoteWithin
note_within n v w e = rw e at w

pub note_read : (line : List ℕ) (n : Option TextView) → OptTextWithin line n → NoteWithin n
unfolding NoteWithin OptTextWithin
note_read line None w = tt
note_read line (Some v) w = w.span

module _ (s : Span) where
  pub widened_first : {e : ℕ} → s.start ≡ 0 → e ≡ s.end + 1 → span_in (record { start = 0; end = e }) ≡ widened (span_in s)
  unfolding span_in widened
  widened_first h e = rw (h, e)

  pub widened_other : {a e : ℕ} → a ≡ s.start - 1 → e ≡ s.end + 1 → span_in (record { start = a; end = e }) ≡ widened (span_in s)
  unfolding span_in widened
  widened_other h e = rw (h, e)

module _ {implicit : Bool} {note : Option TextView} {s : Span} {old : Option TextView} where
  pub note_none : note ≡ None → NoteChecked implicit note s old None
  unfolding note_check opt_text_in
  note_none e = record { is = λ line other d p q. nothing_found (rw e) }

  module _ {n : Noted} (v : TextView) (r : Span) (e : note ≡ Some v) (x : span_in r ≡ widened (span_in v.span)) where
    pub note_end : old ≡ None → finding_of n ≡ found_two 18 (span_in r) (span_in (record { start = s.end; end = s.end })) implicit → NoteChecked implicit note s old (Some n)
    note_end o k = record { is = λ line other d p q. one_found _ k (same line other d p q) }
      where
        same : (line other : List ℕ) (d : Source) → d.span ≡ span_in s → d.note ≡ opt_text_in other old
            → note_check implicit (opt_text_in line note) d ≡ found_two 18 (span_in r) (span_in (record { start = s.end; end = s.end })) implicit ∷ []
        same line other d p q = unfold note_check note_place opt_text_in text_in in rw (e, p, q, o, x) (unfold span_in in refl)

    pub note_note : (u : TextView) → old ≡ Some u → finding_of n ≡ found_two 18 (span_in r) (span_in u.span) implicit → NoteChecked implicit note s old (Some n)
    note_note u o k = record { is = λ line other d p q. one_found _ k (same line other d p q) }
      where
        same : (line other : List ℕ) (d : Source) → d.span ≡ span_in s → d.note ≡ opt_text_in other old
            → note_check implicit (opt_text_in line note) d ≡ found_two 18 (span_in r) (span_in u.span) implicit ∷ []
        same line other d p q = unfold note_check note_place opt_text_in text_in in rw (e, q, o, x)

-- ---- 19 and 20

module _ {implicit in_step : Bool} {a b : Option QuantityView} {s : Span} {w₀ : List ℕ} {h₀ : Held} where
  pub quantity_none : a ≡ None → QuantityChecked implicit in_step a s b w₀ h₀ w₀ h₀
  unfolding quantity_check opt_quantity_in on_some
  quantity_none e = record { is = λ line other i j new d p q t u. none_found (rw e) }

  pub quantity_alone : (x : QuantityView) → a ≡ Some x → b ≡ None → QuantityChecked implicit in_step a s b w₀ h₀ w₀ h₀
  unfolding quantity_check opt_quantity_in on_some
  quantity_alone x e o = record { is = λ line other i j new d p q t u. none_found (rw (e, o)) }

  pub quantity_both : {w : List ℕ} {h : Held} (x y : QuantityView) → a ≡ Some x → b ≡ Some y
      → QuantityChecked implicit in_step (Some x) s (Some y) w₀ h₀ w h → QuantityChecked implicit in_step a s b w₀ h₀ w h
  quantity_both x y e o k = rw (e, o) k

pub textual_not : (k : ValueKind) → (k ≡ Textual → ⊥) → false ≡ is_textual (kind_in k)
unfolding is_textual kind_in
textual_not Number n = refl
textual_not Range n = refl
textual_not Textual n = absurd (n refl)

pub when_not : (b : Bool) (f : Finding) → b ≡ true → when (not b) f ≡ []
unfolding when
when_not b f e = rw e

pub when_yes : (b : Bool) (f : Finding) → b ≡ false → when (not b) f ≡ f ∷ []
unfolding when
when_yes b f e = rw e

module _ (implicit a b : Bool) (s t : rules.Span) where
  pub text_both : a ≡ true → b ≡ true → text_check implicit a b s t ≡ []
  unfolding text_check
  text_both p q = rw (p, q)

  pub text_first : a ≡ true → b ≡ false → text_check implicit a b s t ≡ found_two 20 s t implicit ∷ []
  unfolding text_check
  text_first p q = rw (p, q)

  pub text_second : a ≡ false → b ≡ true → text_check implicit a b s t ≡ found_two 20 t s implicit ∷ []
  unfolding text_check
  text_second p q = rw (p, q)

  pub text_neither : a ≡ false → b ≡ false → text_check implicit a b s t ≡ []
  unfolding text_check
  text_neither p q = rw (p, q)

-- there is room for one more
pub when_room : (b : Bool) (f : Finding) {w w₁ : List ℕ} {h h₁ : Held} → Reported (when b f) w h w₁ h₁ → h.counts.findings + 1 < MOST_FINDINGS → h₁.counts.findings < MOST_FINDINGS
when_room b f r l = let k = reported_count r in let m = short b in omega arith
  where
    short : (b : Bool) → length (when b f) ≤ 1
    short true = unfold when in omega arith
    short false = unfold when in omega arith

pub pair_checked : {implicit in_step : Bool} {a b : QuantityView} {s : Span} {x y : Bool} {w₀ w₁ w : List ℕ} {h₀ h₁ h : Held} → x ≡ is_textual (kind_in a.kind) → y ≡ is_textual (kind_in b.kind)
    → Reported (when (not in_step) (found_two 19 (span_in a.span) (span_in s) implicit)) w₀ h₀ w₁ h₁ → Reported (text_check implicit x y (span_in a.span) (span_in b.span)) w₁ h₁ w h
    → QuantityChecked implicit in_step (Some a) s (Some b) w₀ h₀ w h
pair_checked {implicit} {in_step} {a} {b} {s} {x} {y} e o k l = record { is = λ line other i j new d p q t u. said (same line other i j new d p q t u) (reported_seq k l) }
  where
    same : (line other : List ℕ) (i j : Bool) (new : Source) (d : Entry) → new.quantity ≡ opt_quantity_in line (Some a) → is_defined_in_step d.relation ≡ in_step
        → d.source.span ≡ span_in s → d.source.quantity ≡ opt_quantity_in other (Some b)
        → quantity_check implicit new d (on_some (amount_of i) (opt_quantity_in line (Some a))) (on_some (amount_of j) (opt_quantity_in other (Some b)))
        ≡ when (not in_step) (found_two 19 (span_in a.span) (span_in s) implicit) ++ text_check implicit x y (span_in a.span) (span_in b.span)
    same line other i j new d p q t u = unfold quantity_check quantity_span opt_quantity_in quantity_in on_some amount_of in rw (p, q, t, u, e, o)

-- ---- 15 to 17

pub place_is : (line : List ℕ) (q : QuantityView) → quantity_place (Some (quantity_in line q)) ≡ span_in (place_of q) ∷ []
place_is line q = unfold quantity_place quantity_in place_of in by q.unit
  where
    by : (u : Option TextView) → ◌≡◌ {A = List rules.Span} (unit_place (span_in q.span) (opt_text_in line u) ∷ []) (span_in (place_with q.span u) ∷ [])
    by None = unfold unit_place place_with opt_text_in in refl
    by (Some v) = unfold unit_place place_with opt_text_in text_in in refl

finding_some : (n : ℕ) (ps : List rules.Span) → (n ≡ 0 → ⊥) → unit_finding n ps ≡ diag n ps false ∷ []
unfolding unit_finding
finding_some zero ps h = absurd (h refl)
finding_some (suc n) ps h = refl

finding_none : (n : ℕ) (ps : List rules.Span) → n ≡ 0 → unit_finding n ps ≡ []
unfolding unit_finding
finding_none n ps e = rw e

pub unit_within : (line : List ℕ) (o : Option QuantityView) (q : QuantityView) → OptQuantityWithin line o → o ≡ Some q → OptTextWithin line q.unit
unfolding OptQuantityWithin
unit_within line o q w e = let k : QuantityWithin line q = rw e at w in k.unit

pair_is : (us : List NamedUnit) (f g : List ℕ) {a b : Option QuantityView} (x y : QuantityView) {n : ℕ} → a ≡ Some x → b ≡ Some y
    → n ≡ compatible_unit us (unit_in g y.unit) (unit_in f x.unit) → (i j : Bool) (new old : Entry) → new.source.quantity ≡ opt_quantity_in f a → old.source.quantity ≡ opt_quantity_in g b
    → unit_pair us new (on_some (amount_of i) (opt_quantity_in f a)) (on_some (amount_of j) (opt_quantity_in g b)) old ≡ unit_finding n (quantity_place (Some (quantity_in f x)) ++ quantity_place (Some (quantity_in g y)))
unfolding unit_pair opt_quantity_in on_some amount_of unit_in quantity_in
pair_is us f g x y e o k i j new old p q = rw (p, q, e, o, k)

places : (f g : List ℕ) (x y : QuantityView) → quantity_place (Some (quantity_in f x)) ++ quantity_place (Some (quantity_in g y)) ≡ span_in (place_of x) ∷ span_in (place_of y) ∷ []
places f g x y = rw (place_is f x, place_is g y)

module _ (us : List NamedUnit) (f g : List ℕ) {a b : Option QuantityView} where
  pub units_none : a ≡ None → UnitsChecked us f a g b None
  unfolding unit_pair opt_quantity_in on_some
  units_none e = record { is = λ i j new old p q. nothing_found (rw e) }

  pub units_alone : (x : QuantityView) → a ≡ Some x → b ≡ None → UnitsChecked us f a g b None
  unfolding unit_pair opt_quantity_in on_some
  units_alone x e o = record { is = λ i j new old p q. nothing_found (rw (e, o)) }

  module _ (x y : QuantityView) {r : Option ℕ} (e : a ≡ Some x) (o : b ≡ Some y) (k : r ≡ told (compatible_unit us (unit_in g y.unit) (unit_in f x.unit))) where
    pub units_fit : r ≡ None → UnitsChecked us f a g b None
    units_fit z = record { is = λ i j new old p q. nothing_found (pair_is us f g x y e o refl i j new old p q ∙ finding_none _ _ (not_told (sym z ∙ k))) }

    pub units_differ : (n : ℕ) {m : Noted} {s t : Span} → r ≡ Some n → s ≡ place_of x → t ≡ place_of y
        → finding_of m ≡ found_two n (span_in s) (span_in t) false → UnitsChecked us f a g b (Some m)
    units_differ n z u v l = record { is = λ i j new old p q. one_found _ l (pair_is us f g x y e o (is_told (sym z ∙ k)) i j new old p q ∙ finding_some n _ (told_not _ (sym z ∙ k)) ∙ rw (places f g x y, u, v)) }

pub place_own : (q : QuantityView) → q.unit ≡ None → q.span ≡ place_of q
unfolding place_of place_with
place_own q e = rw e

pub place_text : (q : QuantityView) (v : TextView) → q.unit ≡ Some v → v.span ≡ place_of q
unfolding place_of place_with
place_text q v e = rw e
