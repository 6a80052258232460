-- Readers that are handed on: that their records hold, and what these say of a reader of the rules.
use Rattle.std.proofs.Common.{◌≡◌, ℕ, ◌+◌, ◌<◌, ◌≤◌, Bool, true, false, leb, leb-true, leb-false, List, [], ◌∷◌, length, sym, refl, ap, ◌∙◌, arith, Bor}
use Rattle.std.specs.Prelude.{Option, None, Some}
use Rattle.std.specs.Fn.{Once, FnOnceReturns, FnOnceReturnsAt}
use Rattle.rules.specs.Basic.{pick, minus, eq_list, on_some}
use Rattle.rules.specs.Read.{Fields, Reader, go_on, ◌>>=◌, give, saying, got_one, opt, field}
use Rattle.rules.proofs.Basics.{no_some, some_inj}
use Rattle.sheet.specs.Lines.{fields_from, field_at}
use Rattle.parts.specs.declared.Dash.TheVariants as dash
use Rattle.parts.specs.Got.{got_as, among_end, among_past, ReadAt, no_contents, dash_as, DashAt}
use Rattle.parts.specs.Generic.{found_in, WordReadBy, OptReadBy}
use Rattle.parts.proofs.Sequence.{nothing, Reads, reads, fails, got, good_of, ill, none_there, opt_absent, opt_there, opt_ill, opt_present, opt_bad}
use Rattle.parts.proofs.Leaves.{no_fields, field_here}

-- a reader of one field, at a field that is there
one_field : {A : Type 0} (p : List ℕ → Option A) (line : List ℕ) (at : ℕ) → at ≤ length line
    → (field >>= (λ (f : List ℕ). saying (p f))) (fields_from line at) ≡ saying (p (field_at line at)) (fields_from line (at + length (field_at line at) + 1))
unfolding ◌>>=◌ go_on field
one_field p line at h = rw (field_here line at h refl) refl

no_field : {A : Type 0} (p : List ℕ → Option A) (line : List ℕ) (at : ℕ) → length line < at → (field >>= (λ (f : List ℕ). saying (p f))) (fields_from line at) ≡ None
unfolding ◌>>=◌ go_on field
no_field p line at h = rw (no_fields line at h) refl

-- ---- an answer, by what it finds
module _ {View A : Type 0} {means : View → A} {Good : View → Type 0} {raw : View → Fields} {read : Reader A} {line : List ℕ} {at : ℕ} where
  missing : read (fields_from line at) ≡ None → (r : Option (View × ℕ)) → found_in line r ≡ None → ReadAt means Good raw read line at r
  unfolding got_as
  missing e None q = fails e
  missing e (Some p) q = no_some (sym q)

  found : {v : View} {a : A} {cs gs : Fields} → means v ≡ a → raw v ≡ cs → Good v → Reads read a cs (fields_from line at) gs → (r : Option (View × ℕ)) → found_in line r ≡ Some (v, gs) → ReadAt means Good raw read line at r
  unfolding got_as
  found m w h e None q = no_some q
  found {v} {gs = gs} m w h e (Some p) q =
      let u : p.0 ≡ v = ap (λ (p : View × Fields). p.0) (some_inj q) in
      let l : fields_from line p.1 ≡ gs = ap (λ (p : View × Fields). p.1) (some_inj q) in
      reads (rw (u, l, m, w) e) (rw u h)

-- ---- one field
module _ {F T : Type 0} {g : Once F (Bor (List ℕ) × Unit {0}) (Option T)} {word : F} {line : List ℕ} {at : ℕ} where
  pub word_past : length line < at → WordReadBy g word line at None
  unfolding got_as
  word_past h = record { said = None; called = λ k. absurd (omega (arith, h, k)); is = sym (no_field (λ f. None) line at h) }

  module _ {f : List ℕ} (h : at ≤ length line) (e : f ≡ field_at line at) where
    pub word_none : FnOnceReturnsAt g word (field_at line at) None → WordReadBy g word line at None
    unfolding got_as saying
    word_none k = record { said = None; called = λ h. k; is = sym (one_field (λ f. None) line at h) }

    pub word_some : {v : T} → FnOnceReturnsAt g word (field_at line at) (Some v) → WordReadBy g word line at (Some (v, at + length f + 1))
    unfolding got_as saying
    word_some {v} k = record { said = Some v; called = λ h. k; is = rw e (sym (one_field (λ f. Some v) line at h)) }

-- a word's reader of the rules, where what is handed on answers what it says
module _ {T A : Type 0} {means : T → A} {Good : T → Type 0} (says : List ℕ → Option A) {line : List ℕ} {at : ℕ} (good : (v : T) → says (field_at line at) ≡ Some (means v) → Good v) where
  word_there : at ≤ length line → (w : Option T) → on_some means w ≡ says (field_at line at) → (r : Option (T × ℕ)) → found_in line r ≡ saying w (fields_from line (at + length (field_at line at) + 1))
      → ReadAt means Good no_contents (field >>= (λ (f : List ℕ). saying (says f))) line at r
  unfolding saying on_some
  word_there h None k = missing (one_field says line at h ∙ rw (sym k) refl)
  word_there h (Some v) k = found refl refl (good v (sym k)) (record { is = one_field says line at h ∙ rw (sym k) refl; among = rw (field_here line at h refl) (among_past among_end) })

  pub word_as : {F : Type 0} {g : Once F (Bor (List ℕ) × Unit {0}) (Option T)} {word : F} {r : Option (T × ℕ)} → WordReadBy g word line at r
      → ((w : Option T) → FnOnceReturnsAt g word (field_at line at) w → on_some means w ≡ says (field_at line at))
      → ReadAt means Good no_contents (field >>= (λ (f : List ℕ). saying (says f))) line at r
  word_as {r = r} c k = by (leb at (length line)) refl
    where
      by : (t : Bool) → leb at (length line) ≡ t → ReadAt means Good no_contents (field >>= (λ (f : List ℕ). saying (says f))) line at r
      by true e = let h = leb-true at (length line) e in word_there h c.said (k c.said (c.called h)) r (c.is ∙ one_field (λ f. c.said) line at h)
      by false e = let h = leb-false at (length line) e in missing (no_field says line at h) r (c.is ∙ no_field (λ f. c.said) line at h)

-- a word that stands for itself
pub itself : {T : Type 0} (o : Option T) → on_some (λ (v : T). v) o ≡ o
unfolding on_some
itself None = refl
itself (Some v) = refl

-- ---- opt
dash_left : (t : Bool) (f : List ℕ) (hs : Fields) {gs : Fields} → Some (Some tt, gs) ≡ pick t (Some (None, hs)) (got_one (nothing (f ∷ hs))) → gs ≡ f ∷ hs
unfolding got_one give
dash_left true f hs e = none_there (sym e)
dash_left false f hs e = ap (λ (p : Option (Unit {0}) × Fields). p.1) (some_inj e)

present_left : (fs : Fields) {gs : Fields} → Some (Some tt, gs) ≡ opt nothing fs → gs ≡ fs
unfolding opt
present_left [] e = no_some (sym e)
present_left (f ∷ hs) e = dash_left (eq_list f (minus ∷ [])) f hs e

module _ {F T : Type 0} {g : Once F (Bor (List ℕ) × (ℕ × Unit {0})) (Option (T × ℕ))} {read : F} {line : List ℕ} {at : ℕ} where
  pub opt_read_absent : {n : ℕ} → DashAt line at (dash.Absent n) → OptReadBy g read line at (Some (None, n))
  unfolding got_as dash_as
  opt_read_absent e = record { part = None; called = λ p. none_there (e ∙ sym p); is = sym (opt_absent (λ fs. found_in line None) (fields_from line at) e).is }

  pub opt_read_ill : DashAt line at dash.Ill → OptReadBy g read line at None
  unfolding got_as dash_as
  opt_read_ill e = record { part = None; called = λ p. no_some (e ∙ sym p); is = sym (opt_ill (λ fs. found_in line None) (fields_from line at) e) }

  module _ (e : DashAt line at dash.Present) (p : Bor (List ℕ)) (q : p.now ≡ line) where
    pub opt_read_none : FnOnceReturns g read (p, (at, tt)) None → OptReadBy g read line at None
    unfolding got_as dash_as got_one
    opt_read_none k = record { part = None; called = λ d. (p, q, k); is = sym (opt_there (λ fs. found_in line None) (fields_from line at) e) }

    pub opt_read_some : {v : T} {n : ℕ} → FnOnceReturns g read (p, (at, tt)) (Some (v, n)) → OptReadBy g read line at (Some (Some v, n))
    unfolding got_as dash_as got_one
    opt_read_some {v} {n} k = record { part = Some (v, n); called = λ d. (p, q, k); is = sym (opt_there (λ fs. found_in line (Some (v, n))) (fields_from line at) e) }

-- what an opt part's view stands for, and what holds of it, where those of the part are given
module _ {T A : Type 0} (means : T → A) (Good : T → Type 0) (raw : T → Fields) (means' : Option T → Option A) (Good' : Option T → Type 0) (raw' : Option T → Fields) where
  pub record OptView : Type 0 where
    pub none : (means' None ≡ None) × Good' None × (raw' None ≡ [])
    pub some : (v : T) → (means' (Some v) ≡ Some (means v)) × (Good v → Good' (Some v)) × (raw' (Some v) ≡ raw v)

module _ {T A : Type 0} {means : T → A} {Good : T → Type 0} {raw : T → Fields} {means' : Option T → Option A} {Good' : Option T → Type 0} {raw' : Option T → Fields} (view : OptView means Good raw means' Good' raw') (part : Reader A) {line : List ℕ} {at : ℕ} where
  opt_found : Some (Some tt, fields_from line at) ≡ opt nothing (fields_from line at) → (o : Option (T × ℕ)) → ReadAt means Good raw part line at o → (r : Option (Option T × ℕ)) → found_in line r ≡ got_one (found_in line o) → ReadAt means' Good' raw' (opt part) line at r
  unfolding got_as got_one
  opt_found e None k = missing (opt_bad part (fields_from line at) e (ill k))
  opt_found e (Some p) k = let s = view.some p.0 in found s.0 s.2 (s.1 (good_of k)) (opt_present part (fields_from line at) e (got k))

  -- the rules' reader of an opt part, where what is handed on answers what that of the part reads
  pub opt_as : {F : Type 0} {g : Once F (Bor (List ℕ) × (ℕ × Unit {0})) (Option (T × ℕ))} {read : F} {r : Option (Option T × ℕ)} → OptReadBy g read line at r
      → ((p : Bor (List ℕ)) (o : Option (T × ℕ)) → p.now ≡ line → FnOnceReturns g read (p, (at, tt)) o → ReadAt means Good raw part line at o)
      → ReadAt means' Good' raw' (opt part) line at r
  unfolding dash_as
  opt_as {r = r} c k = by (opt nothing (fields_from line at)) refl
    where
      fs : Fields
      fs = fields_from line at

      by : (x : Option (Option (Unit {0}) × Fields)) → x ≡ opt nothing (fields_from line at) → ReadAt means' Good' raw' (opt part) line at r
      by None e = missing (opt_ill part fs e) r (c.is ∙ opt_ill (λ fs. found_in line c.part) fs e)
      by (Some (None, gs)) e = let s = view.none in found s.0 s.2 s.1 (opt_absent part fs e) r (c.is ∙ (opt_absent (λ fs. found_in line c.part) fs e).is)
      by (Some (Some u, gs)) e =
          let d : Some (Some tt, fs) ≡ opt nothing fs = rw (present_left fs e) at e in
          let a = c.called d in
          opt_found d c.part (k a.0 c.part a.1 a.2) r (c.is ∙ opt_there (λ fs. found_in line c.part) fs d)
