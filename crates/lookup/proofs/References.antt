-- What a new component refers to.
use Prim.Native.Nat.{ℕ}
use mathlib.Core.Path.{◌≡◌, refl, sym, ap, ◌∙◌}
use mathlib.Core.Bool.{Bool, true, false, ◌||◌, ◌&&◌}
use Rattle.std.specs.Prelude.{Option, None, Some}
use Rattle.std.specs.Option as option
use Rattle.rules.specs.Basic.{pick, is_some, on_some}
use Rattle.rules.specs.Model.{Entry}
use Rattle.rules.specs.Modes.{Modes, is_steps, is_reference}
use Rattle.rules.specs.Reference.{Earlier, is_explicit, treat_as_reference, refers_to}
use Rattle.sheet.specs.declared.Define.{Define}
use Rattle.sheet.specs.declared.Duplicate.{Duplicate}
use Rattle.lookup.specs.References.{modes_of, asks_same, Marked, TreatedAs, Refers}
use Rattle.sheet.specs.Words.{define_of, duplicate_of}

pub found_in : {A : Type 0} (s : Option A) → option.is_some s ≡ is_some s
unfolding is_some
found_in None = refl
found_in (Some i) = refl

pub some_on : {A B : Type 0} (f : A → B) (o : Option A) → is_some (on_some f o) ≡ is_some o
unfolding is_some on_some
some_on f None = refl
some_on f (Some a) = refl

-- ---- `treat_as_reference`

or_assoc : (a b c : Bool) → ((a || b) || c) ≡ (a || b || c)
or_assoc true b c = refl
or_assoc false b c = refl

pub explicit_first : {ref v : Bool} (steps : Bool) → ref ≡ true → v ≡ ref → v ≡ (ref || steps)
explicit_first steps t e = e ∙ rw t

pub steps_next : {ref steps s v : Bool} → ref ≡ false → s ≡ steps → v ≡ s → v ≡ (ref || steps)
steps_next t p e = e ∙ p ∙ rw t

-- ---- `asks_same`

module _ (modes : Modes) (ref : Bool) {v : Bool} (e : v ≡ (ref || is_steps modes.define)) where
  pub asks_steps : v ≡ true → v ≡ asks_same modes ref
  unfolding asks_same
  asks_steps h = rw (← e, h)

  pub asks_last : {r : Bool} → v ≡ false → r ≡ is_reference modes.duplicate → r ≡ asks_same modes ref
  unfolding asks_same
  asks_last h k = rw (← e, h) k

module _ {define : Define} {duplicate : Duplicate} {ref is_found : Bool} {v : Bool} (ev : v ≡ (ref || is_steps (define_of define))) where
  treated_by : (r : Bool) → r ≡ (v || is_reference (duplicate_of duplicate) && is_found) → TreatedAs define duplicate ref is_found r
  treated_by r q = record { is = λ e same er ef. q ∙ (unfold treat_as_reference is_explicit in rw (ev, er, ef, or_assoc ref)) }

  pub treat_first : v ≡ true → TreatedAs define duplicate ref is_found v
  treat_first t = treated_by v (rw t)

  module _ (n : v ≡ false) {q : Bool} (eq : q ≡ is_reference (duplicate_of duplicate)) where
    pub treat_found : q ≡ true → TreatedAs define duplicate ref is_found is_found
    treat_found t = treated_by is_found (rw (n, ← eq, t))

    pub treat_not : q ≡ false → TreatedAs define duplicate ref is_found q
    treat_not t = treated_by q (rw (n, ← eq, t))

-- ---- `refers_to`

module _ (define : Define) (duplicate : Duplicate) (ref new : Bool) (same : Option ℕ) where
  pub refers_new : new ≡ true → Refers define duplicate ref new same None
  unfolding refers_to on_some
  refers_new t = record { is = λ e f m. rw (m.is_new, t) }

  module _ (n : new ≡ false) {is_found : Bool} (ef : is_found ≡ option.is_some same) {r : Bool} (z : TreatedAs define duplicate ref is_found r) where
    first : (e : Entry) (o : Option Earlier) → Marked e ref new → refers_to (modes_of define duplicate) e o ≡ pick (treat_as_reference (modes_of define duplicate) e o) o None
    unfolding refers_to
    first e o m = rw (m.is_new, n)

    treated : (e : Entry) (f : ℕ → Earlier) → Marked e ref new → refers_to (modes_of define duplicate) e (on_some f same) ≡ pick r (on_some f same) None
    treated e f m =
        first e (on_some f same) m
        ∙ ap (λ (b : Bool). pick b (on_some f same) None) (sym (z.is e (on_some f same) m.is_ref (some_on f same ∙ sym (found_in same) ∙ sym ef)))

    pub refers_same : r ≡ true → Refers define duplicate ref new same same
    refers_same t = record { is = λ e f m. sym (treated e f m ∙ rw t) }

    pub refers_not : r ≡ false → Refers define duplicate ref new same None
    unfolding on_some
    refers_not t = record { is = λ e f m. sym (treated e f m ∙ rw t) }
