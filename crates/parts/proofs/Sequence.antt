-- The rules' readers one after the other, and what a reader's answer says of them.
use Rattle.std.proofs.Common.{◌≡◌, ℕ, Bool, true, false, List, [], ◌∷◌, ◌++◌, sym, refl, ap, ◌∙◌, append-nil}
use Rattle.std.specs.Prelude.{Option, None, Some}
use Rattle.rules.specs.Basic.{pick, minus, eq_list}
use Rattle.rules.specs.Read.{Fields, Reader, go_on, ◌>>=◌, give, got_one, opt}
use Rattle.rules.proofs.Basics.{no_some, some_inj}
use Rattle.sheet.specs.Lines.{fields_from}
use Rattle.parts.specs.Got.{got_as, IfGot, Among, among_end, among_past, among_one, IfWhole, ReadAt}

-- ---- fields that were passed
pub among_both : {cs ds fs gs hs : Fields} → Among cs fs gs → Among ds gs hs → Among (cs ++ ds) fs hs
among_both among_end q = q
among_both (among_past p) q = among_past (among_both p q)
among_both (among_one p) q = among_one (among_both p q)

-- a reader reads a from the fields fs, and leaves gs; of those between, a view of a holds cs
pub record Reads {A : Type 0} (read : Reader A) (a : A) (cs fs gs : Fields) : Type 0 where
  pub is : read fs ≡ Some (a, gs)
  pub among : Among cs fs gs

-- ---- the last of a line's parts
pub gives : {A : Type 0} (a : A) (fs : Fields) → Reads (give a) a [] fs fs
unfolding give
gives a fs = record { is = refl; among = among_end }

-- ---- opt: as it is for a part of nothing
abbrev pub nothing : Reader (Unit {0})
nothing = give tt

pub none_there : {P : Type 0} {gs hs : Fields} → ◌≡◌ {A = Option (Option (Unit {0}) × Fields)} (Some (None, gs)) (Some (Some tt, hs)) → P
none_there e = no_some (ap (λ (p : Option (Unit {0}) × Fields). p.0) (some_inj e))

absent_left : (t : Bool) (f : List ℕ) (hs : Fields) {gs : Fields} → Some (None, gs) ≡ pick t (Some (None, hs)) (got_one (nothing (f ∷ hs))) → hs ≡ gs
unfolding got_one give
absent_left true f hs e = sym (ap (λ (p : Option (Unit {0}) × Fields). p.1) (some_inj e))
absent_left false f hs e = none_there e

absent_among : (fs : Fields) {gs : Fields} → Some (None, gs) ≡ opt nothing fs → Among [] fs gs
unfolding opt
absent_among [] e = no_some (sym e)
absent_among (f ∷ hs) e = rw (sym (absent_left (eq_list f (minus ∷ [])) f hs e)) (among_past among_end)

module _ {A : Type 0} (r : Reader A) where
  choose_absent : (t : Bool) (f : List ℕ) (hs : Fields) {gs : Fields} → Some (None, gs) ≡ pick t (Some (None, hs)) (got_one (nothing (f ∷ hs))) → pick t (Some (None, hs)) (got_one (r (f ∷ hs))) ≡ Some (None, gs)
  unfolding got_one give
  choose_absent true f hs e = let k = ap (λ (p : Option (Unit {0}) × Fields). p.1) (some_inj e) in rw k
  choose_absent false f hs e = none_there e

  choose_present : (t : Bool) (f : List ℕ) (hs : Fields) {gs : Fields} → Some (Some tt, gs) ≡ pick t (Some (None, hs)) (got_one (nothing (f ∷ hs))) → pick t (Some (None, hs)) (got_one (r (f ∷ hs))) ≡ got_one (r (f ∷ hs))
  unfolding got_one give
  choose_present true f hs e = none_there (sym e)
  choose_present false f hs e = refl

  choose_ill : (t : Bool) (f : List ℕ) (hs : Fields) → None ≡ pick t (Some (None, hs)) (got_one (nothing (f ∷ hs))) → pick t (Some (None, hs)) (got_one (r (f ∷ hs))) ≡ None
  unfolding got_one give
  choose_ill true f hs e = no_some e
  choose_ill false f hs e = no_some e

  absent_is : (fs : Fields) {gs : Fields} → Some (None, gs) ≡ opt nothing fs → opt r fs ≡ Some (None, gs)
  unfolding opt
  absent_is [] e = no_some (sym e)
  absent_is (f ∷ hs) e = choose_absent (eq_list f (minus ∷ [])) f hs e

  pub opt_absent : (fs : Fields) {gs : Fields} → Some (None, gs) ≡ opt nothing fs → Reads (opt r) None [] fs gs
  opt_absent fs e = record { is = absent_is fs e; among = absent_among fs e }

  pub opt_there : (fs : Fields) {gs : Fields} → Some (Some tt, gs) ≡ opt nothing fs → opt r fs ≡ got_one (r fs)
  unfolding opt
  opt_there [] e = no_some (sym e)
  opt_there (f ∷ hs) e = choose_present (eq_list f (minus ∷ [])) f hs e

  pub opt_ill : (fs : Fields) → None ≡ opt nothing fs → opt r fs ≡ None
  unfolding opt
  opt_ill [] e = refl
  opt_ill (f ∷ hs) e = choose_ill (eq_list f (minus ∷ [])) f hs e

  pub opt_present : (fs : Fields) {cs gs hs : Fields} {a : A} → Some (Some tt, gs) ≡ opt nothing fs → Reads r a cs fs hs → Reads (opt r) (Some a) cs fs hs
  unfolding got_one
  opt_present fs e p = record { is = opt_there fs e ∙ rw p.is; among = p.among }

  pub opt_bad : (fs : Fields) {gs : Fields} → Some (Some tt, gs) ≡ opt nothing fs → r fs ≡ None → opt r fs ≡ None
  unfolding got_one
  opt_bad fs e p = opt_there fs e ∙ rw p

-- ---- a reader's answer
module _ {View A : Type 0} {means : View → A} {Good : View → Type 0} {raw : View → Fields} {read : Reader A} {line : List ℕ} {at : ℕ} where
  pub reads : {v : View} {n : ℕ} → Reads read (means v) (raw v) (fields_from line at) (fields_from line n) → Good v → ReadAt means Good raw read line at (Some (v, n))
  unfolding got_as IfGot IfWhole
  reads p g = record { is = sym p.is; good = g; whole = p.among }

  pub fails : read (fields_from line at) ≡ None → ReadAt means Good raw read line at None
  unfolding got_as IfGot IfWhole
  fails e = record { is = sym e; good = tt; whole = tt }

  -- of none
  module _ (p : ReadAt means Good raw read line at None) where
    pub ill : read (fields_from line at) ≡ None
    unfolding got_as
    ill = sym p.is

    pub stop : {B : Type 0} (f : A → Reader B) → (read >>= f) (fields_from line at) ≡ None
    unfolding ◌>>=◌ go_on
    stop f = rw ill

  -- of a view and where the next field starts
  module _ {v : View} {n : ℕ} (p : ReadAt means Good raw read line at (Some (v, n))) where
    got_is : read (fields_from line at) ≡ Some (means v, fields_from line n)
    unfolding got_as
    got_is = sym p.is

    pub whole_of : Among (raw v) (fields_from line at) (fields_from line n)
    unfolding IfWhole
    whole_of = p.whole

    pub got : Reads read (means v) (raw v) (fields_from line at) (fields_from line n)
    got = record { is = got_is; among = whole_of }

    pub good_of : Good v
    unfolding IfGot
    good_of = p.good

    -- and what comes after it
    pub step : {B : Type 0} (f : A → Reader B) {x : Option (B × Fields)} → f (means v) (fields_from line n) ≡ x → (read >>= f) (fields_from line at) ≡ x
    unfolding ◌>>=◌ go_on
    step f q = rw got_is q

    pub goes : {B : Type 0} (f : A → Reader B) {b : B} {cs gs : Fields} → Reads (f (means v)) b cs (fields_from line n) gs → Reads (read >>= f) b (raw v ++ cs) (fields_from line at) gs
    goes f q = record { is = step f q.is; among = among_both whole_of q.among }

    -- the last that holds contents
    pub ends : {B : Type 0} (f : A → Reader B) {b : B} {gs : Fields} → Reads (f (means v)) b [] (fields_from line n) gs → Reads (read >>= f) b (raw v) (fields_from line at) gs
    ends f q = record { is = step f q.is; among = rw append-nil at (among_both whole_of q.among) }

-- a reader and what comes after it, as a choice
pub goes_on : {A B : Type 0} (r : Reader A) (f : A → Reader B) (fs : Fields) → (r >>= f) fs ≡ go_on f (r fs)
unfolding ◌>>=◌
goes_on r f fs = refl
