-- The fields that the readers take, up to the unit of a component's quantity.
use Prim.Native.Nat.{ℕ, ◌+◌}
use mathlib.Core.Path.{◌≡◌, refl, ap, sym, ◌∙◌}
use mathlib.Core.Bool.{Bool, true, false}
use mathlib.Core.List.{List, [], ◌∷◌}
use Rattle.std.specs.Prelude.{Option, None, Some}
use lib.ListN.{get_or, drop}
use lib.Seq.{drop-drop}
use Rattle.rules.specs.Basic.{pick, minus, eq_list}
use Rattle.rules.specs.Event.{Span, Text, Quantity, Component}
use Rattle.rules.specs.Read.{Fields, Reader, go_on, ◌>>=◌, give, saying, got_one, opt, field, word, content_of, read_number, read_span, read_content, read_text, read_quantity, read_component}
use Rattle.rules.proofs.Basics.{no_some, some_inj}
use Rattle.parts.proofs.Sequence.{opt_absent, opt_ill}
use Rattle.recall.proofs.Quantities.{quantity_of}

-- ---- a reader and what comes after it

module _ {A B : Type 0} where
  -- r reads a value, and f goes on with it
  record Bound (r : Reader A) (f : A → Reader B) (fs : Fields) (x : B × Fields) : Type 0 where
    value : A
    left : Fields
    is_read : r fs ≡ Some (value, left)
    is_then : f value left ≡ Some x

  bound : (r : Reader A) (f : A → Reader B) (fs : Fields) {x : B × Fields} → (r >>= f) fs ≡ Some x → Bound r f fs x
  unfolding ◌>>=◌ go_on
  bound r f fs {x} e = go (r fs) refl e
    where
      go : (o : Option (A × Fields)) → r fs ≡ o → go_on f o ≡ Some x → Bound r f fs x
      go None q k = no_some k
      go (Some p) q k = record { value = p.0; left = p.1; is_read = q; is_then = k }

-- r takes k fields
abbrev Takes : {A : Type 0} → ℕ → Reader A → Type 0
Takes {A} k r = (fs : Fields) (a : A) (gs : Fields) → r fs ≡ Some (a, gs) → drop k fs ≡ gs

module _ {A B : Type 0} where
  -- f goes on from fs, with some value
  record Then (f : A → Reader B) (fs : Fields) (x : B × Fields) : Type 0 where
    value : A
    is : f value fs ≡ Some x

  past : {r : Reader A} (j k : ℕ) → Takes k r → (f : A → Reader B) (fs : Fields) {x : B × Fields} → (r >>= f) (drop j fs) ≡ Some x → Then f (drop (j + k) fs) x
  past {r = r} j k t f fs e =
      let b = bound r f (drop j fs) e in
      let d : drop (j + k) fs ≡ b.left = sym (drop-drop k j fs) ∙ t (drop j fs) _ _ b.is_read in
      record { value = b.value; is = rw d b.is_then }

  takes_both : {r : Reader A} (j k : ℕ) → Takes j r → (f : A → Reader B) → ((a : A) → Takes k (f a)) → Takes (j + k) (r >>= f)
  takes_both {r = r} j k t f u fs b gs e =
      let l = bound r f fs e in sym (drop-drop k j fs) ∙ ap (drop k) (t fs _ _ l.is_read) ∙ u l.value l.left b gs l.is_then

module _ {A : Type 0} where
  given : {a : A} {fs : Fields} {x : A × Fields} → give a fs ≡ Some x → (a, fs) ≡ x
  unfolding give
  given e = some_inj e

  takes_give : (a : A) → Takes 0 (give a)
  takes_give a fs b gs e = ap (λ (p : A × Fields). p.1) (given e)

  said : (o : Option A) (fs : Fields) {x : A × Fields} → saying o fs ≡ Some x → (o ≡ Some x.0) × (fs ≡ x.1)
  unfolding saying
  said None fs e = no_some e
  said (Some a) fs e = (ap (λ (p : A × Fields). Some p.0) (some_inj e), ap (λ (p : A × Fields). p.1) (some_inj e))

  module _ (p : List ℕ → Option A) where
    takes_leaf : Takes 1 (field >>= (λ (f : List ℕ). saying (p f)))
    unfolding ◌>>=◌ go_on field
    takes_leaf [] a gs e = no_some e
    takes_leaf (f ∷ fs) a gs e = (said (p f) fs e).1

    leaf_says : (fs : Fields) {x : A × Fields} → (field >>= (λ (f : List ℕ). saying (p f))) fs ≡ Some x → p (get_or fs 0 []) ≡ Some x.0
    unfolding ◌>>=◌ go_on field
    leaf_says [] e = no_some e
    leaf_says (f ∷ fs) e = (said (p f) fs e).0

-- ---- texts

takes_span : Takes 2 read_span
unfolding read_span read_number
takes_span = takes_both 1 1 (takes_leaf _) _ (λ a. takes_both 1 0 (takes_leaf _) _ (λ b. takes_give _))

takes_content : Takes 1 read_content
unfolding read_content
takes_content = takes_leaf content_of

pub takes_text : Takes 3 read_text
unfolding read_text
takes_text = takes_both 2 1 takes_span _ (λ s. takes_both 1 0 takes_content _ (λ c. takes_give _))

-- the third of its fields is its content
module _ (fs : Fields) {t : Text} {gs : Fields} (e : read_text fs ≡ Some (t, gs)) where
  content_then : Then (λ (s : Span). read_content >>= (λ (c : List ℕ). give (record { span = s; content = c }))) (drop 2 fs) (t, gs)
  unfolding read_text
  content_then = past 0 2 takes_span _ fs e

  content_bound : Bound read_content (λ (c : List ℕ). give (record { span = content_then.value; content = c })) (drop 2 fs) (t, gs)
  content_bound = bound read_content _ (drop 2 fs) content_then.is

  pub text_content : content_of (get_or (drop 2 fs) 0 []) ≡ Some t.content
  unfolding read_content
  text_content = leaf_says content_of (drop 2 fs) content_bound.is_read ∙ ap (λ (x : Text × Fields). Some x.0.content) (given content_bound.is_then)

  pub text_there : {P : Type 0} → drop 2 fs ≡ [] → P
  unfolding read_content ◌>>=◌ go_on field
  text_there q = no_some (rw q at content_bound.is_read)

-- ---- opt

-- what stands there was read
pub record One {A : Type 0} (r : Reader A) (fs : Fields) (o : Option A) (gs : Fields) : Type 0 where
  pub one : A
  pub is_read : r fs ≡ Some (one, gs)
  pub holds_one : o ≡ Some one

-- what tells whether it stands there
abbrev pub dash : Reader (Unit {0})
dash = give tt

module _ {A : Type 0} (r : Reader A) where
  one_got : (fs : Fields) (x : Option (A × Fields)) {o : Option A} {gs : Fields} → r fs ≡ x → got_one x ≡ Some (o, gs) → One r fs o gs
  unfolding got_one
  one_got fs None q e = no_some e
  one_got fs (Some p) q e =
      record { one = p.0; is_read = q ∙ ap (λ (y : Option A × Fields). Some (p.0, y.1)) (some_inj e); holds_one = sym (ap (λ (y : Option A × Fields). y.0) (some_inj e)) }

  one_there : (t : Bool) (f : List ℕ) (hs : Fields) {ls gs : Fields} {o : Option A}
      → Some (Some tt, ls) ≡ pick t (Some (None, hs)) (got_one (dash (f ∷ hs))) → pick t (Some (None, hs)) (got_one (r (f ∷ hs))) ≡ Some (o, gs) → One r (f ∷ hs) o gs
  unfolding got_one give
  one_there true f hs d e = no_some (sym (ap (λ (y : Option (Unit {0}) × Fields). y.0) (some_inj d)))
  one_there false f hs d e = one_got (f ∷ hs) (r (f ∷ hs)) refl e

  module _ (fs : Fields) {o : Option A} {gs : Fields} (e : opt r fs ≡ Some (o, gs)) where
    pub is_absent : {ls : Fields} → Some (None, ls) ≡ opt dash fs → (o ≡ None) × (ls ≡ gs)
    is_absent d =
        let k = some_inj (sym (opt_absent r fs d).is ∙ e) in
        (sym (ap (λ (x : Option A × Fields). x.0) k), ap (λ (x : Option A × Fields). x.1) k)

    pub is_ill : {P : Type 0} → None ≡ opt dash fs → P
    is_ill d = no_some (sym (opt_ill r fs d) ∙ e)

  pub is_one_lem : (fs : Fields) {o : Option A} {gs ls : Fields} → opt r fs ≡ Some (o, gs) → Some (Some tt, ls) ≡ opt dash fs → One r fs o gs
  unfolding opt
  is_one_lem [] e d = no_some e
  is_one_lem (f ∷ hs) e d = one_there (eq_list f (minus ∷ [])) f hs d e

-- ---- a quantity and a component

-- r reads a from fs
pub record Left {A : Type 0} (r : Reader A) (fs : Fields) (a : A) : Type 0 where
  pub left : Fields
  pub is_read : r fs ≡ Some (a, left)

-- seven fields stand before a quantity's unit
pub quantity_unit : (fs : Fields) {q : Quantity} {gs : Fields} → read_quantity fs ≡ Some (q, gs) → Left (opt read_text) (drop 7 fs) q.unit
unfolding read_quantity word
quantity_unit fs e =
    let s = past 0 2 takes_span _ fs e in
    let k = past 2 1 (takes_leaf _) _ fs s.is in
    let vs = past 3 2 takes_span _ fs k.is in
    let v = past 5 1 takes_content _ fs vs.is in
    let l = past 6 1 (takes_leaf _) _ fs v.is in
    let u = bound (opt read_text) _ (drop 7 fs) l.is in
    record { left = u.left; is_read = u.is_read ∙ ap (λ (x : Quantity × Fields). Some (x.0.unit, u.left)) (given u.is_then) }

-- five fields stand before a component's alias, and after it its quantity
pub record Upto (fs : Fields) (c : Component) : Type 0 where
  pub alias : Option Text
  pub after : Fields
  pub is_alias : opt read_text (drop 5 fs) ≡ Some (alias, after)
  pub quantity : Left (opt read_quantity) after c.quantity

pub component_upto : (fs : Fields) {c : Component} {gs : Fields} → read_component fs ≡ Some (c, gs) → Upto fs c
unfolding read_component
component_upto fs e =
    let s = past 0 2 takes_span _ fs e in
    let n = past 2 3 takes_text _ fs s.is in
    let a = bound (opt read_text) _ (drop 5 fs) n.is in
    let q = bound (opt read_quantity) _ a.left a.is_then in
    let k = quantity_of s.value n.value a.value q.value q.left q.is_then in
    record { alias = a.value; after = a.left; is_alias = a.is_read; quantity = record { left = q.left; is_read = q.is_read ∙ ap (λ (x : Option Quantity). Some (x, q.left)) (sym k) } }
