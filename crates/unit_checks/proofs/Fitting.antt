-- A new unit that fits that of an earlier ingredient draws nothing.
use Prim.Native.Nat.{ℕ}
use mathlib.Core.Path.{◌≡◌, refl, ap, sym, ◌∙◌}
use mathlib.Core.Bool.{Bool, true, false}
use mathlib.Core.List.{List, []}
use Rattle.std.specs.Prelude.{Option, None, Some}
use borrow.Author.Tests.{eqb-true}
use Rattle.rules.specs.Basic.{is_some, on_some}
use Rattle.rules.specs.Event.{Text, Quantity}
use Rattle.rules.specs.Units.{NamedUnit}
use Rattle.rules.specs.Model.{trimmed_text, amount_of, Entry}
use Rattle.rules.specs.Checks.{compatible_unit, unit_finding, unit_pair}
use Rattle.rules.proofs.Basics.{no_some, no_truth, some_inj}
use Rattle.content.specs.Contents.{kept_in}
use Rattle.content.proofs.Plains as plains
use Rattle.parts.specs.declared.TextView.{TextView}
use Rattle.parts.specs.declared.QuantityView.{QuantityView}
use Rattle.parts.specs.Views.{part_of, text_in, opt_text_in, quantity_in, opt_quantity_in, TextWithin, OptTextWithin, QuantityWithin, OptQuantityWithin}
use Rattle.parts.proofs.Contents.{content_of_lem}
use Rattle.compatible.specs.Fitting.{unit_code, trimmed_in}
use Rattle.unit_checks.specs.Codes.{new_text}
use Rattle.unit_checks.specs.Checked.{HasUnit, UnitField, NumberRead, UnitKnown, fits_unit}

-- ---- the unit of a new quantity

module _ {a : Option QuantityView} where
  pub has_none : a ≡ None → HasUnit a false
  unfolding opt_quantity_in
  has_none e = record { is = λ line q k. no_some (rw e at k) }

  pub has_no : {v : QuantityView} → a ≡ Some v → v.unit ≡ None → HasUnit a false
  unfolding opt_quantity_in quantity_in opt_text_in is_some
  has_no e n = record { is = λ line q k. let z = rw e at k in rw (← some_inj z, n) }

  pub has_yes : {v : QuantityView} {u : TextView} → a ≡ Some v → v.unit ≡ Some u → HasUnit a true
  unfolding opt_quantity_in quantity_in opt_text_in is_some
  has_yes e n = record { is = λ line q k. let z = rw e at k in rw (← some_inj z, n) }

  module _ {line : List ℕ} where
    pub field_none : {f : List ℕ} → a ≡ None → UnitField line a f
    unfolding opt_quantity_in
    field_none e = record { is = λ w q t k u. no_some (rw e at k) }

    pub field_absent : {v : QuantityView} {f : List ℕ} → a ≡ Some v → v.unit ≡ None → UnitField line a f
    unfolding opt_quantity_in quantity_in opt_text_in
    field_absent e n = record { is = λ w q t k u. let z = rw e at k in no_some (rw n at (ap (λ (x : Quantity). x.unit) (some_inj z) ∙ u)) }

    pub field_there : {v : QuantityView} {u : TextView} {f : List ℕ} → a ≡ Some v → v.unit ≡ Some u → f ≡ part_of line u.content → UnitField line a f
    unfolding opt_quantity_in quantity_in opt_text_in text_in trimmed_text trimmed_in OptQuantityWithin OptTextWithin
    field_there {v} {u} e n p =
        record {
          is =
              λ w q t k s.
              let z = rw e at k in
              let y : Some (text_in line u) ≡ Some t = rw n at (ap (λ (x : Quantity). x.unit) (some_inj z) ∙ s) in
              let within : QuantityWithin line v = rw e at w in
              let x : TextWithin line u = let m = within.unit in rw n at m in
              rw (← some_inj y, p, plains.content_of_lem (part_of line u.content) (content_of_lem line u.content x.content));
        }

module _ {us : List NamedUnit} {a : Option QuantityView} {x : List ℕ} {b : Bool} (h : HasUnit a b) where
  pub number_read : {m : ℕ} → b ≡ true → m ≡ unit_code us (kept_in x) → NumberRead us a x (Some m)
  unfolding is_some
  number_read e c = record { has = rw e at h; code = record { is = λ k p. sym (some_inj p) ∙ c } }

  pub number_none : b ≡ false → NumberRead us a x None
  unfolding is_some
  number_none e = record { has = rw e at h; code = record { is = λ k p. no_some p } }

module _ {us : List NamedUnit} {line : List ℕ} {a : Option QuantityView} {f x : List ℕ} {n : Option ℕ} where
  pub unit_known : OptQuantityWithin line a → UnitField line a f → NumberRead us a x n → UnitKnown us line a f x n
  unfolding is_some on_some
  unit_known w u c = record { is = λ q e. go q.unit n (c.has.is line q e) (λ s k. u.is w q s e k); code = c.code }
    where
      go : (o : Option Text) (z : Option ℕ) → is_some o ≡ is_some z → ((s : Text) → o ≡ Some s → trimmed_text s ≡ trimmed_in f) → on_some trimmed_text o ≡ new_text z f
      go None None e g = refl
      go None (Some m) e g = no_truth e
      go (Some s) None e g = no_truth (sym e)
      go (Some s) (Some m) e g = rw (g s refl)

-- ---- nothing is drawn

pub finding_none : (us : List NamedUnit) (new : Entry) (a b : Option Quantity) (old : Entry) → ((q : Quantity) → a ≡ Some q → fits_unit us b (on_some trimmed_text q.unit) ≡ true)
    → unit_pair us new (on_some (amount_of true) a) (on_some (amount_of true) b) old ≡ []
unfolding unit_pair on_some fits_unit amount_of unit_finding
finding_none us new None b old h = refl
finding_none us new (Some q) None old h = refl
finding_none us new (Some q) (Some p) old h =
    let e : compatible_unit us (on_some trimmed_text p.unit) (on_some trimmed_text q.unit) ≡ 0 = eqb-true (compatible_unit us (on_some trimmed_text p.unit) (on_some trimmed_text q.unit)) 0 (h q refl) in
    rw e
