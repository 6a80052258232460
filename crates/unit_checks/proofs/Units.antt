-- The unit check: one row, all referrers of a definition, the definition before them.
use Prim.Native.Nat.{ℕ, zero, suc, ◌+◌, ◌-◌, ◌≤◌, ◌<◌}
use mathlib.Core.Path.{◌≡◌, refl, ap, sym, ◌∙◌}
use mathlib.Core.Bool.{Bool, true}
use Rattle.std.specs.Prelude.{Option, None, Some}
use mathlib.Core.List.{List, [], ◌∷◌, ◌++◌, reverse, append-nil}
use native.Mathlib.Omega.{arith}
use lib.ListN.{length, take, drop}
use Rattle.rules.specs.Basic.{on_some}
use Rattle.rules.specs.Event as rules
use Rattle.rules.specs.Read.{no_modifiers}
use Rattle.rules.specs.Units.{NamedUnit}
use Rattle.rules.specs.Model.{Kind, ingredient, is_ingredient, Amount, amount_of, Entry, definition}
use Rattle.rules.specs.Reference.{entry_at, referrers}
use Rattle.rules.specs.Checks.{unit_finding, unit_pair, unit_against, units_against, unit_check}
use Rattle.rules.specs.State.{table_of}
use Rattle.parts.specs.Views.{opt_quantity_in}
use Rattle.model.specs.Blank.{blank_span}
use Rattle.model.specs.Rows.{component_of_line, entry_as, relation_in, relation_as, if_found}
use Rattle.model.specs.Memory.{state_in, Sound, row_in, referrers_of, referrers_left}
use Rattle.model.specs.Fits.{AllFit}
use Rattle.memory.specs.Referrers.{FirstReferrer, NextReferrer, NextAs}
use Rattle.model.specs.declared.Target.{Target}
use Rattle.model.specs.declared.Target.TheVariants.{Ingredient, Step, Section}
use Rattle.model.specs.declared.Relation.{Relation}
use Rattle.model.specs.declared.Relation.TheVariants.{Definition, Reference}
use Rattle.model.specs.declared.Row.{Row}
use Rattle.model.specs.declared.Noted.{Noted}
use Rattle.model.specs.declared.Held.{Held}
use Rattle.model.proofs.Entries.{entry_relation}
use Rattle.memory.proofs.Reading.{left_few}
use Rattle.checks.specs.Reports.{UnitsChecked}
use Rattle.memory.specs.Reports.{Reported, nothing}
use Rattle.memory.proofs.Reports.{reported_seq, reported_as, reported_fit, found_count}
use Rattle.memory.specs.Frames.{Framed}
use Rattle.memory.proofs.Frames.{framed_none, framed_seq, framed_count, reported_framed, reported_table}
use Rattle.checks.proofs.Laws.{nothing_found, none_found, said}
use Rattle.lookup.specs.Names.{earlier_in, earlier_at}
use Rattle.recall.specs.Recalls.{QuantityRecalled}
use Rattle.unit_checks.specs.Codes.{new_text}
use Rattle.unit_checks.specs.Checked.{QuantityOf, UnitKnown, fits_unit, fits_row, RowChecked, ReferrersChecked, UnitChecked}
use Rattle.unit_checks.proofs.Rows.{entry_there, earlier_row, row_fits, line_amount, quantity_source}
use Rattle.unit_checks.proofs.Fitting.{finding_none}
use Rattle.parts.specs.declared.QuantityView.{QuantityView}
use Rattle.model.specs.declared.layout.TheConstants.{MOST_FINDINGS}

-- ---- one row

module _ (us : List NamedUnit) (new : Entry) where
  against_some : (old : Entry) → unit_against us new (Some old) ≡ unit_pair us new new.quantity old.quantity old
  unfolding unit_against
  against_some old = refl

  units_more : (table : List Entry) (i : ℕ) (is : List ℕ) → units_against us new table (i ∷ is) ≡ unit_against us new (entry_at i table) ++ units_against us new table is
  unfolding units_against
  units_more table i is = refl

amount_is : {new : Entry} {line : List ℕ} {a : Option QuantityView} → QuantityOf new ingredient line a → new.quantity ≡ on_some (amount_of true) (opt_quantity_in line a)
unfolding is_ingredient
amount_is n = n.is_amount

module _ (i : ℕ) {sheet w₀ : List ℕ} {h₀ : Held} {r : Row} (f : AllFit sheet w₀ h₀) (l : i < h₀.counts.ingredients) (e : r ≡ row_in ingredient w₀ i) where
  abbrev by : List ℕ
  by = referrers_of ingredient w₀ h₀ i

  row_entry : entry_at i (table_of ingredient (state_in sheet w₀ h₀)) ≡ Some (entry_as ingredient sheet r by)
  row_entry = entry_there ingredient sheet w₀ h₀ i l ∙ ap (λ (x : Entry). Some x) (earlier_row ingredient sheet w₀ h₀ i e)

  -- one that fits draws nothing
  row_pair : (us : List NamedUnit) (new : Entry) {line : List ℕ} {a : Option QuantityView} → QuantityOf new ingredient line a
      → unit_against us new (entry_at i (table_of ingredient (state_in sheet w₀ h₀)))
      ≡ unit_pair us new (on_some (amount_of true) (opt_quantity_in line a)) (on_some (amount_of true) (component_of_line ingredient (take (r.line_end - r.line_at) (drop r.line_at sheet))).quantity) (entry_as ingredient sheet r by)
  row_pair us new {line} {a} n =
      ap (unit_against us new) row_entry
      ∙ against_some us new (entry_as ingredient sheet r by)
      ∙ ap (λ (x : Option Amount). unit_pair us new x (entry_as ingredient sheet r by).quantity (entry_as ingredient sheet r by)) (amount_is n)
      ∙ ap (λ (x : Option Amount). unit_pair us new (on_some (amount_of true) (opt_quantity_in line a)) x (entry_as ingredient sheet r by)) (line_amount (row_fits f ingredient i l e) by)

  pub row_fitting : {us vs : List NamedUnit} {line : List ℕ} {a : Option QuantityView} {g x : List ℕ} {n : Option ℕ} {t : Bool} → us ≡ vs → UnitKnown us line a g x n
      → t ≡ fits_unit us (component_of_line ingredient (take (r.line_end - r.line_at) (drop r.line_at sheet))).quantity (new_text n g) → t ≡ true
      → RowChecked vs sheet line a i w₀ h₀ None
  row_fitting {us} {line = line} {a} ev k t z =
      rw (← ev)
      record {
        is = λ new n. nothing_found (row_pair us new n ∙ finding_none us new (opt_quantity_in line a) _ _ (λ q o. ap (fits_unit us _) (k.is q o) ∙ sym t ∙ z));
      }

  pub fits_there : (us : List NamedUnit) (b : Option (List ℕ)) {t : Bool} → t ≡ fits_unit us (component_of_line ingredient (take (r.line_end - r.line_at) (drop r.line_at sheet))).quantity b → t ≡ fits_row us sheet w₀ i b
  unfolding fits_row
  fits_there us b t = rw (← e) t

  module _ {b : Option QuantityView} (q : QuantityRecalled (take (r.line_end - r.line_at) (drop r.line_at sheet)) b) where
    same : (us : List NamedUnit) {line : List ℕ} {a : Option QuantityView} (new : Entry) → QuantityOf new ingredient line a
        → unit_against us new (entry_at i (table_of ingredient (state_in sheet w₀ h₀)))
        ≡ unit_pair us new (on_some (amount_of true) (opt_quantity_in line a)) (on_some (amount_of true) (opt_quantity_in (take (r.line_end - r.line_at) (drop r.line_at sheet)) b)) (entry_as ingredient sheet r by)
    same us {line} {a} new n =
        row_pair us new n ∙ ap (λ (x : Option rules.Quantity). unit_pair us new (on_some (amount_of true) (opt_quantity_in line a)) (on_some (amount_of true) x) (entry_as ingredient sheet r by)) (sym q.is)

    pub row_checked : {us : List NamedUnit} {line : List ℕ} {a : Option QuantityView} {x : Option Noted} → UnitsChecked us line a (take (r.line_end - r.line_at) (drop r.line_at sheet)) b x → RowChecked us sheet line a i w₀ h₀ x
    row_checked {us} u = record { is = λ new n. u.is true true new (entry_as ingredient sheet r by) n.is_source (quantity_source (row_fits f ingredient i l e) q by) ∙ sym (same us new n) }

-- a row that fits draws nothing
pub row_skipped : {us vs : List NamedUnit} {sheet line : List ℕ} {a : Option QuantityView} {g x : List ℕ} {n : Option ℕ} {i : ℕ} {w : List ℕ} {h : Held} {t : Bool} → AllFit sheet w h → i < h.counts.ingredients → us ≡ vs
    → UnitKnown us line a g x n → t ≡ fits_row us sheet w i (new_text n g) → t ≡ true → RowChecked vs sheet line a i w h None
row_skipped {us} {g = g} {n = n} {i = i} f l ev k e z = row_fitting i f l refl ev k (e ∙ sym (fits_there i f l refl us (new_text n g) refl)) z

-- ---- what it leaves, whatever the entry is

-- some entry with the quantity
unfoldable pub sample : Kind → List ℕ → Option QuantityView → Entry
sample k line a =
    record {
      name = [];
      path = None;
      alias = None;
      quantity = on_some (amount_of (is_ingredient k)) (opt_quantity_in line a);
      note = None;
      modifiers = no_modifiers;
      relation = definition true [];
      source = record { span = blank_span; quantity = opt_quantity_in line a; note = None; modifiers_span = blank_span };
    }

pub sample_of : (k : Kind) (line : List ℕ) (a : Option QuantityView) → QuantityOf (sample k line a) k line a
unfolding sample
sample_of k line a = record { is_source = refl; is_amount = refl }

finding_few : (n : ℕ) (ps : List rules.Span) → length (unit_finding n ps) ≤ 1
unfolding unit_finding
finding_few zero ps = omega arith
finding_few (suc n) ps = omega arith

pair_few : (us : List NamedUnit) (new : Entry) (p q : Option Amount) (old : Entry) → length (unit_pair us new p q old) ≤ 1
pair_few us new None q old = unfold unit_pair in omega arith
pair_few us new (Some x) None old = unfold unit_pair in omega arith
pair_few us new (Some x) (Some y) old = unfold unit_pair in finding_few _ _

pub against_few : (us : List NamedUnit) (new : Entry) (o : Option Entry) → length (unit_against us new o) ≤ 1
against_few us new None = unfold unit_against in omega arith
against_few us new (Some old) = unfold unit_against in pair_few us new new.quantity old.quantity old

-- what a row drew, stored
module _ (x : Option Noted) {w₀ w : List ℕ} {h₀ h : Held} (p : Reported (if_found x) w₀ h₀ w h) where
  row_told : {us : List NamedUnit} {sheet line : List ℕ} {a : Option QuantityView} {i : ℕ} → RowChecked us sheet line a i w₀ h₀ x → (new : Entry) → QuantityOf new ingredient line a
      → Reported (unit_against us new (entry_at i (table_of ingredient (state_in sheet w₀ h₀)))) w₀ h₀ w h
  row_told c new q = reported_as p (c.is new q)

  pub row_below : {d : ℕ} → d < h₀.counts.ingredients → d < h.counts.ingredients
  row_below l = omega (arith, framed_count (reported_framed p) ingredient)

  pub row_left : h₀.counts.findings + h₀.counts.ingredients < MOST_FINDINGS → h.counts.findings + h.counts.ingredients ≤ MOST_FINDINGS
  row_left l = omega (arith, framed_count (reported_framed p) ingredient, found_count x p)

nothing_told : {w : List ℕ} {h : Held} → Reported (if_found None) w h w h
unfolding if_found
nothing_told = nothing

-- ---- the referrers

-- what is found from a place on makes the whole
pub record Going (us : List NamedUnit) (sheet line : List ℕ) (a : Option QuantityView) (d : ℕ) (w₀ : List ℕ) (h₀ : Held) (w : List ℕ) (h : Held) (place : ℕ) : Type 0 where
  pub fit : AllFit sheet w h
  pub framed : Framed w₀ h₀ w h
  pub table : table_of ingredient (state_in sheet w h) ≡ table_of ingredient (state_in sheet w₀ h₀)
  pub room : h.counts.findings + length (referrers_left ingredient w₀ h₀ d place) ≤ MOST_FINDINGS
  pub is : (new : Entry) → QuantityOf new ingredient line a → (w₂ : List ℕ) (h₂ : Held)
      → Reported (units_against us new (table_of ingredient (state_in sheet w₀ h₀)) (referrers_left ingredient w₀ h₀ d place)) w h w₂ h₂
      → Reported (units_against us new (table_of ingredient (state_in sheet w₀ h₀)) (reverse (referrers_of ingredient w₀ h₀ d))) w₀ h₀ w₂ h₂

module _ {us : List NamedUnit} {sheet line : List ℕ} {a : Option QuantityView} {d : ℕ} {w₀ : List ℕ} {h₀ : Held} where
  pub going_start : {place : ℕ} → Sound w₀ h₀ → FirstReferrer ingredient w₀ h₀ d place → AllFit sheet w₀ h₀ → h₀.counts.findings + h₀.counts.ingredients ≤ MOST_FINDINGS → Going us sheet line a d w₀ h₀ w₀ h₀ place
  going_start z p f l = record { fit = f; framed = framed_none; table = refl; room = omega (arith, left_few ingredient z d p); is = λ new n w₂ h₂ r. rw p.is at r }

  module _ {w : List ℕ} {h : Held} {place : ℕ} (g : Going us sheet line a d w₀ h₀ w h place) where
    -- the definition is there still
    pub going_here : d < h₀.counts.ingredients → d < h.counts.ingredients
    going_here l = omega (arith, framed_count g.framed ingredient)

    module _ {x : Option (ℕ × ℕ)} (n : NextReferrer ingredient w h d place x) where
      next_is : NextAs ingredient w h d place x
      next_is = n.is

      pub going_end : x ≡ None → ReferrersChecked us sheet line a d w₀ h₀ w h
      going_end e =
          let z : NextAs ingredient w h d place None = (let y = next_is in rw e at y) in
          record { is = λ new n. g.is new n w h (none_found (rw (sym (g.framed.left ingredient d place) ∙ z) (unfold units_against in refl))) }

      module _ (i next : ℕ) (e : x ≡ Some (i, next)) where
        found : NextAs ingredient w h d place (Some (i, next))
        found = let z = next_is in rw e at z

        pub going_below : i < h.counts.ingredients
        going_below = found.0

        more : referrers_left ingredient w₀ h₀ d place ≡ i ∷ referrers_left ingredient w₀ h₀ d next
        more = sym (g.framed.left ingredient d place) ∙ found.1 ∙ ap (λ (l : List ℕ). i ∷ l) (g.framed.left ingredient d next)

        shorter : length (referrers_left ingredient w₀ h₀ d place) ≡ suc (length (referrers_left ingredient w₀ h₀ d next))
        shorter = ap length more

        pub going_less : length (referrers_left ingredient w₀ h₀ d next) < length (referrers_left ingredient w₀ h₀ d place)
        going_less = omega (arith, shorter)

        pub going_room : h.counts.findings < MOST_FINDINGS
        going_room = omega (arith, g.room, shorter)

        pub going_turn : {y : Option Noted} {w₁ : List ℕ} {h₁ : Held} → RowChecked us sheet line a i w h y → Reported (if_found y) w h w₁ h₁ → Going us sheet line a d w₀ h₀ w₁ h₁ next
        going_turn c p =
            record {
              fit = reported_fit p sheet g.fit;
              framed = framed_seq g.framed (reported_framed p);
              table = reported_table p ingredient sheet ∙ g.table;
              room = omega (arith, found_count _ p, g.room, shorter);
              is =
                  λ new n w₂ h₂ r.
                  g.is new n w₂ h₂
                  (said (ap (units_against us new (table_of ingredient (state_in sheet w₀ h₀))) more ∙ units_more us new (table_of ingredient (state_in sheet w₀ h₀)) i _)
                  (reported_seq (said (ap (λ (t : List Entry). unit_against us new (entry_at i t)) (sym g.table)) (row_told _ p c new n)) r));
            }

        -- nothing is drawn
        pub going_skip : RowChecked us sheet line a i w h None → Going us sheet line a d w₀ h₀ w h next
        going_skip c = going_turn c nothing_told

-- ---- the definition, and then its referrers

units_none : (us : List NamedUnit) (new : Entry) (table : List Entry) → new.quantity ≡ None → (is : List ℕ) → units_against us new table is ≡ []
unfolding units_against
units_none us new table e [] = refl
units_none us new table e (i ∷ is) = rw (against_none (entry_at i table), units_none us new table e is)
  where
    against_none : (o : Option Entry) → unit_against us new o ≡ []
    against_none None = unfold unit_against in refl
    against_none (Some old) = unfold unit_against unit_pair in rw e

pub check_none : {us : List NamedUnit} {sheet line : List ℕ} {a : Option QuantityView} {d : ℕ} {w : List ℕ} {h : Held} → a ≡ None → UnitChecked us sheet line a d w h w h
unfolding unit_check opt_quantity_in on_some
check_none {us} e = record { is = λ new p q. none_found (units_none us new _ (q ∙ rw e) _) }

pub referrers_none : (k : Kind) (x : Target) (in_step : Bool) (index : ℕ) (by : List ℕ) → referrers (relation_as k (Reference x) in_step index by) ≡ []
unfolding referrers relation_as
referrers_none k Ingredient in_step index _ = refl
referrers_none k Step in_step index _ = refl
referrers_none k Section in_step index _ = refl

referrers_other : (k : Kind) (x : Relation) → (x ≡ Definition → ⊥) → (in_step : Bool) (index : ℕ) (by : List ℕ) → referrers (relation_as k x in_step index by) ≡ []
referrers_other k Definition n in_step index _ = absurd (n refl)
referrers_other k (Reference t) n in_step index its = referrers_none k t in_step index its

module _ {us : List NamedUnit} {sheet line : List ℕ} {a : Option QuantityView} {d : ℕ} {w₀ w₁ : List ℕ} {h₀ h₁ : Held} {r : Row} (e : r ≡ row_in ingredient w₀ d)
    {y : Option Noted} (c : RowChecked us sheet line a d w₀ h₀ y) (t : Reported (if_found y) w₀ h₀ w₁ h₁) where
  relation_is : (earlier_at ingredient sheet w₀ h₀ d).entry.relation
      ≡ relation_as ingredient r.relation.relation r.relation.in_step r.relation.index (referrers_of ingredient w₀ h₀ d)
  relation_is = ap (λ (x : Entry). x.relation) (earlier_row ingredient sheet w₀ h₀ d e) ∙ entry_relation ingredient sheet r _ ∙ (unfold relation_in in refl)

  split : (new : Entry) (is : List ℕ) → referrers (earlier_at ingredient sheet w₀ h₀ d).entry.relation ≡ is
      → unit_check us new (table_of ingredient (state_in sheet w₀ h₀)) (earlier_at ingredient sheet w₀ h₀ d)
      ≡ unit_against us new (entry_at d (table_of ingredient (state_in sheet w₀ h₀))) ++ units_against us new (table_of ingredient (state_in sheet w₀ h₀)) is
  split new is q = unfold unit_check units_against earlier_in in ap (λ (l : List ℕ). unit_against us new (entry_at d (table_of ingredient (state_in sheet w₀ h₀))) ++ units_against us new (table_of ingredient (state_in sheet w₀ h₀)) l) q

  quantity_of : (new : Entry) → new.source.quantity ≡ opt_quantity_in line a → new.quantity ≡ on_some (amount_of true) (opt_quantity_in line a) → QuantityOf new ingredient line a
  quantity_of new p q = record { is_source = p; is_amount = unfold is_ingredient in q }

  alone : (new : Entry) → unit_against us new (entry_at d (table_of ingredient (state_in sheet w₀ h₀))) ++ units_against us new (table_of ingredient (state_in sheet w₀ h₀)) [] ≡ unit_against us new (entry_at d (table_of ingredient (state_in sheet w₀ h₀)))
  unfolding units_against
  alone new = append-nil (unit_against us new (entry_at d (table_of ingredient (state_in sheet w₀ h₀))))

  pub check_reference : (r.relation.relation ≡ Definition → ⊥) → UnitChecked us sheet line a d w₀ h₀ w₁ h₁
  check_reference o =
      record {
        is =
            λ new p q.
            said (split new [] (ap referrers relation_is ∙ referrers_other ingredient r.relation.relation o _ _ _) ∙ alone new)
            (row_told _ t c new (quantity_of new p q));
      }

  pub check_definition : {w : List ℕ} {h : Held} → r.relation.relation ≡ Definition → ReferrersChecked us sheet line a d w₁ h₁ w h → UnitChecked us sheet line a d w₀ h₀ w h
  check_definition {w} {h} o g =
      record {
        is =
            λ new p q.
            said (split new (reverse (referrers_of ingredient w₀ h₀ d)) (ap referrers relation_is ∙ rw o (unfold relation_as referrers in refl)))
            (reported_seq (row_told _ t c new (quantity_of new p q)) (later new (quantity_of new p q)));
      }
    where
      later : (new : Entry) → QuantityOf new ingredient line a
          → Reported (units_against us new (table_of ingredient (state_in sheet w₀ h₀)) (reverse (referrers_of ingredient w₀ h₀ d))) w₁ h₁ w h
      later new n =
          said
          (ap (λ (l : List Entry). units_against us new l (reverse (referrers_of ingredient w₀ h₀ d))) (sym (reported_table t ingredient sheet))
          ∙ ap (λ (by : ℕ → List ℕ). units_against us new (table_of ingredient (state_in sheet w₁ h₁)) (reverse (by d))) (sym ((reported_framed t).referrers ingredient)))
          (g.is new n)
