-- Where the fields of a line that is an ingredient stand, up to the unit of its quantity.
use Prim.Native.Nat.{ℕ, ◌+◌, ◌≤◌, ◌<◌}
use mathlib.Core.Path.{◌≡◌, ap, sym, ◌∙◌}
use mathlib.Core.Bool.{true}
use mathlib.Core.List.{List, []}
use Rattle.std.specs.Prelude.{Option, None, Some}
use native.Mathlib.Omega.{arith}
use lib.ListN.{length, get_or, drop}
use Rattle.rules.specs.Basic.{on_some}
use Rattle.rules.specs.Event.{Text, Component}
use Rattle.rules.specs.Read.{Fields, opt, content_of, read_text, read_quantity, parse_line}
use Rattle.rules.specs.Model.{ingredient}
use Rattle.sheet.specs.Lines.{fields_from, field_at}
use Rattle.sheet.proofs.Scans.{field_to, fields_past}
use Rattle.content.proofs.Plains as plains
use Rattle.parts.proofs.Leaves.{field_part}
use Rattle.model.specs.Rows.{component_of_line}
use Rattle.model.specs.Fits.{is_of_kind}
use Rattle.recall.specs.declared.UnitPlace.{UnitPlace}
use Rattle.recall.specs.declared.UnitPlace.TheVariants.{NoQuantity, NoUnit, At}
use Rattle.recall.specs.Places.{content_if, unit_of, unit_as, PlaceWithin, PastText, UnitRead, UnitRecalled}
use Rattle.recall.proofs.Quantities.{line_got}
use Rattle.recall.proofs.Units.{dash, takes_text, text_content, text_there, is_absent, is_ill, is_one_lem, Left, quantity_unit, component_upto}

no_quantity_within : (line : List ℕ) → PlaceWithin line NoQuantity
no_quantity_within line p e = absurd (let z : ◌≡◌ {A = ℕ} 0 1 = cc in omega arith)

no_unit_within : (line : List ℕ) → PlaceWithin line NoUnit
no_unit_within line p e = absurd (let z : ◌≡◌ {A = ℕ} 0 1 = cc in omega arith)

-- what is told of an opt part that starts at a place
module _ (line : List ℕ) (at : ℕ) where
  module _ {ls : Fields} (d : Some (None, ls) ≡ opt dash (fields_from line at)) where
    pub past_absent : {n : ℕ} → fields_from line n ≡ ls → PastText line at n
    past_absent q = record { is = λ o gs e. q ∙ (is_absent read_text _ e d).1 }

    pub unit_absent : UnitRead line at NoUnit
    unfolding content_if on_some unit_as
    unit_absent = record { is = λ o gs e. let k = (is_absent read_text _ e d).0 in rw k; within = no_unit_within line }

  module _ (d : None ≡ opt dash (fields_from line at)) where
    pub past_ill : (n : ℕ) → PastText line at n
    past_ill n = record { is = λ o gs e. is_ill read_text _ e d }

    pub unit_ill : UnitRead line at NoUnit
    unit_ill = record { is = λ o gs e. is_ill read_text _ e d; within = no_unit_within line }

  module _ {ls : Fields} (d : Some (Some tt, ls) ≡ opt dash (fields_from line at)) {n : ℕ} where
    pub past_present : fields_from line n ≡ drop 3 (fields_from line at) → PastText line at n
    past_present q = record { is = λ o gs e. q ∙ takes_text _ _ gs (is_one_lem read_text _ e d).is_read }

    module _ (q : fields_from line n ≡ drop 2 (fields_from line at)) where
      pub unit_past : length line < n → UnitRead line at NoUnit
      unit_past h = record { is = λ o gs e. text_there _ (is_one_lem read_text _ e d).is_read (sym q ∙ fields_past line n h); within = no_unit_within line }

      module _ {f : List ℕ} (h : n ≤ length line) (k : f ≡ field_at line n) where
        there_is : (o : Option Text) (gs : Fields) → opt read_text (fields_from line at) ≡ Some (o, gs) → Some (content_if o) ≡ unit_as line (At (record { from = n; to = n + length f }))
        unfolding content_if on_some unit_as field_at
        there_is o gs e =
            let t = is_one_lem read_text _ e d in
            let b : f ≡ get_or (drop 2 (fields_from line at)) 0 [] = k ∙ ap (λ (x : Fields). get_or x 0 []) q in
            let c : content_of f ≡ Some t.one.content = rw b (text_content _ t.is_read) in
            rw (t.holds_one, field_part line n h k, plains.content_of_lem f c)

        pub unit_there : UnitRead line at (At (record { from = n; to = n + length f }))
        unit_there = record { is = there_is; within = λ p e. let a : n ≡ p.from = cc in let b : n + length f ≡ p.to = cc in let w = field_to line n k h in (omega arith, omega arith) }

-- the line's quantity starts at a place
module _ (line : List ℕ) (h : is_of_kind ingredient (parse_line line) ≡ true) {a n : ℕ} (p : fields_from line a ≡ drop 5 (fields_from line 11)) (q : PastText line a n) where
  quantity_here : Left (opt read_quantity) (fields_from line n) (component_of_line ingredient line).quantity
  unfolding component_of_line
  quantity_here =
      let g = line_got line h in
      let u = component_upto (fields_from line 11) g.is_read in
      let k : fields_from line n ≡ u.after = q.is u.alias u.after (ap (opt read_text) p ∙ u.is_alias) in
      let c = ap (λ (x : Component). x.quantity) g.is_event in
      rw (k, c) u.quantity

  pub quantity_absent : {ls : Fields} → Some (None, ls) ≡ opt dash (fields_from line n) → UnitRecalled line NoQuantity
  unfolding unit_of on_some unit_as
  quantity_absent d = let k = (is_absent read_quantity _ quantity_here.is_read d).0 in record { is = rw k; within = no_quantity_within line }

  pub quantity_ill : None ≡ opt dash (fields_from line n) → UnitRecalled line NoQuantity
  quantity_ill d = is_ill read_quantity _ quantity_here.is_read d

  pub quantity_present : {ls : Fields} {u : ℕ} {r : UnitPlace} → Some (Some tt, ls) ≡ opt dash (fields_from line n) → fields_from line u ≡ drop 7 (fields_from line n) → UnitRead line u r → UnitRecalled line r
  unfolding unit_of on_some
  quantity_present d e w =
      let o = is_one_lem read_quantity _ quantity_here.is_read d in
      let t = quantity_unit _ o.is_read in
      record { is = rw o.holds_one (w.is o.one.unit t.left (ap (opt read_text) e ∙ t.is_read)); within = w.within }
