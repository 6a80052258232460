-- What the search found, what a component refers to, and their modifiers.
use Prim.Native.Nat.{ℕ, ◌<◌}
use mathlib.Core.Path.{◌≡◌, refl, ap, sym, ◌∙◌}
use mathlib.Core.List.{List}
use Rattle.std.specs.Prelude.{Option, None, Some}
use native.Mathlib.Omega.{arith}
use Rattle.rules.specs.Basic.{on_some}
use Rattle.rules.specs.Model.{Kind, ingredient, cookware, Entry, set_relation, set_modifiers}
use Rattle.rules.specs.Modes.{Modes}
use Rattle.rules.specs.Reference.{Earlier, refers_to}
use Rattle.rules.proofs.Basics.{some_inj, no_some}
use Rattle.rules.proofs.Chained.{refers_same}
use Rattle.components.specs.Views.{modifiers_in}
use Rattle.components.specs.declared.Modifiers.{Modifiers}
use Rattle.model.specs.Rows as rows
use Rattle.model.specs.Rows.{row_on, entry_in, entry_as}
use Rattle.model.specs.Memory.{Sound, rows_in}
use Rattle.model.specs.declared.Row.{Row}
use Rattle.model.specs.declared.Held.{Held}
use Rattle.unit_checks.specs.Checked.{SameBelow}
use Rattle.memory.proofs.Reading.{row_room}
use Rattle.unit_checks.proofs.Rows.{framed_earlier}
use Rattle.lookup.specs.Names.{earlier_in, earlier_at}
use Rattle.memory.specs.Frames.{Framed}
use Rattle.memory.proofs.Frames.{framed_count}
use Rattle.reference_findings.specs.Reports.{hands_down, SameAs}
use Rattle.component_lines.specs.Steps.{SameSmall, OldRead, ReferredBelow}
use Rattle.model.specs.Kinds.{room_of}

-- ---- what the search found

module _ (k : Kind) (w : List ℕ) (h : Held) {same : Option ℕ} where
  pub old_none : same ≡ None → OldRead k w h same None
  unfolding on_some
  old_none e = record { is = λ sheet. record { is = rw e } }

  pub old_read : (i : ℕ) → same ≡ Some i → {r : Row} {m : Modifiers} → r ≡ row_on (rows_in k w) i → modifiers_in m ≡ rows.modifiers_in r → OldRead k w h same (Some m)
  unfolding on_some hands_down earlier_in entry_in entry_as set_relation set_modifiers
  old_read i e er em = record { is = λ sheet. record { is = rw (e, em, er) } }

-- ---- as the code comes to it, for each kind

pub kind_ready : {k : Kind} {w : List ℕ} {h : Held} {same : Option ℕ} (i : ℕ) → same ≡ Some i → Sound w h → SameBelow k h same → i < room_of k
kind_ready {k} i e z s = row_room k z (s.below i e)

-- ---- what is referred to is what was found

module _ (f : ℕ → Earlier) (modes : Modes) (new : Entry) {o : Option Modifiers} where
  old_of : (i : ℕ) (q : Option Earlier) → SameAs q o → refers_to modes new q ≡ Some (f i) → on_some modifiers_in o ≡ Some (f i).entry.modifiers
  unfolding on_some hands_down
  old_of i q s e = let z : q ≡ Some (f i) = refers_same modes new q (f i) e in sym s.is ∙ rw z

  pub old_referred : (same to : Option ℕ) → SameAs (on_some f same) o → on_some f to ≡ refers_to modes new (on_some f same) → (i : ℕ) → to ≡ Some i → on_some modifiers_in o ≡ Some (f i).entry.modifiers
  unfolding on_some
  old_referred same to s e i q = old_of i (on_some f same) s (sym e ∙ rw q)

index_of : (f : ℕ → Earlier) → ((i : ℕ) → (f i).index ≡ i) → (s : Option ℕ) (i : ℕ) → on_some f s ≡ Some (f i) → s ≡ Some i
unfolding on_some
index_of f ef None i q = no_some q
index_of f ef (Some j) i q = ap Some (sym (ef j) ∙ ap (λ (d : Earlier). d.index) (some_inj q) ∙ ef i)

module _ (f : ℕ → Earlier) (ef : (i : ℕ) → (f i).index ≡ i) (modes : Modes) (new : Entry) (same to : Option ℕ) where
  same_referred : on_some f to ≡ refers_to modes new (on_some f same) → (i : ℕ) → to ≡ Some i → same ≡ Some i
  unfolding on_some
  same_referred e i q = index_of f ef same i (refers_same modes new (on_some f same) (f i) (sym e ∙ rw q))

  pub to_below : {k : Kind} {h : Held} → SameBelow k h same → on_some f to ≡ refers_to modes new (on_some f same) → SameBelow k h to
  to_below b e = record { below = λ i q. b.below i (same_referred e i q) }

-- an index that is small

pub small_same : (k : Kind) {w : List ℕ} {h : Held} {same : Option ℕ} → Sound w h → SameBelow k h same → SameSmall same
small_same ingredient z b = record { below = λ i q. omega (arith, b.below i q, z.room.rows ingredient) }
small_same cookware z b = record { below = λ i q. omega (arith, b.below i q, z.room.rows cookware) }

pub found_below : {k : Kind} {h : Held} {to r : Option ℕ} → r ≡ to → SameBelow k h to → ReferredBelow k h r
found_below {r = Some d} e b = record { is = b.below d (sym e) }
found_below {r = None} e b = record { is = tt }

-- ---- findings leave it

module _ {w w₁ : List ℕ} {h h₁ : Held} (a : Framed w h w₁ h₁) where
  pub earliers_kept : (k : Kind) (sheet : List ℕ) (o : Option ℕ) → on_some (earlier_at k sheet w₁ h₁) o ≡ on_some (earlier_at k sheet w h) o
  unfolding on_some
  earliers_kept k sheet None = refl
  earliers_kept k sheet (Some i) = ap Some (framed_earlier a k sheet i)

  pub below_kept : (k : Kind) {same : Option ℕ} → SameBelow k h same → SameBelow k h₁ same
  below_kept k b = record { below = λ i q. omega (arith, b.below i q, framed_count a k) }

pub earlier_index : (k : Kind) (sheet w : List ℕ) (h : Held) (i : ℕ) → (earlier_at k sheet w h i).index ≡ i
unfolding earlier_in
earlier_index k sheet w h i = refl
