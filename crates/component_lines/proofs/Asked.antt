-- The same-name search where it is not asked for.
use Prim.Native.Nat.{ℕ}
use mathlib.Core.Path.{◌≡◌, refl, sym, ◌∙◌}
use mathlib.Core.Bool.{Bool, true, false, ◌||◌}
use mathlib.Core.List.{List}
use Rattle.std.specs.Prelude.{Option, None, Some}
use native.Mathlib.Omega.{arith}
use Rattle.rules.specs.Units.{NamedUnit}
use Rattle.rules.specs.Finding.{Finding}
use Rattle.rules.specs.Model.{Kind, Entry}
use Rattle.rules.specs.Modes.{Modes, is_steps, is_reference}
use Rattle.rules.specs.Reference.{Earlier, is_explicit, treat_as_reference, refers_to, redundant_new, reference_findings}
use Rattle.rules.specs.Components.{made_with}
use Rattle.rules.proofs.Basics.{no_truth, or_left, or_right}
use Rattle.model.specs.declared.Held.{Held}
use Rattle.lookup.specs.Names.{SameFound}
use Rattle.lookup.specs.References.{modes_of, asks_same}
use Rattle.unit_checks.specs.Checked.{SameBelow}
use Rattle.component_lines.specs.Steps.{SameAsked}

not_at : {P : Type 0} {i : ℕ} → None ≡ Some i → P
not_at e = absurd (let z : ◌≡◌ {A = ℕ} 0 1 = cc in omega arith)

-- ---- the answer of the search, or none

module _ {k : Kind} {sheet w : List ℕ} {h : Held} {name : List ℕ} {ref opt : Bool} {same : Option ℕ} where
  pub asked_found : {b : Bool} → b ≡ asks_same (modes_of h.define h.duplicate) ref → b ≡ true → SameFound k sheet w h name ref opt same → SameAsked k sheet w h name ref opt same
  asked_found q e f = record { found = λ _. f; unasked = λ z. no_truth (sym z ∙ sym q ∙ e) }

  pub same_below : SameAsked k sheet w h name ref opt same → SameBelow k h same
  same_below s = go (asks_same (modes_of h.define h.duplicate) ref) refl
    where
      go : (b : Bool) → asks_same (modes_of h.define h.duplicate) ref ≡ b → SameBelow k h same
      go true e = record { below = (s.found e).below }
      go false e = record { below = λ i q. not_at (sym (s.unasked e) ∙ q) }

pub asked_not : {k : Kind} {sheet w : List ℕ} {h : Held} {name : List ℕ} {ref opt : Bool} {b : Bool} → b ≡ asks_same (modes_of h.define h.duplicate) ref → b ≡ false → SameAsked k sheet w h name ref opt None
asked_not q e = record { found = λ z. no_truth (sym e ∙ q ∙ z); unasked = λ _. refl }

-- ---- nothing that is made depends on what it finds

pub made_unasked : (us : List NamedUnit) (flags : ℕ) (k : Kind) (modes : Modes) (table : List Entry) (fs : List Finding) (new : Entry) (a b : Option Earlier) → asks_same modes new.modifiers.ref ≡ false
    → made_with us flags k modes table fs new a ≡ made_with us flags k modes table fs new b
unfolding asks_same made_with refers_to reference_findings redundant_new treat_as_reference is_explicit
made_unasked us flags k modes table fs new a b e =
    let q = or_left (new.modifiers.ref || is_steps modes.define) (is_reference modes.duplicate) e in
    rw (or_left new.modifiers.ref (is_steps modes.define) q, or_right new.modifiers.ref (is_steps modes.define) q, or_right (new.modifiers.ref || is_steps modes.define) (is_reference modes.duplicate) e)
