-- Findings, then a row with its referrer, then an item: a component of a step as the rules push it.
use Prim.Native.Nat.{ℕ}
use mathlib.Core.Path.{◌≡◌, refl, ap, ◌∙◌}
use mathlib.Core.Bool.{false}
use mathlib.Core.List.{List, [], ◌∷◌}
use Rattle.std.specs.Prelude.{Option, None, Some}
use lib.ListN.{length}
use Rattle.rules.specs.Basic.{on_some}
use Rattle.rules.specs.Finding.{Finding}
use Rattle.rules.specs.Model.{Kind, ingredient, cookware, Entry, Item, ingredient_item}
use Rattle.rules.specs.Reference.{Earlier}
use Rattle.rules.specs.State.{State, table_of, set_table, set_tables, set_block, set_place, set_kept, report, next}
use Rattle.rules.specs.Components.{Made, referred, pushed, refers_to_reference}
use Rattle.rules.specs.Pass.{push_items, item_of, push_component, unless_chained, on_made}
use Rattle.model.specs.Blank.{blank}
use Rattle.model.specs.Memory.{state_in, Sound}
use Rattle.model.specs.Rows.{entry_as}
use Rattle.model.specs.declared.Row.{Row}
use Rattle.model.specs.declared.Held.{Held}
use Rattle.memory.specs.Pushes.{ComponentAdded, referred_to}
use Rattle.memory.specs.Reports.{Reported}
use Rattle.memory.proofs.Reports.{reported_is}
use Rattle.blocks.specs.Lined.{ItemsPushed}

-- what is found leaves the tables, and may come first
pub table_reported : (k : Kind) (fs : List Finding) (st : State) → table_of k (report fs st) ≡ table_of k st
unfolding table_of report
table_reported ingredient fs st = refl
table_reported cookware fs st = refl

pub reported_first : (k : Kind) (fs : List Finding) (new is : List Item) (es : List Entry) (st : State)
    → push_items new is (set_table k es (report fs st)) ≡ report fs (push_items new is (set_table k es st))
unfolding push_items set_table set_tables set_block set_place set_kept report
reported_first ingredient fs new is es st = refl
reported_first cookware fs new is es st = refl

referred_to_lem : (o : Option Earlier) (es : List Entry) → referred_to (on_some (λ (d : Earlier). d.index) o) es ≡ referred o es
unfolding on_some referred
referred_to_lem None es = refl
referred_to_lem (Some d) es = refl

pub component_pushed : (k : Kind) (sheet : List ℕ) (m : Made) {w₀ w₁ w₂ : List ℕ} {h₀ h₁ h₂ h₃ : Held} {row : Row} {to : Option ℕ} → Reported m.findings w₀ h₀ w₁ h₁ → ComponentAdded k w₁ h₁ row to w₂ h₂
    → ItemsPushed 1 h₂ h₃ → entry_as k sheet row [] ≡ m.entry → to ≡ on_some (λ (d : Earlier). d.index) m.refers_to → state_in sheet w₂ h₃ ≡ blank (push_component k m [] (state_in sheet w₀ h₀))
component_pushed k sheet m {w₀} {w₁} {w₂} {h₀} {h₁} {h₂} {h₃} {row} {to} r a i ee ef =
    (i.by (item ∷ []) refl).is sheet w₂ ∙ ap (λ (st : State). blank (push_items (item ∷ []) [] st)) table ∙ ap blank (reported_first k m.findings (item ∷ []) [] (pushed m (table_of k st₀)) st₀) ∙ whole
  where
    st₀ : State
    st₀ = state_in sheet w₀ h₀

    item : Item
    item = item_of k (length (table_of k (state_in sheet w₀ h₀)))

    table : state_in sheet w₂ h₂ ≡ set_table k (pushed m (table_of k (state_in sheet w₀ h₀))) (report m.findings (state_in sheet w₀ h₀))
    table = a.is sheet ∙ (unfold pushed in rw (reported_is r sheet, table_reported k m.findings (state_in sheet w₀ h₀), ee, ef, referred_to_lem m.refers_to (table_of k (state_in sheet w₀ h₀))))

    whole : blank (report m.findings (push_items (item ∷ []) [] (set_table k (pushed m (table_of k (state_in sheet w₀ h₀))) (state_in sheet w₀ h₀)))) ≡ blank (push_component k m [] (state_in sheet w₀ h₀))
    whole = unfold push_component in refl

pub component_sound : {k : Kind} {w₁ w₂ : List ℕ} {h₁ h₂ h₃ : Held} {row : Row} {to : Option ℕ} → ComponentAdded k w₁ h₁ row to w₂ h₂ → ItemsPushed 1 h₂ h₃ → Sound w₂ h₃
component_sound {w₂ = w₂} a i = (i.by (ingredient_item 0 ∷ []) refl).sound w₂ a.sound

-- what refers to no reference goes on
pub made_next : (k : Kind) (m : Made) (is : List Item) (st : State) → refers_to_reference m.refers_to ≡ false → on_made k m is st ≡ next (push_component k m is st)
unfolding on_made unless_chained
made_next k m is st e = rw e
