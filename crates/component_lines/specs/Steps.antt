-- What the steps of a component's line come to.
use Rattle.std.specs.Prelude.{ℕ, ◌+◌, ◌≤◌, ◌<◌, ◌≡◌, Bool, true, false, List, [], length, Option, None, Some}
use Rattle.std.proofs.Math.Seq.{slice}
use Rattle.rules.specs.Basic.{on_some}
use Rattle.rules.specs.Event as rules
use Rattle.rules.specs.Read.{parse_line}
use Rattle.rules.specs.Units.{NamedUnit}
use Rattle.rules.specs.Input.{Context}
use Rattle.rules.specs.Model.{Kind, ingredient, both, either, with_ref, inherits, target_of, Relation, definition, reference, Entry, entry_of}
use Rattle.rules.specs.Reference.{Earlier, refers_to}
use Rattle.rules.specs.State.{table_of}
use Rattle.rules.specs.Components.{lock_findings, Made, made_with, made_by_name, made_intermediate, make_ingredient}
use Rattle.rules.specs.Pass.{push_component}
use Rattle.components.specs.Views.{modifiers_in, component_in, ComponentWithin, intermediate_in}
use Rattle.components.specs.declared.Modifiers.{Modifiers}
use Rattle.components.specs.declared.ComponentView.{ComponentView}
use Rattle.components.specs.declared.Intermediate.{Intermediate}
use Rattle.known_events.specs.Fields.{TextField}
use Rattle.model.specs.Blank.{blank}
use Rattle.model.specs.Rows.{component_of_line, relation_in}
use Rattle.model.specs.Memory.{state_in, Sound, count_of}
use Rattle.model.specs.Fits.{is_of_kind, WholeLine, AllFit}
use Rattle.model.specs.declared.RelationRecord.{RelationRecord}
use Rattle.model.specs.declared.Row.{Row}
use Rattle.model.specs.declared.Held.{Held}
use Rattle.memory.specs.Pushes.{FoundBelow, ComponentAdded}
use Rattle.lookup.specs.declared.NamePart.{NamePart}
use Rattle.lookup.specs.Names.{earlier_at, SameFound, NewName}
use Rattle.lookup.specs.References.{modes_of, asks_same}
use Rattle.memory.specs.Reports.{Reported}
use Rattle.reference_findings.specs.Reports.{SameAs}
use Rattle.blocks.specs.Lined.{ItemsPushed}
use Rattle.new_rows.specs.Rows.{RowMade}
use Rattle.model.specs.declared.layout.TheConstants.{MOST_ROWS}
use Rattle.model.specs.Writes.{Writes}

-- ---- the line

-- the line of the sheet from at to end is a component of the kind, and v is its view
pub record ComponentHere (k : Kind) (sheet : List ℕ) (at end : ℕ) (v : ComponentView) : Type 0 where
  pub whole : WholeLine sheet at end
  pub short : length sheet ≤ 65536
  pub is_kind : is_of_kind k (parse_line (slice at end sheet)) ≡ true
  pub is : component_of_line k (slice at end sheet) ≡ component_in (slice at end sheet) v
  pub within : ComponentWithin (slice at end sheet) v
  pub field : TextField (slice at end sheet) v.name

-- p is where the sheet has the component's name
pub record NamePlaced (k : Kind) (sheet : List ℕ) (at : ℕ) (v : ComponentView) (p : NamePart) : Type 0 where
  pub new : NewName k sheet (at + v.name.content.from) (at + v.name.content.to) p
  pub most : p.end ≤ length sheet

-- the counts of components and items that a line of the pass begins with
pub record Roomy (h : Held) : Type 0 where
  pub ingredients : h.counts.ingredients ≤ 512
  pub cookware : h.counts.cookware ≤ 256
  pub items : h.counts.items ≤ 4096

-- ---- what it refers to

-- same is what the search finds, where it is asked for
pub record SameAsked (k : Kind) (sheet w : List ℕ) (h : Held) (name : List ℕ) (ref opt : Bool) (same : Option ℕ) : Type 0 where
  pub found : asks_same (modes_of h.define h.duplicate) ref ≡ true → SameFound k sheet w h name ref opt same
  pub unasked : asks_same (modes_of h.define h.duplicate) ref ≡ false → same ≡ None

-- the index of what was found is small
pub record SameSmall (same : Option ℕ) : Type 0 where
  pub below : (i : ℕ) → same ≡ Some i → i < MOST_ROWS

-- the modifiers of what was found
pub record OldRead (k : Kind) (w : List ℕ) (h : Held) (same : Option ℕ) (old : Option Modifiers) : Type 0 where
  pub is : (sheet : List ℕ) → SameAs (on_some (earlier_at k sheet w h) same) old

-- all that is found at a component without an intermediate reference
pub record NamedReported (us : List NamedUnit) (flags : ℕ) (k : Kind) (sheet line : List ℕ) (v : ComponentView) (old : Option Modifiers) (to : Option ℕ) (w₀ : List ℕ) (h₀ : Held) (w : List ℕ) (h : Held) : Type 0 where
  pub is : (in_step : Bool) (same : Option Earlier) → SameAs same old
      → on_some (earlier_at k sheet w₀ h₀) to ≡ refers_to (modes_of h₀.define h₀.duplicate) (entry_of k in_step (component_in line v)) same
      → Reported
      (made_with us flags k (modes_of h₀.define h₀.duplicate) (table_of k (state_in sheet w₀ h₀)) (lock_findings (component_in line v).quantity) (entry_of k in_step (component_in line v)) same).findings
      w₀ h₀ w h

-- ---- its row

-- the modifiers of a component: where it refers, with those that the definition hands down
unfoldable pub heir_of : Kind → Option ℕ → Option rules.Modifiers → rules.Modifiers → rules.Modifiers
heir_of k None old m = m
heir_of k (Some i) None m = m
heir_of k (Some i) (Some d) m = with_ref (either m (both d (inherits k)))

unfoldable pub relation_to : Kind → Bool → Option ℕ → Relation
relation_to k in_step None = definition in_step []
relation_to k in_step (Some i) = reference (target_of k) i

pub record RelatedTo (k : Kind) (in_step : Bool) (to : Option ℕ) (r : RelationRecord) : Type 0 where
  pub is : relation_in k r [] ≡ relation_to k in_step to

pub record RowNamed (k : Kind) (at end : ℕ) (p : NamePart) (in_step : Bool) (m : Modifiers) (to : Option ℕ) (old : Option Modifiers) (r : Row) : Type 0 where
  pub modifiers : Modifiers
  pub relation : RelationRecord
  pub made : RowMade at end p.at p.end modifiers relation r
  pub is_modifiers : modifiers_in modifiers ≡ heir_of k to (on_some modifiers_in old) (modifiers_in m)
  pub is_relation : RelatedTo k in_step to relation

-- ---- the row and its item in work memory

-- what is referred to is there
pub record ReferredBelow (k : Kind) (h : Held) (to : Option ℕ) : Type 0 where
  pub is : FoundBelow to (count_of k h)

pub record RowPut (k : Kind) (w₀ : List ℕ) (h₀ : Held) (r : Row) (to : Option ℕ) (w : List ℕ) (h : Held) : Type 0 where
  pub between : Held
  pub added : ComponentAdded k w₀ h₀ r to w between
  pub items : ItemsPushed 1 between h

-- what a component becomes, pushed
pub record MadePushed (k : Kind) (m : Made) (sheet w₀ : List ℕ) (h₀ : Held) (w : List ℕ) (h : Held) : Type 0 where
  pub is : state_in sheet w h ≡ blank (push_component k m [] (state_in sheet w₀ h₀))
  pub sound : Sound w h
  pub fit : AllFit sheet w h
  pub writes : Writes w₀ w false

-- all that is found at an intermediate reference; the entry does not matter
pub record IntermediateReported (v : ComponentView) (i : Intermediate) (target : Option ℕ) (w₀ : List ℕ) (h₀ : Held) (w : List ℕ) (h : Held) : Type 0 where
  pub is : (line : List ℕ) (new : Entry) → Reported (made_intermediate (component_in line v) new (intermediate_in i) target).findings w₀ h₀ w h

-- a line with an intermediate reference; the context does not matter
pub record IntermediateDone (sheet line : List ℕ) (v : ComponentView) (i : Intermediate) (w₀ : List ℕ) (h₀ : Held) (w : List ℕ) (h : Held) : Type 0 where
  pub is : (cx : Context) → MadePushed ingredient (make_ingredient cx (component_in line v) (Some (intermediate_in i)) (state_in sheet w₀ h₀)) sheet w₀ h₀ w h

-- a line without one
pub record NamedDone (us : List NamedUnit) (flags : ℕ) (k : Kind) (sheet line : List ℕ) (v : ComponentView) (w₀ : List ℕ) (h₀ : Held) (w : List ℕ) (h : Held) : Type 0 where
  pub is : MadePushed k (made_by_name us flags k (component_in line v) (state_in sheet w₀ h₀)) sheet w₀ h₀ w h
