-- What the checks for 10 to 14 of a new component answer, and all of them leave in work memory.
use Rattle.std.specs.Prelude.{ℕ, ◌≡◌, Bool, List, Option}
use Rattle.rules.specs.Basic.{is_some, on_some}
use Rattle.rules.specs.Event as rules
use Rattle.rules.specs.Model.{Kind, Entry, inherits}
use Rattle.rules.specs.Reference.{Earlier, redundant_new, redundant_ref, conflict_or_missing, reference_findings}
use Rattle.parts.specs.Views.{span_in}
use Rattle.parts.specs.declared.Span.{Span}
use Rattle.components.specs.Views.{modifiers_in}
use Rattle.components.specs.declared.Modifiers.{Modifiers}
use Rattle.sheet.specs.declared.Define.{Define}
use Rattle.sheet.specs.declared.Duplicate.{Duplicate}
use Rattle.model.specs.Rows.{if_found}
use Rattle.model.specs.declared.Noted.{Noted}
use Rattle.model.specs.declared.Held.{Held}
use Rattle.memory.specs.Reports.{Reported}
use Rattle.lookup.specs.References.{modes_of}

-- the modifiers of what the search found
unfoldable pub hands_down : Earlier → rules.Modifiers
hands_down d = d.entry.modifiers

pub record SameAs (same : Option Earlier) (old : Option Modifiers) : Type 0 where
  pub is : on_some hands_down same ≡ on_some modifiers_in old

-- a new entry with the modifiers and spans
pub record NewAs (e : Entry) (m : Modifiers) (span at : Span) : Type 0 where
  pub is_modifiers : e.modifiers ≡ modifiers_in m
  pub is_span : e.source.span ≡ span_in span
  pub is_at : e.source.modifiers_span ≡ span_in at

-- whatever the new entry is and what the search found: 11
pub record RedundantNew (define : Define) (duplicate : Duplicate) (is_found : Bool) (at : Span) (r : Option Noted) : Type 0 where
  pub is : (e : Entry) (same : Option Earlier) → e.source.modifiers_span ≡ span_in at → is_some same ≡ is_found → if_found r ≡ redundant_new (modes_of define duplicate) e same

-- 12
pub record RedundantRef (define : Define) (duplicate : Duplicate) (explicit : Bool) (at : Span) (r : Option Noted) : Type 0 where
  pub is : (e : Entry) → e.source.modifiers_span ≡ span_in at → e.modifiers.ref ≡ explicit → if_found r ≡ redundant_ref (modes_of define duplicate) e

-- 13 and 14; the modes do not matter
pub record ConflictOrMissing (k : Kind) (m : Modifiers) (span at : Span) (old : Option Modifiers) (r : Option Noted) : Type 0 where
  pub is : (define : Define) (duplicate : Duplicate) (e : Entry) (same : Option Earlier) → NewAs e m span at → SameAs same old
      → if_found r ≡ conflict_or_missing (modes_of define duplicate) e (inherits k) same

-- 10 to 14
pub record ReferenceReported (k : Kind) (m : Modifiers) (span at : Span) (old : Option Modifiers) (w₀ : List ℕ) (h₀ : Held) (w : List ℕ) (h : Held) : Type 0 where
  pub is : (e : Entry) (same : Option Earlier) → NewAs e m span at → SameAs same old
      → Reported (reference_findings (modes_of h₀.define h₀.duplicate) e (inherits k) same) w₀ h₀ w h
