-- The checks of notes and quantities together.
use Prim.Native.Nat.{ℕ, ◌+◌, ◌<◌, ◌≤◌}
use mathlib.Core.Path.{refl}
use mathlib.Core.Bool.{Bool}
use Rattle.std.specs.Prelude.{Option, None, Some}
use mathlib.Core.List.{List, []}
use native.Mathlib.Omega.{arith}
use lib.ListN.{length}
use Rattle.rules.specs.Event as rules
use Rattle.rules.specs.Model.{Source}
use Rattle.rules.specs.Checks.{note_check, reference_checks}
use Rattle.parts.specs.declared.Span.{Span}
use Rattle.parts.specs.Views.{span_in, opt_text_in}
use Rattle.model.specs.Rows.{if_found}
use Rattle.model.specs.declared.Noted.{Noted}
use Rattle.model.specs.declared.Held.{Held}
use Rattle.checks.specs.Reports.{NoteChecked, QuantityChecked, ReferenceChecked}
use Rattle.memory.specs.Reports.{Reported}
use Rattle.memory.proofs.Reports.{reported_seq, reported_as, reported_count}
use Rattle.checks.proofs.Laws.{said}
use Rattle.parts.specs.declared.QuantityView.{QuantityView}
use Rattle.parts.specs.declared.TextView.{TextView}
use Rattle.model.specs.declared.layout.TheConstants.{MOST_FINDINGS}

-- a note makes one finding at most
note_one : (implicit : Bool) (o : Option rules.Text) (d : Source) → length (note_check implicit o d) ≤ 1
unfolding note_check
note_one implicit None d = omega arith
note_one implicit (Some n) d = omega arith

module _ {implicit : Bool} {note : Option TextView} {s : Span} {old : Option TextView} {r : Option Noted} {w₀ w : List ℕ} {h₀ h : Held} (k : NoteChecked implicit note s old r) (l : Reported (if_found r) w₀ h₀ w h) where
  unfoldable plain : Source
  plain = record { span = span_in s; quantity = None; note = opt_text_in [] old; modifiers_span = span_in s }

  noted : Reported (note_check implicit (opt_text_in [] note) plain) w₀ h₀ w h
  unfolding plain
  noted = reported_as l (k.is [] [] plain refl refl)

  pub note_room : h₀.counts.findings + 2 < MOST_FINDINGS → h.counts.findings + 1 < MOST_FINDINGS
  note_room z = let c = reported_count noted in let m = note_one implicit (opt_text_in [] note) plain in omega arith

  pub both_checked : {in_step : Bool} {a b : Option QuantityView} {w₁ : List ℕ} {h₁ : Held} → QuantityChecked implicit in_step a s b w h w₁ h₁
      → ReferenceChecked implicit in_step note a s old b w₀ h₀ w₁ h₁
  both_checked q =
      record {
        is =
            λ line other i j new d n m e p r o t u.
            unfold reference_checks in
            said (rw (n, e, u)) (reported_seq (reported_as l (k.is line other d.source r o)) (q.is line other i j new.source d m p r t));
      }
