-- The bytes of what a line becomes.
use Prim.Native.Nat.{ℕ, ◌+◌, ◌-◌, ◌≤◌, ◌<◌}
use mathlib.Core.Path.{◌≡◌, sym, subst}
use mathlib.Core.List.{List, [], ◌∷◌, ◌++◌, append-nil}
use mathlib.Core.Bool.{true}
use native.Mathlib.Omega.{arith}
use lib.ListN.{length, take, drop, length-drop}
use lib.Seq.{length-take-le}
use Rattle.rules.specs.Basic.{lf}
use Rattle.rules.specs.Words.{text_kind}
use Rattle.rules.specs.Event.{Event, start_event, end_event, text_event, component_event, between, inside}
use Rattle.rules.specs.Write.{write_line}
use Rattle.rules.specs.Plain.{sheet_of}
use Rattle.rules.specs.Answer.{is_good_span}
use Rattle.rules.proofs.Parsed.{parse_writes}
use Rattle.output.specs.Put.{Put}
use Rattle.output.proofs.Puts.{starts, ends_in, put_most, put_past, put_rest}
use Rattle.output.proofs.Texts.{text_is}
use Rattle.parts.specs.Views.{span_in}
use Rattle.parts.specs.declared.Span.{Span}
use Rattle.components.specs.Views.{component_in}
use Rattle.components.specs.declared.ComponentView.{ComponentView}
use Rattle.model.specs.Kinds.{kind_of}
use Rattle.model.specs.declared.Kind.{Kind}
use Rattle.known_events.specs.Fields.{ComponentFields}
use Rattle.plain_lines.specs.Lines.{source_at, marked_as}
use Rattle.plain_walk.specs.Becomes.{plain_as, PlainFit, PlainWritten}
use Rattle.plain_walk.specs.declared.Plain.{Plain}
use Rattle.plain_walk.specs.declared.Plain.TheVariants.{Dropped, Copied, StartText, EndText, Source, Marked}

sheet_one : (e : Event) → sheet_of (e ∷ []) ≡ write_line e
unfolding sheet_of
sheet_one e = append-nil (write_line e)

-- one line
one_line : (e : Event) {o₀ o : List ℕ} {r : ℕ} → Put (write_line e) o₀ 0 o r → Put (sheet_of (e ∷ [])) o₀ 0 o r
one_line e g = text_is (sheet_of (e ∷ [])) (sheet_one e) g

pub put_none : (o : List ℕ) → Put [] o 0 o 0
put_none o = ends_in starts (omega arith)

module _ (text line : List ℕ) {p : Plain} where
  written_as : (y : Plain) {o₀ o : List ℕ} {at r : ℕ} → p ≡ y → PlainWritten text line y o₀ at o r → PlainWritten text line p o₀ at o r
  written_as y {o₀} {o} {at} {r} q g = subst (λ (x : Plain). PlainWritten text line x o₀ at o r) (sym q) g

  pub write_dropped : {o : List ℕ} → p ≡ Dropped → PlainWritten text line p o 0 o 0
  unfolding plain_as sheet_of
  write_dropped {o} q = written_as Dropped q (record { put = λ e k n. put_none o; most = omega arith })

  module _ {o₀ o : List ℕ} {r : ℕ} where
    pub write_copied : p ≡ Copied → Put (line ++ (lf ∷ [])) o₀ 0 o r → PlainWritten text line p o₀ 0 o r
    unfolding plain_as
    write_copied q g = written_as Copied q (record { put = λ e k n. one_line e (text_is (write_line e) (parse_writes line e n k) g); most = put_most g })

    pub write_start : p ≡ StartText → Put (write_line (between (start_event text_kind))) o₀ 0 o r → PlainWritten text line p o₀ 0 o r
    unfolding plain_as
    write_start q g = written_as StartText q (record { put = λ e k n. one_line (between (start_event text_kind)) g; most = put_most g })

    pub write_end : p ≡ EndText → Put (write_line (inside (end_event text_kind))) o₀ 0 o r → PlainWritten text line p o₀ 0 o r
    unfolding plain_as
    write_end q g = written_as EndText q (record { put = λ e k n. one_line (inside (end_event text_kind)) g; most = put_most g })

    pub write_source : (s : Span) → p ≡ Source s → Put (write_line (inside (text_event (source_at text (span_in s))))) o₀ 0 o r → PlainWritten text line p o₀ 0 o r
    unfolding plain_as
    write_source s q g = written_as (Source s) q (record { put = λ e k n. one_line (inside (text_event (source_at text (span_in s)))) g; most = put_most g })

    pub write_marked : (k : Kind) (v : ComponentView) → p ≡ Marked k v → Put (write_line (inside (component_event (marked_as (kind_of k) (component_in line v))))) o₀ 0 o r → PlainWritten text line p o₀ 0 o r
    unfolding plain_as
    write_marked k v q g = written_as (Marked k v) q (record { put = λ e z n. one_line (inside (component_event (marked_as (kind_of k) (component_in line v)))) g; most = put_most g })

  -- ---- what the writers ask

  pub fit_source : (s : Span) → p ≡ Source s → PlainFit text line p → is_good_span text (length text) (span_in s) ≡ true
  unfolding PlainFit
  fit_source s q z = subst (PlainFit text line) q z

  pub fit_marked : (k : Kind) (v : ComponentView) → p ≡ Marked k v → PlainFit text line p → ComponentFields line v
  unfolding PlainFit
  fit_marked k v q z = subst (PlainFit text line) q z

-- ---- at a position

module _ (text line : List ℕ) (p : Plain) (o : List ℕ) (at : ℕ) where
  pub write_past : length o < at → PlainWritten text line p o at o (length o + 1)
  write_past h = record { put = λ e k n. put_past (sheet_of (plain_as text line e p)) o at h; most = omega arith }

module _ {text line : List ℕ} {p : Plain} (o : List ℕ) (at : ℕ) {o' : List ℕ} {n : ℕ} (h : at ≤ length o) (g : PlainWritten text line p (take (length o - at) (drop at o)) 0 o' n) where
  pub rest_most : at + n ≤ length o + 1
  rest_most =
      let d : length (drop at o) ≡ length o - at = length-drop at o in
      let l : length (take (length o - at) (drop at o)) ≡ length o - at = length-take-le (length o - at) (drop at o) (omega arith) in
      let m = g.most in
      omega (arith, l, m, h)

  pub write_rest : PlainWritten text line p o at (take at o ++ (o' ++ drop (length o - at) (drop at o))) (at + n)
  write_rest = record { put = λ e k z. put_rest o at h (g.put e k z); most = rest_most }
