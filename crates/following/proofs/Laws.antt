-- The laws of what is drawn: at the start, line by line, at the end.
use Prim.Native.Nat.{ℕ, zero, suc, ◌+◌, ◌/◌, ◌≤◌}
use mathlib.Core.Path.{◌≡◌, refl, sym, ap, ◌∙◌}
use mathlib.Core.List.{List, [], ◌∷◌, ◌++◌, reverse, reverse_aux, append-nil, append_assoc}
use mathlib.Core.Bool.{false}
use Rattle.std.specs.Prelude.{Option}
use native.Mathlib.Omega.{arith}
use lib.Dec.{ltb}
use borrow.Author.Tests.{ltb-true}
use lib.ListN.{length, length-reverse_aux}
use native.Mathlib.Nat.{add_comm}
use Rattle.rules.specs.Input.{Context}
use Rattle.rules.specs.Basic.{pick, codes, comma, is_empty, is_some, join_by, each, digits, decimal}
use Rattle.rules.specs.Sheet.{escape, escape_char, line_of}
use Rattle.rules.specs.Words.{DefineMode, DuplicateMode}
use Rattle.rules.specs.Event.{Span, Event}
use Rattle.rules.specs.Finding.{Finding, diag, is_error}
use Rattle.rules.specs.Model.{Block}
use Rattle.rules.specs.Modes.{first_modes}
use Rattle.rules.specs.Metadata.{old_metadata}
use Rattle.rules.specs.State as state
use Rattle.rules.specs.State.{State, first_state, Metadata, Kept, Tables, no_block, step_open, text_open, text_mode_open, set_kept, report, next}
use Rattle.rules.specs.Pass.{is_open, is_empty_section, close_section, on_event, ended}
use Rattle.rules.specs.Page.{lines_onto, table_lines, section_lines, timer_line, inline_line, finding_line, span_word}
use Rattle.rules.proofs.Basics.{pick_either, no_truth}
use Rattle.rules.proofs.Fields.{char_past}
use Rattle.following.specs.declared.Part.{Part}
use Rattle.following.specs.declared.Part.TheVariants.{Sections, Timers, Inline, Old}
use Rattle.following.specs.declared.Follow.{Follow}
use Rattle.following.specs.Drawn.{define_in, kind_of, keeps, open_drawn, is_shown, sections_drawn, old_drawn, drawn, old_line, follow_of, first_follow, quantities_added, added, appended}
use Rattle.following.specs.Follow.{Follows, next_follow, with_inline}
use Rattle.following.proofs.Lists.{table_more}
use Rattle.following.proofs.Grows.{made}
use Rattle.following.proofs.Betweens.{sections_closed, line_grows}

-- ---- at the start

pub drawn_first : (p : Part) → drawn p first_state ≡ []
unfolding drawn sections_drawn old_drawn is_shown keeps kind_of open_drawn first_state first_modes table_lines lines_onto is_some is_empty join_by each
drawn_first Sections = refl
drawn_first Timers = refl
drawn_first Inline = refl
drawn_first Old = refl

pub follows_first : Follows first_state first_follow
unfolding follow_of first_follow first_state first_modes define_in kind_of is_shown keeps is_some is_empty
follows_first = record { is = refl }

-- ---- line by line

module _ (cx : Context) where
  pub drawn_next : (p : Part) (e : Event) (st st' : State) → on_event cx e st ≡ next st' → drawn p st' ≡ drawn p st ++ appended cx.text cx.units cx.flags p e st
  unfolding drawn appended added
  drawn_next Sections e st st' q = (line_grows cx e st st' q).sections_is
  drawn_next Timers e st st' q = (line_grows cx e st st' q).timers_is
  drawn_next Inline e st st' q = (line_grows cx e st st' q).inline_is
  drawn_next Old e st st' q = (line_grows cx e st st' q).old_is

  -- the same, as the small state tells it
  pub drawn_added : (p : Part) (e : Event) {st : State} (st' : State) {f : Follow} → on_event cx e st ≡ next st' → Follows st f → drawn p st' ≡ drawn p st ++ added cx.text cx.units cx.flags p e f
  unfolding appended
  drawn_added p e {st} st' q g = drawn_next p e st st' q ∙ ap (λ (x : Follow). drawn p st ++ added cx.text cx.units cx.flags p e x) (sym g.is)

  pub follows_next : (e : Event) {st : State} (st' : State) {f r : Follow} (n : ℕ) → on_event cx e st ≡ next st' → Follows st f
      → length st'.tables.inline ≡ n → r ≡ with_inline n (next_follow cx.flags e f) → Follows st' r
  follows_next e {st} st' {f} {r} n q g l w =
      record {
        is =
            w ∙ (ap (λ (x : Follow). with_inline n (next_follow cx.flags e x)) g.is
            ∙ (ap (λ (x : ℕ). with_inline x (next_follow cx.flags e (follow_of st))) (sym l) ∙ sym (line_grows cx e st st' q).follow));
      }

  -- how many inline quantities there are then
  pub inline_next : (e : Event) {st : State} (st' : State) {f : Follow} → on_event cx e st ≡ next st' → Follows st f
      → length st'.tables.inline ≡ f.inline + length (quantities_added cx.units cx.flags e f)
  unfolding follow_of
  inline_next e {st} st' {f} q g =
      ap length (line_grows cx e st st' q).table_is
      ∙ (length-reverse_aux (quantities_added cx.units cx.flags e (follow_of st)) st.tables.inline
      ∙ (add_comm (length (quantities_added cx.units cx.flags e (follow_of st))) (length st.tables.inline)
      ∙ ap (λ (x : Follow). x.inline + length (quantities_added cx.units cx.flags e x)) (sym g.is)))

-- ---- at the end

sections_shut : (m : DefineMode) (d : DuplicateMode) (md : Metadata) (name : Option (List ℕ)) (content : List Block) (n : ℕ) (o : state.Open) (k : Kept) (t : Tables) (fs : List Finding) → is_open o ≡ false
    → sections_drawn (made m d md name content n o k t fs) ≡ table_lines section_lines (close_section (made m d md name content n o k t fs)).kept.sections
unfolding is_open
sections_shut m d md name content n no_block k t fs z = sections_closed m d md name content n k t fs
sections_shut m d md name content n (step_open is) k t fs z = no_truth (sym z)
sections_shut m d md name content n (text_open ts) k t fs z = no_truth (sym z)
sections_shut m d md name content n (text_mode_open ts) k t fs z = no_truth (sym z)

-- what the closing of a section leaves
close_tables : (st : State) → (close_section st).tables ≡ st.tables
unfolding close_section set_kept
close_tables st = pick_either (λ (x : State). x.tables ≡ st.tables) (is_empty_section st.place.section) _ _ (λ b. refl) (λ b. refl)

close_metadata : (st : State) → (close_section st).metadata ≡ st.metadata
unfolding close_section set_kept
close_metadata st = pick_either (λ (x : State). x.metadata ≡ st.metadata) (is_empty_section st.place.section) _ _ (λ b. refl) (λ b. refl)

close_findings : (st : State) → (close_section st).findings ≡ st.findings
unfolding close_section set_kept
close_findings st = pick_either (λ (x : State). x.findings ≡ st.findings) (is_empty_section st.place.section) _ _ (λ b. refl) (λ b. refl)

module _ (st : State) where
  pub sections_end : is_open st.place.block ≡ false → drawn Sections st ≡ table_lines section_lines (ended st).kept.sections
  unfolding drawn ended report
  sections_end z =
      sections_shut st.modes.define st.modes.duplicate st.metadata st.place.section.name st.place.section.content st.place.step_counter
      st.place.block st.kept st.tables st.findings z

  pub timers_end : drawn Timers st ≡ table_lines timer_line (ended st).tables.timers
  unfolding drawn ended report
  timers_end = ap (λ (t : Tables). table_lines timer_line t.timers) (sym (close_tables st))

  pub inline_end : drawn Inline st ≡ table_lines inline_line (ended st).tables.inline
  unfolding drawn ended report
  inline_end = ap (λ (t : Tables). table_lines inline_line t.inline) (sym (close_tables st))

-- ---- finding 3

-- a number, a comma or a minus is not escaped
data Plain : List ℕ → Type 0 where
  plain_none : Plain []
  plain_more : {c : ℕ} {s : List ℕ} → 44 ≤ c → c ≤ 57 → Plain s → Plain (c ∷ s)

plain_both : {s t : List ℕ} → Plain s → Plain t → Plain (s ++ t)
plain_both plain_none h = h
plain_both (plain_more a b g) h = plain_more a b (plain_both g h)

plain_escape : {s : List ℕ} → Plain s → escape s ≡ s
unfolding escape
plain_escape plain_none = refl
plain_escape (plain_more {c} {s} a b g) = rw (char_past c (omega arith) (λ q. omega arith), plain_escape g)

plain_digits : (k n : ℕ) → Plain (digits k n)
unfolding digits
plain_digits zero n = plain_none
plain_digits (suc k) n =
    pick_either Plain (ltb n 10) _ _ (λ b. let h = ltb-true n 10 b in plain_more (omega arith) (omega arith) plain_none)
    (λ b. plain_both (plain_digits k (n / 10)) (plain_more (omega arith) (omega arith) plain_none))

plain_span : (s : Span) → Plain (span_word s)
unfolding span_word decimal
plain_span s = plain_both (plain_digits 10 s.start) (plain_more (omega arith) (omega arith) (plain_digits 10 s.end))

plain_spans : (ss : List Span) → Plain (join_by comma (each span_word ss))
unfolding join_by each
plain_spans [] = plain_none
plain_spans (s ∷ []) = plain_span s
plain_spans (s ∷ t ∷ ss) = plain_both (plain_span s) (plain_more (omega arith) (omega arith) (plain_spans (t ∷ ss)))

spans_line : (x : List ℕ) → escape x ≡ x → line_of (codes "diag" ∷ codes "W" ∷ codes "3" ∷ x ∷ codes "-" ∷ []) ≡ old_line x
unfolding line_of join_by each escape escape_char old_line
spans_line x q =
    ap (λ (y : List ℕ). 100 ∷ 105 ∷ 97 ∷ 103 ∷ 9 ∷ 87 ∷ 9 ∷ 51 ∷ 9 ∷ y)
    (append_assoc (escape x) (9 ∷ 45 ∷ []) (10 ∷ []) ∙ ap (λ (z : List ℕ). z ++ (9 ∷ 45 ∷ 10 ∷ [])) q)

old_line_lem : (k : ℕ) (ss : List Span) → finding_line k (diag 3 ss false) ≡ old_line (join_by comma (each span_word ss))
unfolding finding_line is_error decimal digits
old_line_lem k ss = spans_line (join_by comma (each span_word ss)) (plain_escape (plain_spans ss))

more_findings : (old : List Span) (fs : List Finding)
    → table_lines finding_line (reverse_aux (old_metadata old) fs) ≡ table_lines finding_line fs ++ pick (is_empty old) [] (old_line (join_by comma (each span_word (reverse old))))
unfolding old_metadata is_empty
more_findings [] fs = sym (append-nil (table_lines finding_line fs))
more_findings (s ∷ ss) fs =
    table_more finding_line (diag 3 (reverse (s ∷ ss)) false) fs
    ∙ ap (λ (x : List ℕ). table_lines finding_line fs ++ x) (old_line_lem (length fs) (reverse (s ∷ ss)))

-- the findings of the page: those of the pass, and 3 where some line counted for it
pub findings_end : (st : State) → table_lines finding_line (ended st).findings ≡ table_lines finding_line st.findings ++ pick (is_empty st.metadata.old) [] (old_line (drawn Old st))
unfolding ended report drawn old_drawn
findings_end st =
    ap (λ (fs : List Finding). table_lines finding_line (reverse_aux (old_metadata st.metadata.old) fs)) (close_findings st)
    ∙ more_findings st.metadata.old st.findings

-- what else the page has of the state at the end
pub ended_tables : (st : State) → (ended st).tables ≡ st.tables
unfolding ended report
ended_tables st = close_tables st

pub ended_metadata : (st : State) → (ended st).metadata ≡ st.metadata
unfolding ended report
ended_metadata st = close_metadata st
