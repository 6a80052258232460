-- The page of a failed recipe: the lines of the parser's findings, all of them and in their order.
use Rattle.std.specs.Prelude.{None, Option, Some}
use Prim.Native.Nat.{ℕ, suc, ◌+◌, ◌-◌, ◌≤◌, ◌<◌}
use mathlib.Core.Path.{◌≡◌, refl, ap, sym, ◌∙◌}
use mathlib.Core.Bool.{Bool, true, false}
use mathlib.Core.List.{List, [], ◌∷◌, ◌++◌, append_assoc, append-nil}
use native.Mathlib.Omega.{arith}
use lib.ListN.{length, take, drop}
use Rattle.rules.specs.Input.{Context}
use Rattle.rules.specs.Basic.{pick}
use Rattle.rules.specs.Utf8.{is_utf8}
use Rattle.rules.specs.Words as words
use Rattle.rules.specs.Event.{Between, meta_event, section_event, start_event, Event, between, inside, parser_event}
use Rattle.rules.specs.Finding.{Finding, parsed, only_parsed}
use Rattle.rules.specs.Read.{parse_line}
use Rattle.rules.specs.State.{State, first_state, report, over_limits, Step, next, stop, Walk, going, failed, refused, Outcome, no_recipe}
use Rattle.rules.specs.Pass.{is_open, parser_findings, is_error_event, settle, on_between, on_event, step, walk, ended, unless_over, finish, parse_events}
use Rattle.rules.specs.Page.{lines_onto, table_lines, finding_line}
use Rattle.rules.specs.Answer.{events, events_or, read_sheet}
use Rattle.rules.proofs.Basics.{pick_either}
use Rattle.rules.proofs.Walks.{stays_refused, step_settles, step_fails}
use Rattle.sheet.specs.Lines.{LineAt}
use Rattle.events.specs.declared.Between.{Between as BetweenView}
use Rattle.events.specs.declared.Inside.{Inside as InsideView}
use Rattle.events.specs.declared.Severity.{Severity}
use Rattle.events.specs.declared.Severity.TheVariants as severity
use Rattle.events.specs.declared.EventView.{EventView}
use Rattle.events.specs.declared.EventView.TheVariants as event
use Rattle.events.specs.Views.{event_in, severity_in}
use Rattle.reading.specs.Answers.{event_as, IfEvent, IfWhole, EventOf, LineOf}
use Rattle.reading.proofs.Lines.{line_made}
use Rattle.reading.proofs.Passes.{Rest, rest_ends, rest_ended, rest_read, rest_event}
use Rattle.output.specs.Put.{Put}
use Rattle.output.proofs.Puts.{Leads, starts, turn, step as leads-step}
use Rattle.finding_lines.specs.Lines.{ParsePut, parsed_line, parsed_lines, EventPut, ParsedPut}
use Rattle.finding_lines.proofs.Texts.{leads_placed}
use Rattle.page_fields.proofs.Tables.{lines_more}
use Rattle.finding_lines.proofs.Asides.{Aside, AsideStep, section_aside, start_aside, inside_aside, meta_parsers}

-- ---- the parser's findings in a walk

abbrev parsed_of : Walk → List Finding
parsed_of (going st) = only_parsed st.findings
parsed_of (failed fs) = fs
parsed_of (refused n l) = []

lines_of : (k : ℕ) (s : words.Severity) (n : ℕ) → finding_line k (parsed s n) ≡ finding_line 0 (parsed s n)
unfolding finding_line
lines_of k s n = refl

-- one event's findings above others
event_lines : (e : Event) (fs : List Finding) → table_lines finding_line (parser_findings e ++ fs) ≡ table_lines finding_line fs ++ parsed_line e
unfolding parser_findings parsed_line
event_lines (between b) fs = sym (append-nil _)
event_lines (inside i) fs = sym (append-nil _)
event_lines (parser_event s n) fs = lines_more finding_line (parsed s n) fs ∙ ap (λ (l : List ℕ). table_lines finding_line fs ++ l) (lines_of (length fs) s n)

pub next_inj : {a b : State} → next a ≡ next b → a ≡ b
next_inj e = cc

pub stop_next : {P : Type 0} {n : ℕ} {a : State} → stop n ≡ next a → P
stop_next e = absurd (let z : ◌≡◌ {A = ℕ} 0 1 = cc in omega arith)

pub aside_next : {st a : State} (s : Step) → AsideStep st s → s ≡ next a → Aside st a
aside_next {st} {a} (next b) p e = rw (next_inj e) at p
aside_next (stop n) p e = stop_next e

module _ (cx : Context) where
  between_parsers : (b : Between) (st : State) → only_parsed (on_between cx b st).findings ≡ only_parsed st.findings
  unfolding on_between
  between_parsers (meta_event k v) st = meta_parsers cx.flags k v st
  between_parsers (section_event n) st = (section_aside n st).parsers
  between_parsers (start_event k) st = (start_aside k st).parsers

  -- an event adds its own
  pub event_parsers : (e : Event) (st a : State) → on_event cx e st ≡ next a → only_parsed a.findings ≡ parser_findings e ++ only_parsed st.findings
  unfolding on_event parser_findings
  event_parsers (between b) st a q =
      pick_either (λ (s : Step). s ≡ next a → only_parsed a.findings ≡ only_parsed st.findings) (is_open st.place.block) _ _ (λ _ e. stop_next e)
      (λ _ e. ap (λ (x : State). only_parsed x.findings) (sym (next_inj e)) ∙ between_parsers b st) q
  event_parsers (inside i) st a q = (aside_next _ (inside_aside cx i st.place.block st) q).parsers
  event_parsers (parser_event s n) st a q = unfold report only_parsed in ap (λ (x : State). only_parsed x.findings) (sym (next_inj q))

  refused_failed : {P : Type 0} (line n l : ℕ) (es : List Event) (fs : List Finding) → walk cx line (refused n l) es ≡ failed fs → P
  refused_failed line n l es fs q = absurd (let h = sym (stays_refused cx line n l es) ∙ q in let z : ◌≡◌ {A = ℕ} 0 1 = cc in omega arith)

  abbrev Done : List Event → ℕ → Walk → Type 0
  Done es line w = (fs : List Finding) → walk cx line w es ≡ failed fs → table_lines finding_line fs ≡ table_lines finding_line (parsed_of w) ++ parsed_lines es

  -- a walk that has the event's findings
  walk_more : (e : Event) (es : List Event) (line : ℕ) (fs : List Finding) (w : Walk) → parsed_of w ≡ parser_findings e ++ fs → Done es line w
      → (gs : List Finding) → walk cx line w es ≡ failed gs → table_lines finding_line gs ≡ table_lines finding_line fs ++ parsed_lines (e ∷ es)
  unfolding parsed_lines
  walk_more e es line fs w p d gs q =
      d gs q
      ∙ (ap (λ (l : List Finding). table_lines finding_line l ++ parsed_lines es) p
      ∙ (ap (λ (l : List ℕ). l ++ parsed_lines es) (event_lines e fs) ∙ append_assoc (table_lines finding_line fs) (parsed_line e) (parsed_lines es)))

  settled_more : (e : Event) (es : List Event) (line : ℕ) (st : State) → ((w : Walk) → Done es (suc line) w) → (s : Step) → on_event cx e st ≡ s
      → (gs : List Finding) → walk cx (suc line) (settle line s) es ≡ failed gs → table_lines finding_line gs ≡ table_lines finding_line (only_parsed st.findings) ++ parsed_lines (e ∷ es)
  unfolding settle
  settled_more e es line st ih (stop n) k gs q = refused_failed (suc line) n line es gs q
  settled_more e es line st ih (next a) k gs q =
      pick_either (λ (w : Walk). walk cx (suc line) w es ≡ failed gs → table_lines finding_line gs ≡ table_lines finding_line (only_parsed st.findings) ++ parsed_lines (e ∷ es))
      (over_limits a) _ _ (λ _ p. refused_failed (suc line) 17 line es gs p)
      (λ _ p. walk_more e es (suc line) (only_parsed st.findings) (going a) (event_parsers e st a k) (ih (going a)) gs p) q

  going_more : (e : Event) (es : List Event) (line : ℕ) (st : State) → ((w : Walk) → Done es (suc line) w) → (t : Bool) → is_error_event e ≡ t
      → (gs : List Finding) → walk cx (suc line) (step cx line e (going st)) es ≡ failed gs → table_lines finding_line gs ≡ table_lines finding_line (only_parsed st.findings) ++ parsed_lines (e ∷ es)
  going_more e es line st ih true k gs q =
      walk_more e es (suc line) (only_parsed st.findings) (failed (parser_findings e ++ only_parsed st.findings)) refl (ih _) gs (rw (step_fails cx line e st k) at q)
  going_more e es line st ih false k gs q = settled_more e es line st ih (on_event cx e st) refl gs (rw (step_settles cx line e st k) at q)

  walk_failed : (es : List Event) (line : ℕ) (w : Walk) → Done es line w
  walk_failed [] line w fs q = unfold walk parsed_lines in sym (append-nil _ ∙ ap (λ (x : Walk). table_lines finding_line (parsed_of x)) q)
  walk_failed (e ∷ es) line (refused n l) fs q = refused_failed line n l (e ∷ es) fs q
  walk_failed (e ∷ es) line (failed gs) fs q = walk_more e es (suc line) gs (failed (parser_findings e ++ gs)) refl (walk_failed es (suc line) _) fs (unfold walk step in q)
  walk_failed (e ∷ es) line (going st) fs q = going_more e es line st (λ w. walk_failed es (suc line) w) (is_error_event e) refl fs (unfold walk in q)

  over_failed : {P : Type 0} (st : State) (fs : List Finding) → unless_over st ≡ no_recipe fs → P
  unfolding unless_over
  over_failed {P} st fs q =
      pick_either (λ (o : Outcome). o ≡ no_recipe fs → P) (over_limits st) _ _ (λ _ e. absurd (let z : ◌≡◌ {A = ℕ} 0 1 = cc in omega arith)) (λ _ e. absurd (let z : ◌≡◌ {A = ℕ} 0 1 = cc in omega arith)) q

  finish_failed : (w : Walk) (fs : List Finding) → finish w ≡ no_recipe fs → w ≡ failed fs
  unfolding finish
  finish_failed (going st) fs q =
      pick_either (λ (o : Outcome). o ≡ no_recipe fs → going st ≡ failed fs) (is_open st.place.block) _ _ (λ _ e. absurd (let z : ◌≡◌ {A = ℕ} 0 1 = cc in omega arith)) (λ _ e. over_failed (ended st) fs e) q
  finish_failed (failed gs) fs q = cc
  finish_failed (refused n l) fs q = absurd (let z : ◌≡◌ {A = ℕ} 0 1 = cc in omega arith)

  -- the findings of a failed recipe are those of the parser's lines
  pub failed_lines : (es : List Event) (fs : List Finding) → parse_events cx es ≡ no_recipe fs → table_lines finding_line fs ≡ parsed_lines es
  failed_lines es fs q =
      walk_failed es 1 (going first_state) fs (finish_failed _ fs (unfold parse_events in q)) ∙ unfold first_state only_parsed table_lines lines_onto in refl

-- ---- one event of the sheet

pub severe_yes : {s : Severity} → s ≡ severity.Severe → pick true words.severe words.mild ≡ severity_in s
unfolding severity_in
severe_yes e = rw e

pub severe_no : {s : Severity} → (s ≡ severity.Severe → ⊥) → pick false words.severe words.mild ≡ severity_in s
unfolding severity_in
severe_no {s = severity.Severe} n = absurd (n refl)
severe_no {s = severity.Mild} n = refl

module _ {v : EventView} {o₀ o : List ℕ} {at r : ℕ} where
  pub event_between : {b : BetweenView} → v ≡ event.Between b → Put [] o₀ at o r → EventPut v o₀ at o r
  unfolding parsed_line event_in
  event_between e p = record { is = λ line. rw e p }

  pub event_inside : {i : InsideView} → v ≡ event.Inside i → Put [] o₀ at o r → EventPut v o₀ at o r
  unfolding parsed_line event_in
  event_inside e p = record { is = λ line. rw e p }

  pub event_finding : {s : Severity} {n : ℕ} {x : words.Severity} → v ≡ event.Finding s n → x ≡ severity_in s → ParsePut x n o₀ at o r → EventPut v o₀ at o r
  unfolding parsed_line event_in
  event_finding e g p = record { is = λ line. rw e (rw g at (p.is 0)) }

lines_first : (e : Event) (es : List Event) → parsed_lines (e ∷ es) ≡ parsed_line e ++ parsed_lines es
unfolding parsed_lines
lines_first e es = refl

-- ---- the sheet: what is left to write, from a line on

pub record Writing (text bytes o₀ : List ℕ) (at : ℕ) (o : List ℕ) (m from : ℕ) : Type 0 where
  pub number : ℕ
  pub others : List Event
  pub rest : Rest text bytes from number others
  pub put : Leads (parsed_lines (events_or (read_sheet text bytes))) o₀ at (parsed_lines others) o m

pub write_starts : {text bytes : List ℕ} (o : List ℕ) (at : ℕ) → read_sheet text bytes ≡ events (events_or (read_sheet text bytes)) → Writing text bytes o at o at 0
write_starts {text} {bytes} o at q = record { number = 1; others = events_or (read_sheet text bytes); rest = record { is = unfold read_sheet in q }; put = starts }

-- a line of a sheet that was read is UTF-8
module _ {text bytes : List ℕ} {from number : ℕ} {es : List Event} (w : Rest text bytes from number es) {r : Option ℕ} (l : LineAt bytes from r) {end : ℕ} (q : r ≡ Some end) where
  pub line_known : {a : Option EventView} → EventOf (take (end - from) (drop from bytes)) a → LineOf (take (end - from) (drop from bytes)) a
  unfolding parse_line
  line_known {a} p = go (is_utf8 (take (end - from) (drop from bytes))) refl
    where
      go : (t : Bool) → is_utf8 (take (end - from) (drop from bytes)) ≡ t → LineOf (take (end - from) (drop from bytes)) a
      go true e = line_made (rw e p.is) p.within p.whole
      go false e =
          let z : LineOf (take (end - from) (drop from bytes)) None = line_made (unfold event_as in rw e) (unfold IfEvent in tt) (unfold IfWhole in tt) in
          rest_read w l q z refl

module _ {text bytes o₀ : List ℕ} {at : ℕ} {o : List ℕ} {m from : ℕ} (w : Writing text bytes o₀ at o m from) where
  pub write_ends : {r : ℕ} → length bytes ≤ from → Put [] o m o r → ParsedPut text bytes o₀ at o r
  write_ends h p = record { is = leads_placed (turn (ap parsed_lines (rest_ends w.rest h) ∙ unfold parsed_lines in refl) w.put) p }

  module _ {r : Option ℕ} (l : LineAt bytes from r) where
    pub write_cut : {P : Type 0} → from < length bytes → r ≡ None → P
    write_cut h q = rest_ended w.rest l h q

    module _ {end : ℕ} (q : r ≡ Some end) {a : Option EventView} (p : EventOf (take (end - from) (drop from bytes)) a) where
      pub write_ill : {P : Type 0} → a ≡ None → P
      write_ill k = rest_read w.rest l q (line_known w.rest l q p) k

      pub write_on : {v : EventView} {o' : List ℕ} {m' : ℕ} → a ≡ Some v → EventPut v o m o' m' → Writing text bytes o₀ at o' m' (end + 1)
      write_on {v} k t =
          let f = rest_event w.rest l q (line_known w.rest l q p) k in
          record {
            number = w.number + 1;
            others = f.others;
            rest = record { is = f.next };
            put = leads-step (parsed_lines f.others) (turn (ap parsed_lines f.is ∙ lines_first _ f.others) w.put) (t.is (take (end - from) (drop from bytes)));
          }
