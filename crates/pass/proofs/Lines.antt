-- From what a line's function leaves to the rules' line.
use Prim.Native.Nat.{ℕ, ◌+◌, ◌<◌}
use mathlib.Core.Path.{◌≡◌, refl, sym, ap, ◌∙◌, subst}
use mathlib.Core.List.{List, [], ◌∷◌}
use mathlib.Core.Bool.{Bool, true, false}
use Rattle.std.specs.Prelude.{Option, Result, Ok, Err}
use native.Mathlib.Omega.{arith}
use lib.ListN.{length}
use lib.Seq.{slice}
use Rattle.rules.specs.Basic.{pick}
use Rattle.rules.specs.Event as rules
use Rattle.rules.specs.Units.{read_units, units_or}
use Rattle.rules.specs.Input.{Context, Agrees}
use Rattle.rules.specs.Finding.{parsed}
use Rattle.rules.specs.State as state
use Rattle.rules.specs.State.{State, set_place, set_block, set_kept, report, Step, next}
use Rattle.rules.specs.Pass.{is_empty_section, close_section, on_section, on_component, in_step_block, is_error_event, on_inside, on_between, on_event}
use Rattle.refusals.specs.declared.Reason.{Reason}
use Rattle.refusals.specs.declared.Reason.TheVariants.{InOpenBlock, InNoBlock}
use Rattle.content.specs.Parts.{Field}
use Rattle.parts.specs.Views.{part_of, TextWithin, OptQuantityWithin}
use Rattle.parts.specs.declared.Span.{Span}
use Rattle.parts.specs.declared.TextView.{TextView}
use Rattle.events.specs.Views.{severity_in, between_in, component_event_in, inside_in, event_in, BetweenWithin, ComponentEventWithin, InsideWithin, EventWithin}
use Rattle.sheet.specs.declared.BlockKind.{BlockKind}
use Rattle.events.specs.declared.Severity.{Severity}
use Rattle.events.specs.declared.Severity.TheVariants as severity
use Rattle.events.specs.declared.ComponentEvent.{ComponentEvent}
use Rattle.events.specs.declared.ComponentEvent.TheVariants as component
use Rattle.events.specs.declared.Inside.{Inside}
use Rattle.events.specs.declared.Inside.TheVariants as inside
use Rattle.events.specs.declared.Between.{Between}
use Rattle.events.specs.declared.Between.TheVariants as between
use Rattle.events.specs.declared.EventView.{EventView}
use Rattle.events.specs.declared.EventView.TheVariants as event
use Rattle.known_events.specs.Fields.{TextField, ComponentEventFields, InsideFields, EventFields}
use Rattle.model.specs.Blank.{blank_step}
use Rattle.model.specs.Memory.{open_of, state_of, state_in, Sound}
use Rattle.model.specs.Fits.{AllFit}
use Rattle.model.specs.declared.Open.{Open}
use Rattle.model.specs.declared.Open.TheVariants.{Nothing, Step as StepBlock, Text as TextBlock, TextMode}
use Rattle.model.specs.declared.Held.{Held}
use Rattle.blocks.specs.Lined.{Told, Went, step_in, SoundStep, FitStep, Stepped, start_block, OpenNow, SectionDone, StepEnded, InTextBlock, InTextMode}
use Rattle.blocks.proofs.Lines.{went_told, stepped, stopped}
use Rattle.blocks.proofs.Fitting.{told_fit}
use Rattle.timers.specs.Timed.{TimerDone}
use Rattle.step_texts.specs.Texts.{TextDone}
use Rattle.metadata.specs.Metas.{MetaDone}
use Rattle.component_lines.specs.Lines.{LineHere, Kept, ComponentDone}
use Rattle.pass.specs.Walks.{EventHere, Running, LineDone, InStep, inside_now, InsideDone, BetweenDone, EventDone, ErrorView}
use Rattle.pass.proofs.Rooms.{line_short, room}
use Rattle.parts.specs.declared.QuantityView.{QuantityView}
use Rattle.model.specs.declared.layout.TheConstants.{MOST_FINDINGS}
use Rattle.model.proofs.Writes.{writes_none}

pub line_done : {f : State → Step} {sheet w₀ w : List ℕ} {h₀ : Held} {r : Result Held Reason} → Stepped f w₀ h₀ w r → AllFit sheet w₀ h₀ → LineDone f sheet w₀ h₀ w r
line_done {sheet = sheet} p a = record { is = p.is sheet; sound = p.sound; fit = p.fit sheet a; writes = p.writes }

-- the view by another name
pub here_as : {sheet line : List ℕ} {at end : ℕ} {v : EventView} (u : EventView) → v ≡ u → EventHere sheet line at end v → EventHere sheet line at end u
here_as {sheet} {line} {at} {end} u e z = subst (λ (x : EventView). EventHere sheet line at end x) e z

-- ---- components

module _ {sheet line w : List ℕ} {at end : ℕ} {h : Held} {c : ComponentEvent} (z : EventHere sheet line at end (event.Inside (inside.Component c))) (r : Running sheet w h at) where
  pub component_ready : (d : ComponentEvent) → c ≡ d
      → LineHere sheet at end (rules.inside (rules.component_event (component_event_in (slice at end sheet) d))) × ComponentEventWithin (slice at end sheet) d × ComponentEventFields (slice at end sheet) d × Kept sheet w h
  unfolding event_in inside_in EventWithin InsideWithin EventFields InsideFields
  component_ready d e = (
    subst (λ (x : List ℕ). LineHere sheet at end (rules.inside (rules.component_event (component_event_in x d)))) z.part (rw e at z.here),
    subst (λ (x : List ℕ). ComponentEventWithin x d) z.part (rw e at z.within),
    subst (λ (x : List ℕ). ComponentEventFields x d) z.part (rw e at z.fields),
    r.kept,
  )

  pub timer_ready : (s : Span) (n : Option TextView) (q : Option QuantityView) → c ≡ component.Timer s n q
      → OptQuantityWithin line q × (h.counts.findings + 2 < MOST_FINDINGS) × (h.counts.timers < 100000) × (h.counts.items < 100000)
  unfolding EventWithin InsideWithin ComponentEventWithin
  timer_ready s n q e =
      let b = room z r in
      let y = rw e at z.within in
      (y.2, omega (arith, b.findings), omega (arith, b.timers), omega (arith, b.items))

pub component_done : {units : List ℕ} {flags : ℕ} {sheet line part w₀ w : List ℕ} {c d : ComponentEvent} {h₀ : Held} {r : Result Held Reason} → line ≡ part → c ≡ d → ComponentDone units flags sheet part d w₀ h₀ w r → ComponentDone units flags sheet line c w₀ h₀ w r
component_done p e k = rw (p, e) k

pub timer_done : {units : List ℕ} {flags : ℕ} {sheet line w₀ w : List ℕ} {c : ComponentEvent} {h₀ k : Held} (s : Span) (n : Option TextView) (q : Option QuantityView) → c ≡ component.Timer s n q → AllFit sheet w₀ h₀ → TimerDone (units_or (read_units units)) flags line n q w₀ h₀ w k → ComponentDone units flags sheet line c w₀ h₀ w (Ok k)
unfolding step_in SoundStep FitStep blank_step on_component component_event_in
timer_done {sheet = sheet} s n q e a p = rw e record { at = λ cx x. ap next (rw (x.same_units, x.same_flags) (p.went.is sheet)); sound = p.went.sound; fit = p.went.fit sheet a; writes = p.went.writes }

-- ---- lines in a step

module _ {units : List ℕ} {flags : ℕ} {sheet line w₀ w : List ℕ} {e : Inside} {h₀ : Held} where
  pub step_end : {r : Result Held Reason} (k : BlockKind) → e ≡ inside.End k → AllFit sheet w₀ h₀ → StepEnded k w₀ h₀ w r → InStep units flags sheet line e w₀ h₀ w r
  unfolding inside_in
  step_end k q a p = rw q record { at = λ cx x. line_done (p.at cx) a }

  pub step_text : {k : Held} (v : TextView) → e ≡ inside.Text v → AllFit sheet w₀ h₀ → TextDone (units_or (read_units units)) flags line v w₀ h₀ w k → InStep units flags sheet line e w₀ h₀ w (Ok k)
  unfolding inside_in in_step_block
  step_text v q a p = rw q record { at = λ cx x. line_done (rw (x.same_units, x.same_flags) (stepped p.went)) a }

  pub step_component : {r : Result Held Reason} (c : ComponentEvent) → e ≡ inside.Component c → ComponentDone units flags sheet line c w₀ h₀ w r → InStep units flags sheet line e w₀ h₀ w r
  unfolding inside_in in_step_block
  step_component c q p = rw q record { at = λ cx x. record { is = p.at cx x; sound = p.sound; fit = p.fit; writes = p.writes } }

pub text_ready : {sheet line w : List ℕ} {at end : ℕ} {h : Held} {e : Inside} (v : TextView) → e ≡ inside.Text v → EventHere sheet line at end (event.Inside e) → Running sheet w h at
    → TextWithin line v × Field (part_of line v.content) × (h.counts.findings < MOST_FINDINGS) × (h.counts.items + length line < 100000) × (h.counts.inline + length line < 100000)
unfolding EventWithin InsideWithin EventFields InsideFields TextField
text_ready v q z r =
    let b = room z r in
    let m = line_short z in
    (rw q at z.within, rw q at z.fields, omega (arith, b.findings), omega (arith, b.items, m), omega (arith, b.inline, m))

-- ---- lines in any block

block_now : (sheet w : List ℕ) (h : Held) → (state_in sheet w h).place.block ≡ open_of h.block
unfolding state_in state_of
block_now sheet w h = refl

module _ {units : List ℕ} {flags : ℕ} {sheet line w₀ w : List ℕ} {e : Inside} {h₀ : Held} where
  inside_as : {r : Result Held Reason} (o : Open) → h₀.block ≡ o → ((cx : Context) → Agrees units flags cx → LineDone (λ (st : State). on_inside cx (inside_in line e) (open_of o) st) sheet w₀ h₀ w r) → InsideDone units flags sheet line e w₀ h₀ w r
  unfolding inside_now
  inside_as o q p =
      record {
        at = λ cx x. record {
          is = (p cx x).is ∙ sym (ap (λ (b : state.Open). blank_step (on_inside cx (inside_in line e) b (state_in sheet w₀ h₀))) (block_now sheet w₀ h₀ ∙ ap open_of q));
          sound = (p cx x).sound;
          fit = (p cx x).fit;
          writes = (p cx x).writes;
        };
      }

  pub inside_step : {r : Result Held Reason} → h₀.block ≡ StepBlock → InStep units flags sheet line e w₀ h₀ w r → InsideDone units flags sheet line e w₀ h₀ w r
  unfolding on_inside open_of
  inside_step q p = inside_as StepBlock q p.at

  pub inside_text : {r : Result Held Reason} → h₀.block ≡ TextBlock → AllFit sheet w₀ h₀ → InTextBlock e w₀ h₀ w r → InsideDone units flags sheet line e w₀ h₀ w r
  unfolding on_inside open_of
  inside_text q a p = inside_as TextBlock q (λ cx x. line_done (p.at line) a)

  pub inside_mode : {r : Result Held Reason} → h₀.block ≡ TextMode → AllFit sheet w₀ h₀ → InTextMode e w₀ h₀ w r → InsideDone units flags sheet line e w₀ h₀ w r
  unfolding on_inside open_of
  inside_mode q a p = inside_as TextMode q (λ cx x. line_done (p.at cx.text line) a)

-- 12
pub inside_none : {units : List ℕ} {flags : ℕ} {sheet line w : List ℕ} {e : Inside} {h : Held} → h.block ≡ Nothing → AllFit sheet w h → InsideDone units flags sheet line e w h w (Err InNoBlock)
unfolding on_inside open_of
inside_none q a = inside_as Nothing q (λ cx x. line_done (stopped InNoBlock) a)

-- ---- lines between blocks

section_tables : (n : Option rules.Text) (st : State) → (on_section n st).tables ≡ st.tables
unfolding on_section close_section set_place set_kept
section_tables n st = go (is_empty_section st.place.section)
  where
    go : (b : Bool) → (pick b st (set_kept (record { sections = st.place.section ∷ st.kept.sections; blocks = st.kept.blocks; items = st.kept.items }) st)).tables ≡ st.tables
    go true = refl
    go false = refl

start_tables : (k : BlockKind) (st : State) → (start_block k st).tables ≡ st.tables
unfolding start_block set_block set_place
start_tables k st = refl

module _ {flags : ℕ} {line : List ℕ} {b : Between} {h₀ h : Held} where
  pub between_meta : {w₀ w : List ℕ} (k v : TextView) → b ≡ between.Meta k v → MetaDone flags line k v w₀ h₀ w h → BetweenDone flags line b w₀ h₀ w h
  unfolding on_between between_in
  between_meta k v q p = rw q record { at = λ cx x. rw x p.went }

  pub between_section : {w : List ℕ} (n : Option TextView) → b ≡ between.Section n → Sound w h₀ → SectionDone n h₀ h → BetweenDone flags line b w h₀ w h
  unfolding on_between between_in
  between_section {w} n q z p =
      rw q
      record {
        at = λ cx x. went_told (p.at line) z
            (λ sheet a. told_fit (p.at line) (λ st. ap (λ (x : state.Tables). x.ingredients) (section_tables _ st)) (λ st. ap (λ (x : state.Tables). x.cookware) (section_tables _ st)) sheet w a);
      }

  pub between_start : {w : List ℕ} (k : BlockKind) → b ≡ between.Start k → Sound w h₀ → Told (start_block k) h₀ h → BetweenDone flags line b w h₀ w h
  unfolding on_between between_in start_block
  between_start {w} k q z p =
      rw q
      record {
        at = λ cx x. went_told p z
            (λ sheet a. told_fit p (λ st. ap (λ (x : state.Tables). x.ingredients) (start_tables k st)) (λ st. ap (λ (x : state.Tables). x.cookware) (start_tables k st)) sheet w a);
      }

pub meta_within : {line : List ℕ} {b : Between} (k v : TextView) → b ≡ between.Meta k v → BetweenWithin line b → TextWithin line k × TextWithin line v
unfolding BetweenWithin
meta_within k v q z = rw q at z

-- ---- every line

pub between_ready : {sheet line w : List ℕ} {at end : ℕ} {h : Held} {v : EventView} (b : Between) → v ≡ event.Between b → EventHere sheet line at end v → Running sheet w h at
    → BetweenWithin line b × (h.counts.findings < MOST_FINDINGS) × (h.counts.old < 100000) × (h.counts.sections < 100000)
unfolding EventWithin
between_ready b q z r =
    let m = room z r in
    (rw q at z.within, omega (arith, m.findings), omega (arith, m.old), omega (arith, m.sections))

-- 11
pub event_open : {units : List ℕ} {flags : ℕ} {sheet line w : List ℕ} {v : EventView} {h : Held} {o : Bool} (b : Between) → v ≡ event.Between b → OpenNow h o → o ≡ true → EventDone units flags sheet line v w h w (Err InOpenBlock)
unfolding on_event event_in step_in blank_step SoundStep FitStep
event_open {sheet = sheet} {w = w} b q p t = rw q record { at = λ cx x. record { is = rw (sym (p.is sheet w) ∙ t); sound = tt; fit = tt; writes = writes_none } }

module _ {units : List ℕ} {flags : ℕ} {sheet line w₀ w : List ℕ} {v : EventView} {h₀ : Held} where
  pub event_between : {o : Bool} {k : Held} (b : Between) → v ≡ event.Between b → OpenNow h₀ o → o ≡ false → AllFit sheet w₀ h₀ → BetweenDone flags line b w₀ h₀ w k → EventDone units flags sheet line v w₀ h₀ w (Ok k)
  unfolding on_event event_in step_in blank_step SoundStep FitStep
  event_between b q p t a d = rw q record { at = λ cx x. let g = d.at cx x.same_flags in record { is = rw (sym (p.is sheet w₀) ∙ t) (ap next (g.is sheet)); sound = g.sound; fit = g.fit sheet a; writes = g.writes } }

  pub event_inside : {r : Result Held Reason} (e : Inside) → v ≡ event.Inside e → InsideDone units flags sheet line e w₀ h₀ w r → EventDone units flags sheet line v w₀ h₀ w r
  unfolding on_event event_in inside_now
  event_inside e q p = rw q record { at = λ cx x. let g = p.at cx x in record { is = g.is; sound = g.sound; fit = g.fit; writes = g.writes } }

  pub event_finding : {k : Held} (s : Severity) (n : ℕ) → v ≡ event.Finding s n → AllFit sheet w₀ h₀ → Went (report (parsed (severity_in s) n ∷ [])) w₀ h₀ w k → EventDone units flags sheet line v w₀ h₀ w (Ok k)
  unfolding on_event event_in
  event_finding s n q a p = rw q record { at = λ cx x. line_done (stepped p) a }

-- ---- errors

pub error_not : (v : EventView) → ((n : ℕ) → v ≡ event.Finding severity.Severe n → ⊥) → ErrorView v false
unfolding is_error_event event_in severity_in
error_not (event.Between b) k = record { is = λ line. refl }
error_not (event.Inside e) k = record { is = λ line. refl }
error_not (event.Finding severity.Severe n) k = absurd (k n refl)
error_not (event.Finding severity.Mild n) k = record { is = λ line. refl }

pub error_severe : {v : EventView} (s : Severity) (n : ℕ) → v ≡ event.Finding s n → s ≡ severity.Severe → ErrorView v true
unfolding is_error_event event_in severity_in
error_severe s n q p = rw (q, p) record { is = λ line. refl }
