-- From what the functions on work memory leave to the rules' lines.
use Rattle.std.specs.Prelude.{None, Option, Some, Ok, Err}
use Rattle.std.specs.Option as option
use Prim.Native.Nat.{ℕ, suc, ◌+◌, ◌≤◌}
use mathlib.Core.Path.{◌≡◌, refl, sym, ap, ◌∙◌}
use mathlib.Core.List.{List, [], ◌∷◌}
use mathlib.Core.Bool.{Bool, true, false}
use native.Mathlib.Omega.{arith}
use native.Mathlib.Numerals.{add-one}
use lib.ListN.{length}
use Rattle.rules.specs.Basic.{pick, concat, is_some, each}
use Rattle.rules.specs.Words as words
use Rattle.rules.specs.Event as rules
use Rattle.rules.specs.Finding.{Finding, parsed, found}
use Rattle.rules.specs.Model.{Item, Block, step_block, text_block}
use Rattle.rules.specs.Modes.{is_components, is_text}
use Rattle.rules.specs.State as state
use Rattle.rules.specs.State.{State, set_place, set_block, set_kept, report, no_block, step_open, next, stop}
use Rattle.rules.specs.Pass.{is_open, opened, keep_block, close_text, close_step, push_items, in_step_block, in_text_block, component_in_text, in_text_mode}
use Rattle.parts.specs.Views.{span_in, opt_text_in}
use Rattle.parts.specs.declared.Span.{Span}
use Rattle.parts.specs.declared.TextView.{TextView}
use Rattle.events.specs.Views.{severity_in, component_event_in, inside_in}
use Rattle.sheet.specs.declared.BlockKind.{BlockKind}
use Rattle.sheet.specs.declared.BlockKind.TheVariants as block
use Rattle.events.specs.declared.Severity.{Severity}
use Rattle.events.specs.declared.Severity.TheVariants as severity
use Rattle.events.specs.declared.ComponentEvent.{ComponentEvent}
use Rattle.events.specs.declared.ComponentEvent.TheVariants as component
use Rattle.components.specs.Views.{component_in}
use Rattle.components.specs.declared.ComponentView.{ComponentView}
use Rattle.events.specs.declared.Inside.{Inside}
use Rattle.events.specs.declared.Inside.TheVariants as inside
use Rattle.model.specs.Blank.{blank, blank_step, blank_place, blank_kept, blank_open, blank_block}
use Rattle.model.specs.Rows.{finding_of, block_of}
use Rattle.model.specs.Memory.{open_of, state_of, state_in, Sound}
use Rattle.model.specs.Fits.{AllFit}
use Rattle.model.specs.Small.{with_block, with_items}
use Rattle.model.specs.declared.Open.{Open}
use Rattle.model.specs.declared.Open.TheVariants.{Nothing, Step as StepBlock, Text as TextBlock, TextMode}
use Rattle.model.specs.declared.Noted.{Noted}
use Rattle.model.specs.declared.Held.{Held}
use Rattle.model.proofs.Blanks.{blank_report}
use Rattle.model.proofs.Writes.{writes_none, writes_on}
use Rattle.memory.specs.Pushes.{FindingPushed, BlockKept, SectionBegun, is_open_block}
use Rattle.memory.proofs.Smalls.{state_blank, with_block_lem}
use Rattle.memory.proofs.Endings.{open_as}
use Rattle.memory.proofs.Bounds.{sound_block, sound_items, fit_counts}
use Rattle.memory.proofs.Writes.{finding_writes, block_writes}
use Rattle.refusals.specs.declared.Reason.{Reason}
use Rattle.refusals.specs.declared.Reason.TheVariants.{OtherEnd, ComponentInText as in_text}
use Rattle.refusals.specs.Told.{number_of}
use Rattle.blocks.specs.Lined.{Told, Went, step_in, SoundStep, FitStep, Stepped, start_block, OpenNow, SectionDone, ItemsPushed, SpanOf, InTextBlock, InTextMode, kind_open, StepEnded, ComponentInText}
use Rattle.parts.specs.declared.QuantityView.{QuantityView}
use Rattle.components.specs.declared.Intermediate.{Intermediate}
use Rattle.sheet.specs.Words.{block_in, define_of}

-- ---- another open block

blank_block_lem : (b : state.Open) (st : State) → blank (set_block b st) ≡ set_block (blank_open b) (blank st)
unfolding set_block set_place blank blank_place
blank_block_lem b st = refl

pub block_is : (sheet w : List ℕ) (h : Held) (b : Open) (o : state.Open) → blank_open o ≡ open_of b → state_in sheet w (with_block b h) ≡ blank (set_block o (state_in sheet w h))
block_is sheet w h b o q =
    with_block_lem sheet w h b
    ∙ sym (blank_block_lem o (state_in sheet w h) ∙ (ap (λ (x : state.Open). set_block x (blank (state_in sheet w h))) q ∙ ap (set_block (open_of b)) (state_blank sheet w h)))

define_of_lem : (sheet w : List ℕ) (h : Held) → (state_in sheet w h).modes.define ≡ define_of h.define
unfolding state_in state_of
define_of_lem sheet w h = refl

opened_text : (m : words.DefineMode) (k : words.BlockKind) → is_text m ≡ true → blank_open (opened m k) ≡ open_of TextMode
unfolding opened blank_open open_of
opened_text m words.step_kind e = rw e
opened_text m words.text_kind e = rw e

opened_plain : (m : words.DefineMode) (k : BlockKind) → is_text m ≡ false → blank_open (opened m (block_in k)) ≡ open_of (kind_open k)
unfolding opened blank_open open_of block_in kind_open
opened_plain m block.Step e = rw e
opened_plain m block.Text e = rw e

module _ {h r : Held} (k : BlockKind) {b : Bool} (e : b ≡ is_text (define_of h.define)) where
  pub start_text : b ≡ true → r ≡ with_block TextMode h → Told (start_block k) h r
  unfolding start_block
  start_text t q =
      rw q
      record {
        is = λ sheet w. block_is sheet w h TextMode _ (rw (define_of_lem sheet w h) (opened_text _ (block_in k) (sym e ∙ t)));
        sound = λ w z. sound_block z TextMode;
      }

  pub start_plain : b ≡ false → {o : Open} → o ≡ kind_open k → r ≡ with_block o h → Told (start_block k) h r
  unfolding start_block
  start_plain t {o} p q =
      rw (q, p)
      record {
        is = λ sheet w. block_is sheet w h (kind_open k) _ (rw (define_of_lem sheet w h) (opened_plain _ k (sym e ∙ t)));
        sound = λ w z. sound_block z (kind_open k);
      }

pub kind_step : {k : BlockKind} → k ≡ block.Step → StepBlock ≡ kind_open k
unfolding kind_open
kind_step e = rw e

pub kind_text : {k : BlockKind} → k ≡ block.Text → TextBlock ≡ kind_open k
unfolding kind_open
kind_text e = rw e

-- ---- whether a block is open, and sections

open_now : (sheet w : List ℕ) (h : Held) → (state_in sheet w h).place.block ≡ open_of h.block
unfolding state_in state_of
open_now sheet w h = refl

pub open_is : {h : Held} {r : Bool} → r ≡ is_open_block h.block → OpenNow h r
open_is {h} e = record { is = λ sheet w. e ∙ sym (ap is_open (open_now sheet w h) ∙ open_as h.block) }

section_as : {h r : Held} (n : Option TextView) {b : Bool} → SectionBegun h b r → ((line : List ℕ) → is_some (opt_text_in line n) ≡ b) → SectionDone n h r
section_as n s e = record { at = λ line. record { is = λ sheet w. s.is sheet w (opt_text_in line n) (e line); sound = s.sound } }

pub section_done : {h r : Held} (n : Option TextView) {b : Bool} → b ≡ option.is_some n → SectionBegun h b r → SectionDone n h r
unfolding opt_text_in is_some
section_done None e s = section_as None s (λ line. sym e)
section_done (Some t) e s = section_as (Some t) s (λ line. sym e)

-- ---- findings

pub went_told : {f : State → State} {w : List ℕ} {h₀ h : Held} → Told f h₀ h → Sound w h₀ → ((sheet : List ℕ) → AllFit sheet w h₀ → AllFit sheet w h) → Went f w h₀ w h
went_told {w = w} g z a = record { is = λ sheet. g.is sheet w; sound = g.sound w z; fit = a; writes = writes_none }

-- one finding after what f does
pub went_found : {f : State → State} {w₀ w₁ w : List ℕ} {h₀ h₁ h : Held} {x : Noted} {d : Finding} → Went f w₀ h₀ w₁ h₁ → FindingPushed w₁ h₁ x w h → finding_of x ≡ d → Went (λ st. report (d ∷ []) (f st)) w₀ h₀ w h
went_found {f} {w₀} {w₁} {h₀ = h₀} {h₁ = h₁} {d = d} g p e =
    record {
      is = λ sheet. p.is sheet ∙ (ap (λ (y : Finding). report (y ∷ []) (state_in sheet w₁ h₁)) e ∙ (ap (report (d ∷ [])) (g.is sheet) ∙ sym (blank_report (d ∷ []) (f (state_in sheet w₀ h₀)))));
      sound = p.sound;
      fit = λ sheet a. p.fit sheet (g.fit sheet a);
      writes = writes_on g.writes (finding_writes p);
    }

-- nothing is done
pub went_none : {w : List ℕ} {h : Held} → Sound w h → Went (λ st. st) w h w h
went_none {w} {h} z = record { is = λ sheet. sym (state_blank sheet w h); sound = z; fit = λ sheet a. a; writes = writes_none }

pub found_one : {w₀ w : List ℕ} {h₀ h : Held} {x : Noted} {d : Finding} → Sound w₀ h₀ → FindingPushed w₀ h₀ x w h → finding_of x ≡ d → Went (report (d ∷ [])) w₀ h₀ w h
found_one z p e = went_found (went_none z) p e

pub severe_is : {b : Bool} (s : Severity) → s ≡ severity.Severe → b ≡ true → pick b words.severe words.mild ≡ severity_in s
unfolding severity_in
severe_is s e q = rw (e, q)

pub mild_is : {b : Bool} (s : Severity) → (s ≡ severity.Severe → ⊥) → b ≡ false → pick b words.severe words.mild ≡ severity_in s
unfolding severity_in
mild_is severity.Severe n q = absurd (n refl)
mild_is severity.Mild n q = rw q

pub found_parsed : {x y : words.Severity} (f : Finding) (n : ℕ) → x ≡ y → f ≡ parsed x n → f ≡ parsed y n
found_parsed f n e q = q ∙ ap (λ (z : words.Severity). parsed z n) e

-- ---- items

abbrev items_as : ℕ → State → State
items_as m st = set_block (step_open []) (set_kept (record { sections = st.kept.sections; blocks = st.kept.blocks; items = m }) st)

items_blank : (new : List Item) (st : State) (m : ℕ) → pick (is_components st.modes.define) st.kept.items (length new + st.kept.items) ≡ m → blank (push_items new [] st) ≡ items_as m (blank st)
unfolding push_items set_block set_place set_kept blank blank_place blank_kept blank_open
items_blank new st m e = rw e

items_with : (sheet w : List ℕ) (h : Held) (m : ℕ) → items_as m (state_in sheet w h) ≡ state_in sheet w (with_items m (with_block StepBlock h))
unfolding set_block set_place set_kept state_in state_of open_of
items_with sheet w h m = refl

items_of : (sheet w : List ℕ) (h : Held) → (state_in sheet w h).kept.items ≡ h.counts.items
unfolding state_in state_of
items_of sheet w h = refl

items_is : (sheet w : List ℕ) (h : Held) (new : List Item) (m : ℕ) → pick (is_components (define_of h.define)) h.counts.items (length new + h.counts.items) ≡ m
    → state_in sheet w (with_items m (with_block StepBlock h)) ≡ blank (push_items new [] (state_in sheet w h))
items_is sheet w h new m e =
    sym (items_blank new (state_in sheet w h) m (rw (define_of_lem sheet w h, items_of sheet w h) e) ∙ (ap (items_as m) (state_blank sheet w h) ∙ items_with sheet w h m))

most_items : (b : Bool) (i m k : ℕ) → i ≤ k → m ≤ k → pick b i m ≤ k
most_items true i m k p q = p
most_items false i m k p q = q

pub items_pushed : {h r : Held} {n x : ℕ} → h.counts.items + n ≤ 100000 → x ≡ pick (is_components (define_of h.define)) h.counts.items (h.counts.items + n) → r ≡ with_items x (with_block StepBlock h) → ItemsPushed n h r
items_pushed {h} {r} {n} {x} l e q =
    rw q
    record {
      by = λ new j. record {
        is = λ sheet w. items_is sheet w h new x (ap (pick (is_components (define_of h.define)) h.counts.items) (omega (arith, j)) ∙ sym e);
        sound = λ w z. sound_items (sound_block z StepBlock) x (rw e (most_items (is_components (define_of h.define)) h.counts.items (h.counts.items + n) 100000 (omega (arith, l)) l));
      };
    }

-- ---- blocks closed

blank_keep : (b : Block) (n : ℕ) (st : State) → blank (keep_block b n st) ≡ keep_block (blank_block b) n (blank st)
unfolding keep_block set_kept set_place blank blank_place blank_kept blank_open each
blank_keep b n st = refl

counter_of : (sheet w : List ℕ) (h : Held) → (state_in sheet w h).place.step_counter ≡ h.counts.counter
unfolding state_in state_of
counter_of sheet w h = refl

keep_is : {w₀ w : List ℕ} {h₀ h : Held} {v n : ℕ} → BlockKept w₀ h₀ v n w h → (b : Block) → blank_block b ≡ block_of v → (sheet : List ℕ) → state_in sheet w h ≡ blank (keep_block b n (state_in sheet w₀ h₀))
keep_is {w₀} {h₀ = h₀} {n = n} k b e sheet =
    k.is sheet ∙ sym (blank_keep b n (state_in sheet w₀ h₀) ∙ (ap (λ (x : Block). keep_block x n (blank (state_in sheet w₀ h₀))) e ∙ ap (keep_block _ n) (state_blank sheet w₀ h₀)))

pub text_kept : {w₀ w : List ℕ} {h₀ h : Held} → BlockKept w₀ h₀ 0 h₀.counts.counter w h → Went (close_text []) w₀ h₀ w h
unfolding close_text concat blank_block block_of
text_kept {w₀} {h₀ = h₀} k =
    record {
      is = λ sheet. keep_is k (text_block []) refl sheet ∙ ap (λ (n : ℕ). blank (keep_block (text_block []) n (state_in sheet w₀ h₀))) (sym (counter_of sheet w₀ h₀));
      sound = k.sound;
      fit = k.fit;
      writes = block_writes k;
    }

close_kept : (st : State) → is_components st.modes.define ≡ false → close_step [] st ≡ keep_block (step_block st.place.step_counter []) (suc st.place.step_counter) st
unfolding close_step
close_kept st e = rw e

close_dropped : (st : State) → is_components st.modes.define ≡ true → close_step [] st ≡ set_block no_block st
unfolding close_step
close_dropped st e = rw e

pub components_of : (sheet w : List ℕ) (h : Held) {b t : Bool} → b ≡ is_components (define_of h.define) → b ≡ t → is_components (state_in sheet w h).modes.define ≡ t
components_of sheet w h e t = ap is_components (define_of_lem sheet w h) ∙ (sym e ∙ t)

step_block_lem : (n : ℕ) → blank_block (step_block n []) ≡ block_of 1
unfolding blank_block block_of
step_block_lem n = refl

module _ {w₀ w : List ℕ} {h₀ h : Held} {b : Bool} (e : b ≡ is_components (define_of h₀.define)) where
  step_kept_is : b ≡ false → BlockKept w₀ h₀ 1 (h₀.counts.counter + 1) w h → (sheet : List ℕ) → state_in sheet w h ≡ blank (close_step [] (state_in sheet w₀ h₀))
  step_kept_is t k sheet =
      let n = (state_in sheet w₀ h₀).place.step_counter in
      let q : h₀.counts.counter + 1 ≡ suc n = add-one h₀.counts.counter ∙ ap suc (sym (counter_of sheet w₀ h₀)) in
      let g : state_in sheet w h ≡ blank (keep_block (step_block n []) (suc n) (state_in sheet w₀ h₀)) = keep_is (rw q at k) (step_block n []) (step_block_lem n) sheet in
      g ∙ ap blank (sym (close_kept (state_in sheet w₀ h₀) (components_of sheet w₀ h₀ e t)))

  pub step_kept : b ≡ false → BlockKept w₀ h₀ 1 (h₀.counts.counter + 1) w h → Went (close_step []) w₀ h₀ w h
  step_kept t k = record { is = step_kept_is t k; sound = k.sound; fit = k.fit; writes = block_writes k }

module _ {w : List ℕ} {h₀ h : Held} {b : Bool} (e : b ≡ is_components (define_of h₀.define)) where
  pub step_dropped : b ≡ true → Sound w h₀ → h ≡ with_block Nothing h₀ → Went (close_step []) w h₀ w h
  unfolding blank_open open_of
  step_dropped t z q =
      rw q
      record {
        is = λ sheet. block_is sheet w h₀ Nothing no_block refl ∙ ap blank (sym (close_dropped (state_in sheet w h₀) (components_of sheet w h₀ e t)));
        sound = sound_block z Nothing;
        fit = λ sheet a. fit_counts refl refl a;
        writes = writes_none;
      }

-- ---- lines in a block

pub stepped : {f : State → State} {w₀ w : List ℕ} {h₀ h : Held} → Went f w₀ h₀ w h → Stepped (λ st. next (f st)) w₀ h₀ w (Ok h)
unfolding step_in SoundStep FitStep blank_step
stepped g = record { is = λ sheet. ap next (g.is sheet); sound = g.sound; fit = g.fit; writes = g.writes }

pub stopped : {w : List ℕ} {h₀ : Held} (r : Reason) → Stepped (λ st. stop (number_of r)) w h₀ w (Err r)
unfolding step_in SoundStep FitStep blank_step
stopped r = record { is = λ sheet. refl; sound = tt; fit = λ sheet a. tt; writes = writes_none }

module _ {w₀ : List ℕ} {h₀ : Held} {k : BlockKind} where
  pub step_ended : {w : List ℕ} {h : Held} → k ≡ block.Step → Went (close_step []) w₀ h₀ w h → StepEnded k w₀ h₀ w (Ok h)
  unfolding in_step_block block_in
  step_ended e g = rw e record { at = λ cx. stepped g }

  pub step_refused : k ≡ block.Text → StepEnded k w₀ h₀ w₀ (Err OtherEnd)
  unfolding in_step_block block_in
  step_refused e = rw e record { at = λ cx. stopped OtherEnd }

module _ {w₀ : List ℕ} {h₀ : Held} {e : Inside} where
  pub text_ended : {w : List ℕ} {h : Held} (k : BlockKind) → e ≡ inside.End k → k ≡ block.Text → Went (close_text []) w₀ h₀ w h → InTextBlock e w₀ h₀ w (Ok h)
  unfolding in_text_block inside_in block_in
  text_ended k p q g = rw (p, q) record { at = λ line. stepped g }

  pub text_refused : (k : BlockKind) → e ≡ inside.End k → k ≡ block.Step → InTextBlock e w₀ h₀ w₀ (Err OtherEnd)
  unfolding in_text_block inside_in block_in
  text_refused k p q = rw (p, q) record { at = λ line. stopped OtherEnd }

  pub text_component : (c : ComponentEvent) → e ≡ inside.Component c → InTextBlock e w₀ h₀ w₀ (Err in_text)
  unfolding in_text_block inside_in
  text_component c p = rw p record { at = λ line. stopped in_text }

  pub mode_ended : {w : List ℕ} {h : Held} (k : BlockKind) → e ≡ inside.End k → Went (close_text []) w₀ h₀ w h → InTextMode e w₀ h₀ w (Ok h)
  unfolding in_text_mode inside_in
  mode_ended k p g = rw p record { at = λ text line. stepped g }

  pub mode_component : {w : List ℕ} {h : Held} (c : ComponentEvent) → e ≡ inside.Component c → ComponentInText c w₀ h₀ w h → InTextMode e w₀ h₀ w (Ok h)
  unfolding in_text_mode inside_in
  mode_component c p g = rw p record { at = λ text line. stepped (g.at text line) }

module _ {w : List ℕ} {h₀ h : Held} {e : Inside} (z : Sound w h₀) (t : TextView) (p : e ≡ inside.Text t) where
  pub text_more : h ≡ with_block TextBlock h₀ → InTextBlock e w h₀ w (Ok h)
  unfolding in_text_block inside_in blank_open open_of
  text_more q = rw (p, q) record { at = λ line. stepped (record { is = λ sheet. block_is sheet w h₀ TextBlock _ refl; sound = sound_block z TextBlock; fit = λ sheet a. fit_counts refl refl a; writes = writes_none }) }

  pub mode_more : h ≡ with_block TextMode h₀ → InTextMode e w h₀ w (Ok h)
  unfolding in_text_mode inside_in blank_open open_of
  mode_more q = rw (p, q) record { at = λ text line. stepped (record { is = λ sheet. block_is sheet w h₀ TextMode _ refl; sound = sound_block z TextMode; fit = λ sheet a. fit_counts refl refl a; writes = writes_none }) }

-- ---- the span of a component

module _ {c : ComponentEvent} {s : Span} where
  pub span_ingredient : (v : ComponentView) (i : Option Intermediate) → c ≡ component.Ingredient v i → s ≡ v.span → SpanOf c s
  unfolding component_event_in component_in rules.component_span
  span_ingredient v i e q = rw (e, q) record { is = λ line. refl }

  pub span_cookware : (v : ComponentView) → c ≡ component.Cookware v → s ≡ v.span → SpanOf c s
  unfolding component_event_in component_in rules.component_span
  span_cookware v e q = rw (e, q) record { is = λ line. refl }

  pub span_timer : (t : Span) (n : Option TextView) (a : Option QuantityView) → c ≡ component.Timer t n a → s ≡ t → SpanOf c s
  unfolding component_event_in rules.component_span
  span_timer t n a e q = rw (e, q) record { is = λ line. refl }

pub found_at : (x : Noted) (s : Span) {n : ℕ} → finding_of x ≡ found n (record { start = s.start; end = s.end }) → finding_of x ≡ found n (span_in s)
unfolding span_in
found_at x s e = e

-- 5
pub mode_found : {w₀ w : List ℕ} {h₀ h₁ h : Held} {x : Noted} {s : Span} {c : ComponentEvent} → Sound w₀ h₀ → SpanOf c s → h₁ ≡ with_block TextMode h₀ → FindingPushed w₀ h₁ x w h → finding_of x ≡ found 5 (span_in s) → ComponentInText c w₀ h₀ w h
unfolding component_in_text blank_open open_of
mode_found {w₀} {h₀ = h₀} {x = x} z s q p e =
    record {
      at = λ text line. went_found (record { is = λ sheet. block_is sheet w₀ h₀ TextMode _ refl; sound = sound_block z TextMode; fit = λ sheet a. fit_counts refl refl a; writes = writes_none }) (rw q at p) (rw (s.is line) at e);
    }
