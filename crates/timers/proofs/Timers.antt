-- One law for each way through a `timer` line.
use Prim.Native.Nat.{ℕ, suc, ◌+◌, ◌<◌, ◌≤◌, ◌/◌, ◌%◌}
use mathlib.Core.Path.{◌≡◌, refl, sym, ap, ◌∙◌}
use mathlib.Core.Bool.{Bool, true, false, not}
use mathlib.Core.List.{List, [], ◌∷◌}
use Rattle.std.specs.Prelude.{Option, None, Some}
use native.Mathlib.Omega.{arith}
use native.Mathlib.Numerals.{add-one}
use borrow.Author.Tests.{eq-eqb, ne_eqb}
use lib.ListN.{length, replicate, length-replicate}
use Rattle.rules.specs.Basic.{pick, when, is_some}
use Rattle.rules.proofs.Basics.{no_some, some_inj}
use Rattle.rules.specs.Event as rules
use Rattle.rules.specs.Finding.{Finding, found}
use Rattle.rules.specs.Units.{NamedUnit, PhysicalQuantity, time, same_physical, find_unit, read_units, units_or}
use Rattle.rules.specs.Modes.{has_advanced_units}
use Rattle.rules.specs.Model.{Timer, Item, timer_item, is_textual, trimmed_text}
use Rattle.rules.specs.State.{State, set_block, set_place, set_kept, set_tables, set_timers, report}
use Rattle.rules.specs.Components.{lock_findings, time_unit, timer_unit, timer_checks, timer_findings, timer_of}
use Rattle.rules.specs.Pass.{push_items, push_timer}
use Rattle.content.specs.Contents.{kept_in}
use Rattle.text.specs.Trims.{TrimmedTo}
use Rattle.units.specs.Lists.{units_from}
use Rattle.units.proofs.Walks.{units_start}
use Rattle.parts.specs.Views.{part_of, span_in, text_in, opt_text_in, OptTextWithin, quantity_in, opt_quantity_in}
use Rattle.parts.specs.declared.TextView.{TextView}
use Rattle.sheet.specs.declared.ValueKind.{ValueKind}
use Rattle.sheet.specs.declared.ValueKind.TheVariants.{Textual}
use Rattle.parts.specs.declared.QuantityView.{QuantityView}
use Rattle.compatible.proofs.Laws.{text_kept, within_present}
use Rattle.model.specs.Blank.{blank, blank_place, blank_kept, blank_tables, blank_timer}
use Rattle.model.specs.Rows.{finding_of, if_found}
use Rattle.model.specs.declared.Noted.{Noted}
use Rattle.model.specs.Memory.{state_of, state_in, Sound}
use Rattle.model.specs.Small.{with_timers}
use Rattle.model.specs.declared.Held.{Held}
use Rattle.memory.proofs.Smalls.{with_timers_lem}
use Rattle.memory.proofs.Bounds.{sound_timers, fit_counts}
use Rattle.memory.specs.Reports.{Reported, nothing, more}
use Rattle.memory.proofs.Reports.{reported_seq, reported_as, reported_is, reported_fit, reported_sound}
use Rattle.memory.proofs.Writes.{reported_writes}
use Rattle.checks.proofs.Laws.{nothing_found, one_found, none_found, said, textual_not}
use Rattle.blocks.specs.Lined.{ItemsPushed}
use Rattle.blocks.proofs.Fitting.{items_fit, items_sound}
use Rattle.timers.specs.Timed.{LockChecked, time_code, UnitChecked, TimeChecked, with_timer, TimerPushed, TimerDone}
use Rattle.sheet.specs.Words.{kind_in}

-- ---- 6

module _ {q : Option QuantityView} where
  pub lock_none : q ≡ None → LockChecked q None
  unfolding lock_findings opt_quantity_in
  lock_none e = record { is = λ line. nothing_found (rw e) }

  module _ (v : QuantityView) (e : q ≡ Some v) where
    pub lock_free : v.lock ≡ false → LockChecked q None
    unfolding lock_findings opt_quantity_in quantity_in when
    lock_free b = record { is = λ line. nothing_found (rw (e, b)) }

    pub lock_found : {x : Noted} → v.lock ≡ true → finding_of x ≡ found 6 (span_in v.value_span) → LockChecked q (Some x)
    unfolding lock_findings opt_quantity_in quantity_in when
    lock_found b k = record { is = λ line. one_found _ k (rw (e, b)) }

-- ---- 21

module _ {k : ValueKind} {v : Bool} where
  pub textual_is : k ≡ Textual → v ≡ true → v ≡ is_textual (kind_in k)
  unfolding is_textual kind_in
  textual_is e t = rw (e, t)

  pub textual_else : (k ≡ Textual → ⊥) → v ≡ false → v ≡ is_textual (kind_in k)
  textual_else n t = t ∙ textual_not k n

module _ {b v : Bool} (f : Finding) (e : v ≡ b) where
  pub when_found : v ≡ true → when b f ≡ f ∷ []
  unfolding when
  when_found t = rw (← e, t)

  pub when_none : v ≡ false → when b f ≡ []
  unfolding when
  when_none t = rw (← e, t)

-- ---- 22 and 23

module _ (us : List NamedUnit) (flags : ℕ) (s : rules.Span) where
  time_none : (o : Option PhysicalQuantity) → time_code o ≡ None → time_unit us flags s o ≡ []
  unfolding time_code time_unit
  time_none None e = no_some (sym e)
  time_none (Some p) e = go (same_physical p time) e
    where
      go : (b : Bool) → ◌≡◌ {A = Option ℕ} (pick b None (Some 22)) None → when (not b) (found 22 s) ≡ []
      go true e = unfold when in refl
      go false e = no_some (sym e)

  time_found : (o : Option PhysicalQuantity) (n : ℕ) → time_code o ≡ Some n → time_unit us flags s o ≡ found n s ∷ []
  unfolding time_code time_unit
  time_found None n e = ap (λ (m : ℕ). found m s ∷ []) (some_inj e)
  time_found (Some p) n e = go (same_physical p time) e
    where
      go : (b : Bool) → ◌≡◌ {A = Option ℕ} (pick b None (Some 22)) (Some n) → when (not b) (found 22 s) ≡ found n s ∷ []
      go true e = no_some e
      go false e = unfold when in ap (λ (m : ℕ). found m s ∷ []) (some_inj e)

pub unit_none : {us : List NamedUnit} {line : List ℕ} {u : Option TextView} → u ≡ None → UnitChecked us line u None
unfolding timer_unit opt_text_in
unit_none e = record { is = λ flags. nothing_found (rw e) }

unit_is : (us : List NamedUnit) (line : List ℕ) {u : Option TextView} (v : TextView) → u ≡ Some v → (flags : ℕ) → timer_unit us flags (opt_text_in line u) ≡ time_unit us flags (span_in v.span) (find_unit (trimmed_text (text_in line v)) us)
unfolding timer_unit opt_text_in text_in
unit_is us line v e flags = rw e

module _ (s : List ℕ) (line : List ℕ) {u : Option TextView} (v : TextView) (g : is_some (read_units s) ≡ true) (z : OptTextWithin line u) (e : u ≡ Some v) (x : List ℕ) (t : TrimmedTo (part_of line v.content) x)
    {p : Option PhysicalQuantity} (f : p ≡ find_unit (kept_in x) (units_from s 0)) {r : Option ℕ} (c : r ≡ time_code p) where
  unit_code_lem : r ≡ time_code (find_unit (trimmed_text (text_in line v)) (units_or (read_units s)))
  unit_code_lem =
      c ∙ ap time_code (f ∙ (ap (λ (y : List ℕ). find_unit y (units_from s 0)) (text_kept line v x (within_present line u v z e) t)
      ∙ ap (λ (us : List NamedUnit). find_unit (trimmed_text (text_in line v)) us) (units_start s g)))

  pub unit_time : r ≡ None → UnitChecked (units_or (read_units s)) line u None
  unit_time o = record { is = λ flags. nothing_found (unit_is _ line v e flags ∙ time_none _ flags _ _ (sym unit_code_lem ∙ o)) }

  pub unit_found : (n : ℕ) {y : Noted} → r ≡ Some n → finding_of y ≡ found n (span_in v.span) → UnitChecked (units_or (read_units s)) line u (Some y)
  unit_found n o k = record { is = λ flags. one_found _ k (unit_is _ line v e flags ∙ time_found _ flags _ _ n (sym unit_code_lem ∙ o)) }

-- ---- 21 to 23

module _ {us : List NamedUnit} {line : List ℕ} {q : Option QuantityView} {w₀ : List ℕ} {h₀ : Held} where
  pub checks_none : q ≡ None → TimeChecked us line q w₀ h₀ w₀ h₀
  unfolding timer_checks opt_quantity_in
  checks_none e = record { is = λ flags. none_found (rw e) }

  pub checks_both : (x y : Option Noted) {w₁ w : List ℕ} {h₁ h : Held} (v : QuantityView) → q ≡ Some v → if_found x ≡ when (is_textual (kind_in v.kind)) (found 21 (span_in v.value_span)) → Reported (if_found x) w₀ h₀ w₁ h₁
      → UnitChecked us line v.unit y → Reported (if_found y) w₁ h₁ w h → TimeChecked us line q w₀ h₀ w h
  unfolding timer_checks opt_quantity_in quantity_in
  checks_both x y v e a k b l = record { is = λ flags. said (rw e) (reported_seq (reported_as k a) (reported_as l (b.is flags))) }

-- ---- the timer and its item

timers_same : (x : List Item) (a b : List Timer) (st : State) → length a ≡ length b → blank (push_items x [] (set_timers a st)) ≡ blank (push_items x [] (set_timers b st))
unfolding push_items set_block set_place set_kept set_timers set_tables blank blank_place blank_kept blank_tables
timers_same x a b st e = rw e

timers_count : (sheet w : List ℕ) (h : Held) → length (state_in sheet w h).tables.timers ≡ h.counts.timers
unfolding state_in state_of
timers_count sheet w h = length-replicate h.counts.timers blank_timer

module _ {h r : Held} (l : h.counts.timers < 100000) (p : ItemsPushed 1 (with_timers (h.counts.timers + 1) h) r) where
  pushed_is : (t : Timer) (sheet w : List ℕ) → state_in sheet w r ≡ blank (with_timer t (state_in sheet w h))
  unfolding with_timer
  pushed_is t sheet w =
      let st = state_in sheet w h in
      let x : List Item = timer_item (length st.tables.timers) ∷ [] in
      let q : length (replicate (h.counts.timers + 1) blank_timer) ≡ suc (length st.tables.timers) = length-replicate (h.counts.timers + 1) blank_timer ∙ (add-one h.counts.timers ∙ ap suc (sym (timers_count sheet w h))) in
      (p.by x refl).is sheet w
      ∙ (ap (λ (s : State). blank (push_items x [] s)) (with_timers_lem sheet w h (h.counts.timers + 1))
      ∙ timers_same x (replicate (h.counts.timers + 1) blank_timer) (t ∷ st.tables.timers) st q)

  pub timer_pushed : TimerPushed h r
  timer_pushed =
      record {
        told = λ t. record { is = pushed_is t; sound = λ w z. items_sound p w (sound_timers z (h.counts.timers + 1) (omega arith)) };
        fit = λ sheet w a. items_fit p sheet w (fit_counts refl refl a);
      }

pub timer_pushed_at : {h k r : Held} → h.counts.timers < 100000 → k ≡ with_timers (h.counts.timers + 1) h → ItemsPushed 1 k r → TimerPushed h r
timer_pushed_at l e p = timer_pushed l (rw e at p)

pub items_room : (h : Held) {k : Held} → h.counts.items < 100000 → k ≡ with_timers (h.counts.timers + 1) h → k.counts.items + 1 ≤ 100000
items_room h l e = rw e (omega (arith, l))

-- ---- the whole line

-- findings leave the counts of items and timers
reported_items : {fs : List Finding} {w w₁ : List ℕ} {h h₁ : Held} → Reported fs w h w₁ h₁ → h₁.counts.items ≡ h.counts.items
reported_items nothing = refl
reported_items (more x e p q) = reported_items q ∙ ap (λ (z : Held). z.counts.items) p.held

reported_timers : {fs : List Finding} {w w₁ : List ℕ} {h h₁ : Held} → Reported fs w h w₁ h₁ → h₁.counts.timers ≡ h.counts.timers
reported_timers nothing = refl
reported_timers (more x e p q) = reported_timers q ∙ ap (λ (z : Held). z.counts.timers) p.held

pub timer_room : {fs : List Finding} {w w₁ : List ℕ} {h h₁ : Held} → Reported fs w h w₁ h₁ → h.counts.timers < 100000 → h.counts.items < 100000 → (h₁.counts.timers < 100000) × (h₁.counts.items < 100000)
timer_room r l m = let a = reported_timers r in let b = reported_items r in (omega (arith, a, l), omega (arith, b, m))

timer_swap : (us : List NamedUnit) (flags : ℕ) (n : Option rules.Text) (q : Option rules.Quantity) (st : State) → with_timer (timer_of n q) (report (timer_findings us flags q) st) ≡ push_timer us flags n q [] st
unfolding with_timer push_timer report push_items set_block set_place set_kept set_timers set_tables
timer_swap us flags n q st = refl

module _ {us : List NamedUnit} {flags : ℕ} {line : List ℕ} {name : Option TextView} {q : Option QuantityView} {w₀ w : List ℕ} {h₀ h r : Held} where
  timer_done : Reported (timer_findings us flags (opt_quantity_in line q)) w₀ h₀ w h → Sound w₀ h₀ → TimerPushed h r → TimerDone us flags line name q w₀ h₀ w r
  timer_done f z p =
      let t = timer_of (opt_text_in line name) (opt_quantity_in line q) in
      record {
        went = record {
          is = λ sheet. (p.told t).is sheet w ∙ (ap (λ (s : State). blank (with_timer t s)) (reported_is f sheet) ∙ ap blank (timer_swap us flags (opt_text_in line name) (opt_quantity_in line q) (state_in sheet w₀ h₀)));
          sound = (p.told t).sound w (reported_sound f z);
          fit = λ sheet a. p.fit sheet w (reported_fit f sheet a);
          writes = reported_writes f;
        };
        fit = λ sheet a. p.fit sheet w (reported_fit f sheet a);
      }

module _ {us : List NamedUnit} {flags : ℕ} {line : List ℕ} {name : Option TextView} {q : Option QuantityView} {x : Option Noted} (l : LockChecked q x) {w₀ w₁ : List ℕ} {h₀ h₁ : Held} (k : Reported (if_found x) w₀ h₀ w₁ h₁) (z : Sound w₀ h₀) {r : Held} where
  pub timer_plain : (flags / 4 % 2 ≡ 1 → ⊥) → TimerPushed h₁ r → TimerDone us flags line name q w₀ h₀ w₁ r
  unfolding timer_findings has_advanced_units
  timer_plain n p = timer_done (said (rw (ne_eqb (flags / 4 % 2) 1 n)) (reported_seq (reported_as k (l.is line)) nothing)) z p

  pub timer_checked : {w : List ℕ} {h : Held} → flags / 4 % 2 ≡ 1 → TimeChecked us line q w₁ h₁ w h → TimerPushed h r → TimerDone us flags line name q w₀ h₀ w r
  unfolding timer_findings has_advanced_units
  timer_checked n c p = timer_done (said (rw (eq-eqb (flags / 4 % 2) 1 n)) (reported_seq (reported_as k (l.is line)) (c.is flags))) z p
