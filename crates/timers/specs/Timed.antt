-- What the checks of `timer` lines answer, and such lines leave in work memory. Of a timer only that it is there is kept.
use Rattle.std.specs.Prelude.{ℕ, ◌≡◌, List, [], ◌∷◌, length, Option, None, Some}
use Rattle.rules.specs.Basic.{pick}
use Rattle.rules.specs.Units.{NamedUnit, PhysicalQuantity, time, same_physical}
use Rattle.rules.specs.Model.{Timer, timer_item}
use Rattle.rules.specs.State.{State, set_timers}
use Rattle.rules.specs.Components.{lock_findings, timer_unit, timer_checks}
use Rattle.rules.specs.Pass.{push_items, push_timer}
use Rattle.parts.specs.Views.{opt_text_in, opt_quantity_in}
use Rattle.model.specs.Fits.{AllFit}
use Rattle.model.specs.declared.Held.{Held}
use Rattle.model.specs.Rows.{if_found}
use Rattle.model.specs.declared.Noted.{Noted}
use Rattle.memory.specs.Reports.{Reported}
use Rattle.blocks.specs.Lined.{Told, Went}
use Rattle.parts.specs.declared.TextView.{TextView}
use Rattle.parts.specs.declared.QuantityView.{QuantityView}

-- 6, whatever the line is
pub record LockChecked (q : Option QuantityView) (r : Option Noted) : Type 0 where
  pub is : (line : List ℕ) → if_found r ≡ lock_findings (opt_quantity_in line q)

-- the code for a timer's unit; none where it is of time
unfoldable pub time_code : Option PhysicalQuantity → Option ℕ
time_code None = Some 23
time_code (Some p) = pick (same_physical p time) None (Some 22)

-- 22 and 23; the flags do not matter here
pub record UnitChecked (us : List NamedUnit) (line : List ℕ) (u : Option TextView) (r : Option Noted) : Type 0 where
  pub is : (flags : ℕ) → if_found r ≡ timer_unit us flags (opt_text_in line u)

-- 21 to 23
pub record TimeChecked (us : List NamedUnit) (line : List ℕ) (q : Option QuantityView) (w₀ : List ℕ) (h₀ : Held) (w : List ℕ) (h : Held) : Type 0 where
  pub is : (flags : ℕ) → Reported (timer_checks us flags (opt_quantity_in line q)) w₀ h₀ w h

-- one timer and its item more
unfoldable pub with_timer : Timer → State → State
with_timer t st = push_items (timer_item (length st.tables.timers) ∷ []) [] (set_timers (t ∷ st.tables.timers) st)

pub record TimerPushed (h₀ h : Held) : Type 0 where
  pub told : (t : Timer) → Told (with_timer t) h₀ h
  pub fit : (sheet w : List ℕ) → AllFit sheet w h₀ → AllFit sheet w h

-- a `timer` line
pub record TimerDone (us : List NamedUnit) (flags : ℕ) (line : List ℕ) (name : Option TextView) (q : Option QuantityView) (w₀ : List ℕ) (h₀ : Held) (w : List ℕ) (h : Held) : Type 0 where
  pub went : Went (push_timer us flags (opt_text_in line name) (opt_quantity_in line q) []) w₀ h₀ w h
  pub fit : (sheet : List ℕ) → AllFit sheet w₀ h₀ → AllFit sheet w h
