-- What is refused before the pass (document 01, "Numbers by place", the first three rows), as the rules order it.
use Rattle.std.specs.Prelude.{ℕ, ◌≤◌, ◌≡◌, false, not, List, [], ◌∷◌, length, Option, None, Result, Ok, Err}
use Rattle.rules.specs.Utf8.{is_utf8}
use Rattle.rules.specs.Units.{read_units}
use Rattle.rules.specs.Input.{Input, input_of}
use Rattle.rules.specs.Answer.{first_some, number_if, units_refused, before_flags, in_no_line, from_flags, before_pass, Lent, is_short}
use Rattle.refusals.specs.declared.Reason.{Reason}
use Rattle.refusals.specs.declared.Refusal.{Refusal}
use Rattle.refusals.specs.Told.{number_of, number_told, told}
use Rattle.unit_index.specs.Index.{Indexed}

-- so much work memory, and no output
abbrev pub lent : ℕ → ℕ → Lent
lent words bytes = record { words = words; bytes = bytes; room = 0 }

-- 1 where too little work memory is lent, then what stands before the flags; `words` and `bytes` are lent
unfoldable pub early_fault : Input → ℕ → ℕ → Option ℕ
early_fault i words bytes = first_some (number_if 1 (is_short (lent words bytes)) ∷ before_flags i ∷ [])

-- what the checks answer; what the flags are does not matter to the first, nor the units to the second
pub record EarlyChecked (sheet text units : List ℕ) (words bytes : ℕ) (r : Result (Unit {0}) Reason) : Type 0 where
  pub at : (flags : ℕ) → number_told r ≡ early_fault (input_of sheet text units flags) words bytes

pub record LateChecked (sheet text : List ℕ) (flags : ℕ) (r : Result (Unit {0}) Refusal) : Type 0 where
  pub at : (units : List ℕ) → told r ≡ from_flags (input_of sheet text units flags)

-- one after the other
pub record InputsChecked (i : Input) (words bytes : ℕ) (r : Result (Unit {0}) Refusal) : Type 0 where
  pub is : told r ≡ first_some (in_no_line (number_if 1 (is_short (lent words bytes))) ∷ before_pass None i ∷ [])

-- 4, then 5 and 6
pub record ContentsChecked (text units : List ℕ) (r : Result (Unit {0}) Reason) : Type 0 where
  pub is : number_told r ≡ first_some (number_if 4 (not (is_utf8 text)) ∷ units_refused (read_units units) ∷ [])

-- the number of a refusal, its line left out
abbrev pub number_in : Refusal → ℕ
number_in f = number_of f.reason

-- where nothing is refused, the unit list has its index; after 1 to 5 the words are those that were lent, after 6 to 10 they are the
-- program's choice
pub record UnitsReady {E : Type 0} (number : E → ℕ) (units index₀ index : List ℕ) (r : Result (Unit {0}) E) : Type 0 where
  pub long : length index ≡ 2305
  pub kept : (f : E) → r ≡ Err f → number f ≤ 5 → index ≡ index₀
  pub indexed : r ≡ Ok tt → Indexed units index

-- what the pass may count on: work memory enough is lent, and none of 1 to 10 arises
pub record GoodInputs (i : Input) (words bytes : ℕ) : Type 0 where
  pub enough : is_short (lent words bytes) ≡ false
  pub no_fault : before_pass None i ≡ None
