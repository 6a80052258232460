-- What the words that are kept say of the lines of earlier ingredients and of a new unit.
use Rattle.std.specs.Prelude.{ℕ, suc, ◌+◌, ◌-◌, ◌*◌, ◌≤◌, ◌<◌, ◌≡◌, Bool, List, length, get_or, take, drop, Option, None, Some}
use Rattle.rules.specs.Basic.{eq_list}
use Rattle.rules.specs.Units.{NamedUnit}
use Rattle.rules.specs.Event.{Text, Quantity}
use Rattle.rules.specs.Model.{ingredient, trimmed_text}
use Rattle.content.specs.Contents.{kept_in}
use Rattle.units.specs.Lists.{units_from}
use Rattle.compatible.specs.Fitting.{unit_code, trimmed_in}
use Rattle.unit_codes.specs.Codes.{code_in, start_in, end_in}
use Rattle.model.specs.Rows.{component_of_line}
use Rattle.unit_codes.specs.declared.TheConstants.{CODES}
use Rattle.model.specs.declared.layout.TheConstants.{MOST_INGREDIENTS}

-- 1 to 5 for a unit of a physical quantity, 6 for one that is not in the list, 7 for none
unfoldable pub text_code : List NamedUnit → Option Text → ℕ
text_code us None = 7
text_code us (Some t) = suc (unit_code us (trimmed_text t))

-- 8 where there is no quantity
unfoldable pub amount_code : List NamedUnit → Option Quantity → ℕ
amount_code us None = 8
amount_code us (Some q) = text_code us q.unit

-- of an ingredient's line
unfoldable pub line_code : List ℕ → List ℕ → ℕ
line_code units line = amount_code (units_from units 0) (component_of_line ingredient line).quantity

-- the content of a line's unit, where it has one, stands where the word w says
pub record UnitPlaced (line : List ℕ) (w : ℕ) : Type 0 where
  pub order : start_in w ≤ end_in w
  pub ends : end_in w ≤ length line
  pub is : (q : Quantity) (s : Text) → (component_of_line ingredient line).quantity ≡ Some q → q.unit ≡ Some s → trimmed_text s ≡ trimmed_in (take (end_in w - start_in w) (drop (start_in w) line))

-- w is a word of a line: it says the line's code, and from 16 on also where the unit stands
pub record LineWord (units line : List ℕ) (w : ℕ) : Type 0 where
  pub is : code_in w ≡ line_code units line
  pub placed : 16 ≤ w → UnitPlaced line w

-- three words for each row: where a line of the sheet starts, where it ends, and a word of it; 0 where none is kept
pub record CodesKept (units sheet codes : List ℕ) : Type 0 where
  pub long : length codes ≡ CODES
  pub is : (i : ℕ) → i < MOST_INGREDIENTS → (get_or codes (i * 3 + 2) 0 ≡ 0 → ⊥)
      → LineWord units (take (get_or codes (i * 3 + 1) 0 - get_or codes (i * 3) 0) (drop (get_or codes (i * 3) 0) sheet)) (get_or codes (i * 3 + 2) 0)

-- x stands for what the field f does, trimmed
pub record Trims (f x : List ℕ) : Type 0 where
  pub is : kept_in x ≡ trimmed_in f

-- whether the unit of a line is that of a field
pub record SameUnit (line f : List ℕ) (r : Bool) : Type 0 where
  pub is : (q : Quantity) (s : Text) → (component_of_line ingredient line).quantity ≡ Some q → q.unit ≡ Some s → r ≡ eq_list (trimmed_text s) (trimmed_in f)

-- ---- a new unit: n is the number of its physical quantity, where there is a unit

-- how it is written, where there is one: f is its field
abbrev pub new_text : Option ℕ → List ℕ → Option (List ℕ)
new_text None f = None
new_text (Some m) f = Some (trimmed_in f)

-- n is the number that the list gives it: x is its field, trimmed
pub record NewCode (us : List NamedUnit) (x : List ℕ) (n : Option ℕ) : Type 0 where
  pub is : (m : ℕ) → n ≡ Some m → m ≡ unit_code us (kept_in x)
