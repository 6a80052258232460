-- What `collect` and `plain_form` leave in lent memory.
use Rattle.std.specs.Prelude.{ℕ, ◌≤◌, ◌<◌, ◌≡◌, List, length, Result}
use Rattle.rules.specs.Input.{Input}
use Rattle.rules.specs.Answer as rules
use Rattle.rules.specs.Answer.{answered, Lent, collect_answer, plain_answer, out_after, work_after}
use Rattle.refusals.specs.declared.Refusal.{Refusal}
use Rattle.answers.specs.Answers.{answer_of, used_of, code_of, usable_of}

-- the same work memory, and another output
abbrev pub lends : Lent → ℕ → Lent
lends m room = record { words = m.words; bytes = m.bytes; room = room }

abbrev pub usable_lent : Lent → Lent
usable_lent m = lends m (usable_of m.room)

-- so much is lent
abbrev pub lengths : List ℕ → ℕ → List ℕ → Lent
lengths words bytes out = record { words = length words; bytes = bytes; room = length out }

abbrev pub lent_of : List ℕ → List ℕ → List ℕ → Lent
lent_of words bytes out = lengths words (length bytes) out

-- ---- before memory is cleared

-- the answer a of the rules, of an output that may hold anything past it
pub record Answered (a : rules.Answer) (room : ℕ) (out : List ℕ) (r : Result ℕ Refusal) : Type 0 where
  pub is : answer_of r out ≡ a
  pub fits : used_of r ≤ room
  pub long : length out ≡ room

-- ---- after

-- The answer a of the rules; a page or a form is as long as the answer says; every word and byte that was lent is as the
-- rules say. Ruled out: a program that answers a page rightly and leaves names of the recipe behind it in the output or in
-- work memory (`out`, `words`); one that refuses a sheet with too many ingredients by 20, because the output is short, where
-- the rules refuse it by 17 (`is`).
pub record AnswerLeft (a : rules.Answer) (m : Lent) (w b o : List ℕ) (r : Result ℕ Refusal) : Type 0 where
  pub is : answer_of r o ≡ a
  pub fits : used_of r ≤ length o
  pub out : o ≡ out_after m.room a
  pub words : w ≡ work_after m.words
  pub bytes : b ≡ work_after m.bytes

-- The same of the answer in one number; a page's is below 2^32, so its upper half is 0. Ruled out: a program whose page of 2^32
-- bytes reads as refusal 1 (`short`); one that clears the front of a longer output alone (`out`).
pub record Coded (a : rules.Answer) (m : Lent) (w b o : List ℕ) (r : ℕ) : Type 0 where
  pub is : r ≡ code_of a
  pub short : (bytes : List ℕ) → a ≡ answered bytes → code_of a < 4294967296
  pub out : o ≡ out_after m.room a
  pub words : w ≡ work_after m.words
  pub bytes : b ≡ work_after m.bytes

-- what `collect` leaves
abbrev pub Collected : Input → Lent → List ℕ → List ℕ → List ℕ → Result ℕ Refusal → Type 0
Collected i m w b o r = AnswerLeft (collect_answer i m) m w b o r

-- what `plain_form` leaves
abbrev pub PlainFormed : Input → Lent → List ℕ → List ℕ → List ℕ → Result ℕ Refusal → Type 0
PlainFormed i m w b o r = AnswerLeft (plain_answer i m) m w b o r
