-- What an answer stands for, and what is printed of it.
use Rattle.std.specs.Prelude.{ℕ, ◌+◌, ◌*◌, ◌≤◌, ◌≡◌, List, leb, length, take, drop, Result, Ok, Err}
use Rattle.rules.specs.Basic.{pick}
use Rattle.rules.specs.Answer as rules
use Rattle.rules.specs.Answer.{answered, declined, printed}
use Rattle.refusals.specs.Told.{number_of}
use Rattle.refusals.specs.declared.Reason.TheVariants.{NoRoom}
use Rattle.refusals.specs.declared.Refusal.{Refusal}

-- the bytes at the front of the output, or a refusal's number and line
unfoldable pub answer_of : Result ℕ Refusal → List ℕ → rules.Answer
answer_of (Ok n) out = answered (take n out)
answer_of (Err f) out = declined (number_of f.reason) f.line

-- how many bytes of the output an answer hands out
unfoldable pub used_of : {E : Type 0} → Result ℕ E → ℕ
used_of (Ok n) = n
used_of (Err f) = 0

-- the answer in one number: a page's length, or a refusal's number times 2^32 and its line
unfoldable pub code_of : rules.Answer → ℕ
code_of (answered bytes) = length bytes
code_of (declined n l) = n * 4294967296 + l

-- the same of an answer as the code has it
unfoldable pub answer_code : Result ℕ Refusal → ℕ
answer_code (Ok n) = n
answer_code (Err f) = number_of f.reason * 4294967296 + f.line

-- the half of that number that holds a length counts no further: of a longer output only the front is used
unfoldable pub usable_of : ℕ → ℕ
usable_of room = pick (leb room 4294967295) room 4294967295

-- a page of n bytes, unless it is longer than the output ("20 answer longer than the space lent")
unfoldable pub page_or20 : ℕ → ℕ → Result ℕ Refusal
page_or20 n room = pick (leb n room) (Ok n) (Err (record { reason = NoRoom; line = 0 }))

-- what the programs print of an answer a, where o₀ is the output: n bytes at the front of o; the rest is as it was. Ruled out: a
-- program that prints the page's bytes behind a refusal's line (`is`); one that lets a refusal's line run over what stood past it
-- (`rest`); one that prints the line before the number (`is`).
pub record Shown (a : rules.Answer) (o₀ o : List ℕ) (n : ℕ) : Type 0 where
  pub is : take n o ≡ printed a
  pub rest : drop n o ≡ drop n o₀
  pub fits : n ≤ length o

-- that, of an answer r as the code has it
abbrev pub PrintedAt : Result ℕ Refusal → List ℕ → List ℕ → ℕ → Type 0
PrintedAt r o₀ o n = Shown (answer_of r o₀) o₀ o n

-- an answer whose refusal is told by any number and line
unfoldable pub answer_told : Result ℕ (ℕ × ℕ) → List ℕ → rules.Answer
answer_told (Ok n) out = answered (take n out)
answer_told (Err f) out = declined f.0 f.1

-- that, of such an answer
abbrev pub ToldPrinted : Result ℕ (ℕ × ℕ) → List ℕ → List ℕ → ℕ → Type 0
ToldPrinted r o₀ o n = Shown (answer_told r o₀) o₀ o n
