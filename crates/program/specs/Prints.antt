-- What the programs print.
use Rattle.std.specs.Prelude.{ℕ, ◌≤◌, ◌≡◌, Bool, true, false, List, length, take}
use Rattle.rules.specs.Input.{Input}
use Rattle.rules.specs.Answer.{Answer, Lent, collect_answer, plain_answer, printed}

-- the answer of the program: of `plain_form`, or of `collect`
unfoldable pub answer_for : Bool → Input → Lent → Answer
answer_for true i m = plain_answer i m
answer_for false i m = collect_answer i m

-- the program's answer as the rules print it, as the first n bytes of the output o
pub record AnswerPrinted (plain : Bool) (i : Input) (m : Lent) (o : List ℕ) (n : ℕ) : Type 0 where
  pub is : take n o ≡ printed (answer_for plain i m)
  pub fits : n ≤ length o
