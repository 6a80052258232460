use Rattle.letters.proofs.Ascii.{either_first, either_second}
use Rattle.letters.proofs.is_alphanumeric.Goals as goal

pub returns-then-is_alphabetic : goal.returns-then-is_alphabetic
returns-then-is_alphabetic c = rw c.if-is_alphabetic.true (either_first _ c.is_alphabetic.ensures c.if-is_alphabetic.true)

pub returns-else-is_alphabetic : goal.returns-else-is_alphabetic
returns-else-is_alphabetic c = either_second _ c.is_alphabetic.ensures c.if-is_alphabetic.false c.is_numeric.ensures
