use Rattle.stored_cases.proofs.Words.{no_word, word_there}
use Rattle.stored_cases.proofs.past_word.Goals as goal

pub returns-then-not-starts : goal.returns-then-not-starts
returns-then-not-starts c = no_word _ _ _ c.part.ensures c.starts.ensures c.if-not-starts.true

pub returns : goal.returns
returns c = word_there _ _ _ c.part.ensures c.starts.ensures c.if-not-starts.false c.after.ensures
