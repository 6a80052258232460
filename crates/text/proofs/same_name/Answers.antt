use mathlib.Core.Path.{sym, ◌∙◌}
use borrow.Author.Tests.{not-false}
use Rattle.text.proofs.Turns.{parted_first}
use Rattle.text.proofs.same_name.Goals as goal

pub returns-then-is_parted : goal.returns-then-is_parted
returns-then-is_parted c = parted_first _ _ (c.is_parted.ensures c.if-is_parted.true)

pub returns-then-a-lt2 : goal.returns-then-a-lt2
returns-then-a-lt2 c = c.same_whole.ensures

pub returns-else-not-is_parted_last : goal.returns-else-not-is_parted_last
returns-else-not-is_parted_last c = c.if-not-is_parted_last.false-raw ∙ sym (c.is_parted_last.ensures (not-false _ c.if-not-is_parted_last.false-raw))

pub returns-then-not-is_parted_last : goal.returns-then-not-is_parted_last
returns-then-not-is_parted_last c = c.same_whole-then-not-is_parted_last.ensures
