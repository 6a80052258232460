use borrow.Author.Rules.{rules}
use Rattle.sheet.proofs.Scans.{field_to}
use Rattle.fields.proofs.put_fields.Goals as goal

pub overflow_add-i : goal.overflow_add-i
overflow_add-i c = let m = field_to _ _ c.field-f.ensures c.loop-i-test.true in search rules

pub overflow_add-i-in-loop-i : goal.overflow_add-i-in-loop-i
overflow_add-i-in-loop-i c = let m = field_to _ _ c.field-f.ensures c.loop-i-test.true in search rules

pub loop-i-preserved : goal.loop-i-preserved
loop-i-preserved c = let m = field_to _ _ c.field-f.ensures c.loop-i-test.true in search rules
