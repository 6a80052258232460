use Rattle.reading.proofs.Sheets.{walk_starts, walk_done, walk_cut, walk_fault, walk_on}
use Rattle.reading.proofs.read_sheet.Goals as goal

pub loop-at-init : goal.loop-at-init
loop-at-init c = walk_starts _ _

pub returns : goal.returns
returns c = walk_done c.loop-at.invariant c.loop-at-test.false

pub returns-in_default : goal.returns-in_default
returns-in_default c = let l = rw c.in_default.is at c.line_end.ensures in walk_cut c.loop-at.invariant l c.loop-at-test.true

pub returns-in-Err : goal.returns-in-Err
returns-in-Err c = walk_fault c.loop-at.invariant c.in-Some.ensures c.in-Err.ensures

pub loop-at-preserved : goal.loop-at-preserved
loop-at-preserved c = walk_on c.loop-at.invariant c.in-Some.ensures c.in_default-check_line.ensures
