use Rattle.plain_walk.proofs.Writes.{write_dropped, write_copied, write_start, write_end, write_source, write_marked, fit_source, fit_marked}
use Rattle.plain_walk.proofs.plain_line.Goals as goal

pub source_line-requires : goal.source_line-requires
source_line-requires c = fit_source _ _ _ c.in-Source.is c.requires

pub marked_line-requires : goal.marked_line-requires
marked_line-requires c = fit_marked _ _ _ _ c.in-Marked.is c.requires

pub returns-in-Dropped : goal.returns-in-Dropped
returns-in-Dropped c = write_dropped _ _ c.in-Dropped.is

pub returns-in-Copied : goal.returns-in-Copied
returns-in-Copied c = write_copied _ _ c.in-Copied.is c.copied_line.ensures

pub returns-in-StartText : goal.returns-in-StartText
returns-in-StartText c = write_start _ _ c.in-StartText.is c.start_text_line.ensures

pub returns-in-EndText : goal.returns-in-EndText
returns-in-EndText c = write_end _ _ c.in-EndText.is c.end_text_line.ensures

pub returns-in-Source : goal.returns-in-Source
returns-in-Source c = write_source _ _ _ c.in-Source.is c.source_line.ensures

pub returns-in-Marked : goal.returns-in-Marked
returns-in-Marked c = write_marked _ _ _ _ c.in-Marked.is c.marked_line.ensures
