use Rattle.checks.proofs.Laws.{note_within, note_none, note_end, note_note}
use Rattle.checks.proofs.note_check.Goals as goal

pub widened_span-s-requires : goal.widened_span-s-requires
widened_span-s-requires c = note_within _ _ c.requires c.in_ok-v.was

pub returns-in_err-v : goal.returns-in_err-v
returns-in_err-v c = rw c.from_residual.ensures (note_none c.in_err-v.was)

pub returns-in-None : goal.returns-in-None
returns-in-None c = note_end _ _ c.in_ok-v.was c.widened_span-s.ensures c.in-None.is c.two_spans.ensures

pub returns-in-Some : goal.returns-in-Some
returns-in-Some c = note_note _ _ c.in_ok-v.was c.widened_span-s.ensures _ c.in-Some.is c.two_spans-in-Some.ensures
