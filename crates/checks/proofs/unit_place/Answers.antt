use Rattle.checks.proofs.Laws.{place_own, place_text}
use Rattle.checks.proofs.unit_place.Goals as goal

pub returns-in-None : goal.returns-in-None
returns-in-None c = place_own _ c.in-None.is

pub returns-in-Some : goal.returns-in-Some
returns-in-Some c = place_text _ _ c.in-Some.is
