use Rattle.entry_lines.proofs.Relations as laws
use Rattle.entry_lines.proofs.put_definition.Goals as goal

pub returns : goal.returns
returns c = laws.put_definition _ _ c.put_field-a.ensures c.put_place-b.ensures c.put_referrers.ensures
