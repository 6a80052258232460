use Rattle.entry_lines.proofs.Relations as laws
use Rattle.entry_lines.proofs.put_reference.Goals as goal

pub returns : goal.returns
returns c = laws.put_reference _ _ _ c.put_field-a.ensures c.put_target-b.ensures c.put_number.ensures
