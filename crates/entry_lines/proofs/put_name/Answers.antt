use Rattle.entry_lines.proofs.Names as names
use Rattle.entry_lines.proofs.put_name.Goals as goal

pub returns : goal.returns
returns c = names.put_name c.requires.0 c.requires.1 c.put_byte-n.ensures c.put_kept.ensures
