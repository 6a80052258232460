use Rattle.meta_map.proofs.Printed.{meta_put}
use Rattle.meta_map.proofs.meta_line.Goals as goal

pub returns : goal.returns
returns c = meta_put c.requires.0 c.requires.1 c.put_bytes-a.ensures c.put_byte-b.ensures c.put_kept-c.ensures c.put_byte-d.ensures c.put_bytes-e.ensures c.put_byte.ensures
