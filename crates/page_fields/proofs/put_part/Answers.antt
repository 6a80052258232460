use Rattle.page_fields.proofs.Contents.{put_content}
use Rattle.page_fields.proofs.put_part.Goals as goal

pub returns : goal.returns
returns c = put_content _ _ c.requires c.part_of-f.ensures c.put_byte-n.ensures c.put_bytes.ensures
