use Rattle.page_fields.proofs.Contents.{put_absent, put_present}
use Rattle.page_fields.proofs.put_optional.Goals as goal

pub returns-in-None : goal.returns-in-None
returns-in-None c = put_absent _ c.in-None.is c.put_field.ensures

pub returns-in-Some : goal.returns-in-Some
returns-in-Some c = put_present _ c.in-Some.is c.requires c.put_bytes-n.ensures c.part_of-f.ensures c.put_text_trimmed.ensures
