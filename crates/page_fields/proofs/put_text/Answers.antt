use Rattle.parts.specs.Views.{text_in}
use Rattle.known_events.specs.Fields.{TextField}
use Rattle.page_fields.proofs.put_text.Goals as goal

pub put_part-requires : goal.put_part-requires
unfolding TextField
put_part-requires c = c.requires

pub returns : goal.returns
unfolding text_in
returns c = c.put_part.ensures
