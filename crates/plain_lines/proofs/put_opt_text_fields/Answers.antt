use Rattle.rules.specs.Write.{text_fields}
use Rattle.parts.specs.Views.{opt_text_in}
use Rattle.plain_lines.proofs.Fields.{text_field, part_absent, part_present}
use Rattle.plain_lines.proofs.put_opt_text_fields.Goals as goal

pub put_text_fields-requires : goal.put_text_fields-requires
put_text_fields-requires c = text_field _ c.in-Some.is c.requires

pub returns-in-None : goal.returns-in-None
unfolding opt_text_in
returns-in-None c = part_absent text_fields (rw c.in-None.is) c.put_field.ensures

pub returns-in-Some : goal.returns-in-Some
unfolding opt_text_in
returns-in-Some c = part_present text_fields (rw c.in-Some.is) c.put_text_fields.ensures
