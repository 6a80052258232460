use Rattle.page_fields.proofs.Amounts.{amount_fields_lem}
use Rattle.rules.specs.Write.{quantity_fields}
use Rattle.parts.specs.Views.{opt_quantity_in}
use Rattle.plain_lines.proofs.Fields.{part_absent, part_present}
use Rattle.plain_lines.proofs.put_opt_quantity_fields.Goals as goal

pub put_quantity_fields-requires : goal.put_quantity_fields-requires
put_quantity_fields-requires c = amount_fields_lem _ c.in-Some.is c.requires

pub returns-in-None : goal.returns-in-None
unfolding opt_quantity_in
returns-in-None c = part_absent quantity_fields (rw c.in-None.is) c.put_field.ensures

pub returns-in-Some : goal.returns-in-Some
unfolding opt_quantity_in
returns-in-Some c = part_present quantity_fields (rw c.in-Some.is) c.put_quantity_fields.ensures
