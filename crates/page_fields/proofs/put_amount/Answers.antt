use Rattle.page_fields.proofs.Amounts.{amount_absent, amount_fields_lem, amount_present}
use Rattle.page_fields.proofs.put_amount.Goals as goal

pub put_quantity-requires : goal.put_quantity-requires
put_quantity-requires c = amount_fields_lem _ c.in-Some.is c.requires

pub returns-in-None : goal.returns-in-None
returns-in-None c = amount_absent _ _ c.in-None.is c.put_field.ensures

pub returns-in-Some : goal.returns-in-Some
returns-in-Some c = amount_present _ _ c.in-Some.is c.put_quantity.ensures
