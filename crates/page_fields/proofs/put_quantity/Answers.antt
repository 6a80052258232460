use Rattle.page_fields.proofs.Amounts as amounts
use Rattle.page_fields.proofs.put_quantity.Goals as goal

pub returns : goal.returns
returns c = amounts.put_quantity _ _ _ c.put_kind-a.ensures c.put_part-b.ensures c.put_optional-c.ensures c.is_scalable-s.ensures c.put_scaling.ensures
