use Rattle.components.specs.Views.{modifiers_in}
use Rattle.page_fields.proofs.Letters as laws
use Rattle.page_fields.proofs.put_letters.Goals as goal

pub returns : goal.returns
unfolding modifiers_in
returns c = laws.put_letters _ c.put_letter-a.ensures c.put_letter-b.ensures c.put_letter-c.ensures c.put_letter-d.ensures c.put_letter.ensures
