use Rattle.sheet.proofs.Texts.{well}
use Rattle.sheet.proofs.is_well_escaped.Goals as goal

pub returns : goal.returns
returns c = rw (c.is_some.ensures, c.unescaped_len.ensures) (well _)
