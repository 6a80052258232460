use Rattle.lookup.proofs.References.{refers_new, refers_same, refers_not}
use Rattle.lookup.proofs.refers_to.Goals as goal

pub returns-then-new : goal.returns-then-new
returns-then-new c = refers_new _ _ _ _ _ c.if-new.true

pub returns-then-treat_as_reference : goal.returns-then-treat_as_reference
returns-then-treat_as_reference c = refers_same _ _ _ _ _ c.if-new.false c.is_some-found.ensures c.treat_as_reference.ensures c.if-treat_as_reference.true

pub returns : goal.returns
returns c = refers_not _ _ _ _ _ c.if-new.false c.is_some-found.ensures c.treat_as_reference.ensures c.if-treat_as_reference.false
