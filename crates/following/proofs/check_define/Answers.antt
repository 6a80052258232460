use Rattle.following.proofs.check_define.Goals as goal

pub returns-then-is_components : goal.returns-then-is_components
returns-then-is_components c = rw (← c.is_components.ensures, c.if-is_components.true)

pub returns : goal.returns
returns c = rw (← c.is_components.ensures, c.if-is_components.false)
