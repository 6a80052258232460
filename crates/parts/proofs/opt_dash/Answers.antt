use Rattle.std.proofs.Common.{refl}
use Rattle.parts.proofs.Leaves.{dash_past, dash_present}
use Rattle.parts.proofs.Alone.{dash_alone}
use Rattle.parts.proofs.opt_dash.Goals as goal

pub returns-then-line-at : goal.returns-then-line-at
returns-then-line-at c = dash_past _ _ c.if-line-at.true

pub returns-then-is_alone : goal.returns-then-is_alone
returns-then-is_alone c = dash_alone _ _ c.if-line-at.false c.is_alone.ensures c.if-is_alone.true

pub returns : goal.returns
returns c = dash_present _ _ c.if-line-at.false refl c.is_alone.ensures c.if-is_alone.false
