use Rattle.memory.proofs.Smalls.{over_1, over_2, over_3, over_4, over_5, over_6, over_7, over_8}
use Rattle.memory.proofs.over_limits.Goals as goal

pub returns-then-h-gt512 : goal.returns-then-h-gt512
returns-then-h-gt512 c = over_1 _ c.if-h-gt512.true

pub returns-then-h-gt256 : goal.returns-then-h-gt256
returns-then-h-gt256 c = over_2 _ c.if-h-gt512.false c.if-h-gt256.true

pub returns-then-h-gt256-2 : goal.returns-then-h-gt256-2
returns-then-h-gt256-2 c = over_3 _ c.if-h-gt512.false c.if-h-gt256.false c.if-h-gt256-2.true

pub returns-then-h-gt128 : goal.returns-then-h-gt128
returns-then-h-gt128 c = over_4 _ c.if-h-gt512.false c.if-h-gt256.false c.if-h-gt256-2.false c.if-h-gt128.true

pub returns-then-h-gt1024 : goal.returns-then-h-gt1024
returns-then-h-gt1024 c = over_5 _ c.if-h-gt512.false c.if-h-gt256.false c.if-h-gt256-2.false c.if-h-gt128.false c.if-h-gt1024.true

pub returns-then-h-gt4096 : goal.returns-then-h-gt4096
returns-then-h-gt4096 c = over_6 _ c.if-h-gt512.false c.if-h-gt256.false c.if-h-gt256-2.false c.if-h-gt128.false c.if-h-gt1024.false c.if-h-gt4096.true

pub returns-then-h-gt512-2 : goal.returns-then-h-gt512-2
returns-then-h-gt512-2 c = over_7 _ c.if-h-gt512.false c.if-h-gt256.false c.if-h-gt256-2.false c.if-h-gt128.false c.if-h-gt1024.false c.if-h-gt4096.false c.if-h-gt512-2.true

pub returns : goal.returns
returns c = over_8 _ c.if-h-gt512.false c.if-h-gt256.false c.if-h-gt256-2.false c.if-h-gt128.false c.if-h-gt1024.false c.if-h-gt4096.false c.if-h-gt512-2.false
