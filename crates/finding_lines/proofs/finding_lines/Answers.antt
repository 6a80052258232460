use borrow.Author.Rules.{rules}
use native.Mathlib.Omega.{arith}
use mathlib.Core.Path.{refl}
use Rattle.output.proofs.Puts.{keeps}
use Rattle.finding_lines.proofs.Tables.{list_starts, list_on, list_ends}
use Rattle.finding_lines.proofs.finding_lines.Goals as goal

pub loop-i-init : goal.loop-i-init
loop-i-init c = list_starts c.begin-n.ensures

pub finding-requires : goal.finding-requires
finding-requires c = omega (arith, c.loop-i-test.true, c.args.stored.now.sound.room.others.findings)

pub loop-i-preserved : goal.loop-i-preserved
loop-i-preserved c = list_on c.loop-i.invariant c.loop-i-test.true c.finding.ensures c.put_finding-n.ensures

pub shape_of-out : goal.shape_of-out
shape_of-out c = search (rules, keeps c.loop-i.invariant.put)

pub returns : goal.returns
returns c = list_ends c.loop-i.invariant c.args.stored.now.held refl c.loop-i-test.false
