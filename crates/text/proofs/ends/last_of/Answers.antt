use native.Mathlib.Omega.{arith}
use Rattle.text.proofs.Backward.{tells_goes, tells_stays}
use Rattle.text.specs.Trims.{last_unclear}
use Rattle.content.proofs.Chars.{content_step}
use Rattle.text.proofs.ends.last_of.Goals.{then-i-gt0+else-s-i-eq92, else-i-gt0}
use Rattle.text.proofs.ends.last_of.Goals as goal

pub returns-then-s-lt1 : goal.returns-then-s-lt1
returns-then-s-lt1 c = last_unclear

pub returns-then-s-i-eq92 : goal.returns-then-s-i-eq92
returns-then-s-i-eq92 c = last_unclear

pub overflow_add-i : goal.overflow_add-i
overflow_add-i c = omega (arith, (content_step _ _ _ c.last_start-i.ensures.inside c.char_in-c.ensures).most)

pub returns-then-i-c : goal.returns-then-i-c
returns-then-i-c c = last_unclear

pub returns-then-is_dropped : goal.returns-then-is_dropped
returns-then-is_dropped c =
    tells_goes _ _ _ c.last_start-i.ensures (elim c.if-i-gt0.branch [ then-i-gt0+else-s-i-eq92 w ↦ λ _. w.if-s-i-eq92.false | else-i-gt0 w ↦ λ h. absurd (omega (arith, w.if-i-gt0.false)) ]) c.char_in-c.ensures c.if-i-c.false _ c.is_dropped.ensures c.if-is_dropped.true

pub returns : goal.returns
returns c =
    tells_stays _ _ _ c.last_start-i.ensures (elim c.if-i-gt0.branch [ then-i-gt0+else-s-i-eq92 w ↦ λ _. w.if-s-i-eq92.false | else-i-gt0 w ↦ λ h. absurd (omega (arith, w.if-i-gt0.false)) ]) c.char_in-c.ensures c.if-i-c.false _ c.is_dropped.ensures c.if-is_dropped.false
