use mathlib.Core.Path.{refl}
use Rattle.inputs.proofs.Flags.{flags_other, flags_low, flags_high, flags_digit}
use Rattle.inputs.proofs.read_flags.Goals as goal
use Rattle.inputs.proofs.read_flags.Goals.{then-c-lt48-via-then-c-lt48, then-c-lt48-via-else-c-lt48+then-c-gt57}

pub returns-then-f-ne1 : goal.returns-then-f-ne1
returns-then-f-ne1 c = flags_other _ c.if-f-ne1.true

pub returns-then-c-lt48 : goal.returns-then-c-lt48
returns-then-c-lt48 c =
    elim c.then-c-lt48.branch [
      | then-c-lt48-via-then-c-lt48 w ↦ flags_low _ _ c.if-f-ne1.false refl w.if-c-lt48.true
      | then-c-lt48-via-else-c-lt48+then-c-gt57 w ↦ flags_high _ _ c.if-f-ne1.false refl w.if-c-gt57.true
    ]

pub returns : goal.returns
returns c = flags_digit _ _ c.if-f-ne1.false refl c.if-c-lt48.false c.if-c-gt57.false
