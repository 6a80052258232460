use Prim.Native.Nat.{◌≤◌, ◌<◌}
use mathlib.Core.Path.{◌≡◌, sym, ◌∙◌}
use native.Mathlib.Omega.{arith}
use Rattle.output.proofs.Runs.{first_none, first_on, first_here, first_before, first_of}
use Rattle.output.proofs.copied_run.Goals.{then-is_copied, else-is_copied, then-s-k, else-s-k}
use Rattle.output.proofs.copied_run.Goals as goal

pub loop-j-init : goal.loop-j-init
loop-j-init c = (omega arith, first_none)

pub loop-j-preserved : goal.loop-j-preserved
loop-j-preserved c =
    let w = c.args.w.now in
    let inv = c.loop-j.invariant in
    let h = c.loop-j-test.true in
    elim c.if-is_copied.branch [
      | then-is_copied a ↦
          let same : c.if-s-k.k ≡ c.loop-j.k =
          elim c.if-s-k.branch [
            | then-s-k b ↦ let l : 32 < c.loop-j.k = rw a.s-is at b.if-s-k.true in omega (arith, inv.0)
            | else-s-k b ↦ b.k-is
          ] in
          (rw same inv.0, rw same (first_on w _ _ inv.1 h (sym c.is_copied.ensures ∙ a.if-is_copied.true)))
      | else-is_copied a ↦
          elim c.if-s-k.branch [
            | then-s-k b ↦
                let l : c.loop-j.j < c.loop-j.k = rw a.s-is at b.if-s-k.true in
                (rw (b.k-is, a.s-is) (omega (arith, inv.0)), rw (b.k-is, a.s-is) (first_here w _ _ inv.1 h l))
            | else-s-k b ↦
                let l : c.loop-j.k ≤ c.loop-j.j = rw a.s-is at b.if-s-k.false in
                (rw b.k-is inv.0, rw b.k-is (first_before w _ _ inv.1 l))
          ]
    ]

pub returns : goal.returns
returns c =
    let inv = c.loop-j.invariant in
    first_of c.args.w.now _ _ inv.1 (rw c.requires inv.0) c.loop-j-test.false
