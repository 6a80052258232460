use native.Mathlib.Omega.{arith}
use Rattle.model.specs.Blank.{blank_timer}
use Rattle.memory.proofs.Reports.{reported_seq, found_count}
use Rattle.timers.proofs.Timers.{timer_room, timer_plain, timer_checked}
use Rattle.timers.proofs.on_timer.Goals as goal
use Rattle.timers.proofs.on_timer.Goals.{then-bit-eq1, else-bit-eq1}

pub time_checks-requires : goal.time_checks-requires
time_checks-requires c = (c.requires.0, omega (arith, c.requires.1, found_count _ c.push_found.ensures.found))

pub push_timer-memory-requires : goal.push_timer-memory-requires
push_timer-memory-requires c =
    elim c.if-bit-eq1.branch [
      | then-bit-eq1 w ↦ rw w.memory-is (timer_room (reported_seq c.push_found.ensures.found (w.time_checks.ensures.done.is 0)) c.requires.2 c.requires.3)
      | else-bit-eq1 w ↦ rw w.memory-is (timer_room c.push_found.ensures.found c.requires.2 c.requires.3)
    ]

pub invariant_of-memory : goal.invariant_of-memory
invariant_of-memory c = record { sound = (c.push_timer-memory.ensures.told blank_timer).sound _ c.if-bit-eq1.memory.sound }

pub returns-clause-done : goal.returns-clause-done
returns-clause-done c =
    elim c.if-bit-eq1.branch [
      | then-bit-eq1 w ↦ rw w.memory-is (timer_checked c.lock_finding.ensures c.push_found.ensures.found c.args.memory.now.sound w.if-bit-eq1.true w.time_checks.ensures.done (rw w.memory-is at c.push_timer-memory.ensures))
      | else-bit-eq1 w ↦ rw w.memory-is (timer_plain c.lock_finding.ensures c.push_found.ensures.found c.args.memory.now.sound w.if-bit-eq1.false (rw w.memory-is at c.push_timer-memory.ensures))
    ]
