-- All faults are graded over the steps of the rounds so far.
use Rattle.std.proofs.Common.{◌≡◌, ◌-◌, length, take}
use Rattle.fault_grades.specs.Batch.{HasRoom, AreGraded}
use Rattle.fault_grades.proofs.grading.grade_all.Given as goal

abbrev pub invariant-loop-done : goal.invariant-loop-done
invariant-loop-done l = record {
  circuit : l.bench.circuit ≡ l.net.circuit;
  room : HasRoom l.net.circuit.inputs l.room;
  sized : length l.grades ≡ length l.initial.grades;
  graded : AreGraded l.net.circuit l.plan l.faults (take l.done l.steps) l.grades;
}

abbrev pub decreases-loop-done : goal.decreases-loop-done
decreases-loop-done l = length l.steps - l.done
