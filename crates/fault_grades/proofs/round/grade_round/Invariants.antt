-- The faults before this place are graded over the steps of the round.
use Rattle.std.proofs.Common.{◌≡◌, ℕ, ◌≤◌, ◌-◌, length, take}
use Rattle.fault_grades.specs.Batch.{HasRoom, AreGraded, AreGradedTo}
use Rattle.fault_grades.proofs.round.grade_round.Given as goal

abbrev pub invariant-loop-from : goal.invariant-loop-from
invariant-loop-from l = record {
  circuit : l.bench.circuit ≡ l.initial.bench.circuit;
  room : HasRoom l.initial.bench.circuit.inputs l.room;
  sized : length l.grades ≡ length l.initial.grades;
  graded : (before : ℕ) → before ≤ l.limit → AreGraded l.initial.bench.circuit l.plan l.faults (take before l.steps) l.initial.grades
      → AreGradedTo l.initial.bench.circuit l.plan l.faults (take before l.steps) (take l.limit l.steps) l.from l.grades;
}

abbrev pub decreases-loop-from : goal.decreases-loop-from
decreases-loop-from l = length l.grades - l.from
