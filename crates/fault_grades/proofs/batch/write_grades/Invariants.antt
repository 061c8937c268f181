-- The first lanes are written.
use Rattle.fault_grades.specs.Batch.{AreWritten}
use Rattle.fault_grades.proofs.batch.write_grades.Given as goal

abbrev pub invariant-loop-index : goal.invariant-loop-index
invariant-loop-index l = AreWritten l.places l.marks l.index l.initial.grades l.grades
