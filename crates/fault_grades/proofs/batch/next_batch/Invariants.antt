-- The undecided faults before this place are listed, at most one for each place.
use Rattle.std.proofs.Common.{◌+◌, ◌≤◌}
use Rattle.fault_grades.specs.Batch.{IsBatch}
use Rattle.fault_grades.proofs.batch.next_batch.Given as goal

abbrev pub invariant-loop-place : goal.invariant-loop-place
invariant-loop-place l = record {
  batch : IsBatch l.faults l.grades l.from l.count l.place l.places l.into;
  slow : l.count + l.from ≤ l.place;
}
