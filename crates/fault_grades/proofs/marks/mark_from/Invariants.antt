-- The lanes before this one have their grades.
use Rattle.fault_grades.proofs.MarkLemmas.{AreMarked}
use Rattle.fault_grades.proofs.marks.mark_from.Given as goal

abbrev pub invariant-loop-lane : goal.invariant-loop-lane
invariant-loop-lane l = AreMarked l.initial.marks l.marks l.step l.first l.lane l.seen l.agree
