use Rattle.checker_audit.specs.Matching.{IsWalking, total_size, questions}
use Rattle.checker_audit.proofs.walk.walk.Given as goal

abbrev pub invariant-loop-asked : goal.invariant-loop-asked
invariant-loop-asked l = IsWalking l.net.circuit l.plan l.gates.gates l.seen l.stack.items

abbrev pub decreases-loop-asked : goal.decreases-loop-asked
decreases-loop-asked l = total_size (questions l.gates.gates l.stack.items)
