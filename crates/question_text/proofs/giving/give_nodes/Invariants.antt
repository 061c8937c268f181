-- The nodes from the place on are left.
use Rattle.question_text.proofs.Given.{IsLeft, nodes_left}
use Rattle.question_text.proofs.giving.give_nodes.Given as goal

abbrev pub invariant-loop-place : goal.invariant-loop-place
invariant-loop-place l = IsLeft l.initial.checker (nodes_left l.numbers l.net.circuit 0) l.checker (nodes_left l.numbers l.net.circuit l.place)
