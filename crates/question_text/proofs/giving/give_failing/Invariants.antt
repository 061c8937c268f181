-- The nodes from the place on are left.
use Rattle.question_text.proofs.Given.{IsLeft, cells_left}
use Rattle.question_text.proofs.giving.give_failing.Given as goal

abbrev pub invariant-loop-place : goal.invariant-loop-place
invariant-loop-place l =
    IsLeft l.initial.checker (cells_left l.numbers l.right l.net.circuit l.cells 0) l.checker (cells_left l.numbers l.right l.net.circuit l.cells l.place)
