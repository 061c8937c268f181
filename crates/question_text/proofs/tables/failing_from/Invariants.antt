use Rattle.std.proofs.Common.{◌≡◌, ◌++◌, drop}
use Rattle.question_text.specs.Failing.{cells_from, cells_end}
use Rattle.question_text.proofs.tables.failing_from.Given as goal

abbrev pub invariant-loop-place : goal.invariant-loop-place
invariant-loop-place l =
    record { cells : l.cells ++ cells_from l.place l.at (drop l.place l.net.circuit.nodes) ≡ cells_from 0 l.first l.net.circuit.nodes; end : cells_end l.place l.at (drop l.place l.net.circuit.nodes) ≡ cells_end 0 l.first l.net.circuit.nodes }
