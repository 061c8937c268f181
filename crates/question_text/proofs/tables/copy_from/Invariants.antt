use Rattle.std.proofs.Common.{◌≡◌, ◌++◌, drop}
use Rattle.question_text.specs.Nodes.{numbers_from, end_from}
use Rattle.question_text.proofs.tables.copy_from.Given as goal

abbrev pub invariant-loop-place : goal.invariant-loop-place
invariant-loop-place l =
    record { numbers : l.numbers ++ numbers_from l.at (drop l.place l.net.circuit.nodes) ≡ l.initial.numbers ++ numbers_from l.first l.net.circuit.nodes; end : end_from l.at (drop l.place l.net.circuit.nodes) ≡ end_from l.first l.net.circuit.nodes }
