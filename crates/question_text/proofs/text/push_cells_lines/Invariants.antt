use Rattle.std.proofs.Common.{◌≡◌, ◌-◌, ◌++◌, length}
use Rattle.fault_secure.specs.Circuit.{node_net}
use Rattle.question_text.specs.Lines.{cells_lines}
use Rattle.question_text.proofs.text.push_cells_lines.Given as goal

abbrev pub invariant-loop-place : goal.invariant-loop-place
invariant-loop-place l =
    l.out ++ cells_lines l.net.names l.cells l.place (node_net l.net.circuit l.place) (length l.net.circuit.nodes - l.place) ≡ l.initial.out ++ cells_lines l.net.names l.cells 0 (node_net l.net.circuit 0) (length l.net.circuit.nodes)
