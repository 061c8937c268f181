use Rattle.std.proofs.Common.{◌≡◌, drop}
use Rattle.fault_secure.specs.Circuit.{node_net}
use Rattle.question_text.specs.Gates.{after_clauses}
use Rattle.question_text.specs.Failing.{failing_gates}
use Rattle.question_text.proofs.failing.push_failing.Given as goal

abbrev pub invariant-loop-place : goal.invariant-loop-place
invariant-loop-place l =
    after_clauses l.out (failing_gates l.numbers l.right l.net.circuit.inputs l.cells l.place (node_net l.net.circuit l.place) (drop l.place l.net.circuit.nodes)) ≡ after_clauses l.initial.out (failing_gates l.numbers l.right l.net.circuit.inputs l.cells 0 (node_net l.net.circuit 0) l.net.circuit.nodes)
