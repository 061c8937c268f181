use Rattle.std.proofs.Common.{◌≡◌, take}
use Rattle.fault_secure.specs.Circuit.{nets}
use Rattle.code_checkers.specs.CheckerNodes.{gate_nets, gate_nodes}
use Rattle.twin_synth.specs.Numbered.{more_nodes}
use Rattle.twin_synth.proofs.checker.push_all.Given as goal

abbrev pub invariant-loop-place : goal.invariant-loop-place
invariant-loop-place l =
    (l.known ≡ gate_nets l.word (nets l.initial.numbered.circuit) (take l.place l.gates.gates))
    × (l.numbered ≡ more_nodes l.initial.numbered (gate_nodes l.known (take l.place l.gates.gates)))
