-- What is there, and the faults from this net on, are the listed faults.
use Rattle.std.proofs.Common.{◌≡◌, ◌++◌, ◌-◌, drop}
use Rattle.fault_secure.specs.Listed.{listed_faults, faults_from, pin_counts}
use Rattle.tsc_net.proofs.faults.Faults.of.Given as goal

abbrev pub invariant-loop-at : goal.invariant-loop-at
invariant-loop-at l =
    l.faults ++ faults_from l.at (drop (l.at - l.net.circuit.inputs) (pin_counts l.net.circuit)) ≡ listed_faults l.net.circuit
