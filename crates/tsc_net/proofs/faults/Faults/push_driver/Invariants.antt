-- What is there, and the faults of the pins from this one on, are all faults of the driver.
use Rattle.std.proofs.Common.{◌≡◌, ◌++◌, ◌-◌}
use Rattle.fault_secure.specs.Listed.{faults_at, pin_faults}
use Rattle.tsc_net.proofs.faults.Faults.push_driver.Given as goal

abbrev pub invariant-loop-index : goal.invariant-loop-index
invariant-loop-index l = record {
  number : l.net.number ≡ l.fn.at;
  reading : l.self ++ pin_faults l.fn.at l.index (l.fn.pins - l.index) ≡ l.fn.self ++ faults_at l.fn.at l.fn.pins;
}
