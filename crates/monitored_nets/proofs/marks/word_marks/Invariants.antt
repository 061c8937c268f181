use Rattle.std.proofs.Common.{◌≡◌, false, length, replicate, drop}
use Rattle.fault_secure.specs.Circuit.{nets}
use Rattle.tsc_net.specs.PlanView.{net_numbers}
use Rattle.net_cones.specs.Marks.{mark_drivers}
use Rattle.monitored_nets.proofs.marks.word_marks.Given as goal

-- setting what is left gives what setting all gives
abbrev pub invariant-loop-monitored : goal.invariant-loop-monitored
invariant-loop-monitored l =
    (length l.marks.items ≡ nets l.net.circuit) × (mark_drivers 0 (drop l.monitored-index (net_numbers l.word)) l.marks.items ≡ mark_drivers 0 (net_numbers l.word) (replicate (nets l.net.circuit) false))
