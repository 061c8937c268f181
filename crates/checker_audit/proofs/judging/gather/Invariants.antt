use Rattle.std.proofs.Common.{◌≡◌, ℕ, take, map}
use Rattle.fault_secure.specs.Circuit.{bit}
use Rattle.tsc_net.specs.PlanView.{net_numbers}
use Rattle.code_lanes.specs.Lanes.{column}
use Rattle.checker_audit.proofs.judging.gather.Given as goal

-- at each point the bits of the nets so far are read
abbrev pub invariant-loop-place : goal.invariant-loop-place
invariant-loop-place l = (p : ℕ) → take l.place (column p l.lanes) ≡ map (bit (column p l.words)) (net_numbers (take l.place l.word))
