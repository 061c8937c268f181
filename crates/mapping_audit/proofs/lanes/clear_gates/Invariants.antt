use Rattle.std.proofs.Common.{◌≡◌, ℕ, ◌<◌, drop, map}
use Rattle.fault_secure.specs.Circuit.{node_net}
use Rattle.code_lanes.specs.Lanes.{column}
use Rattle.mapping_audit.specs.Values.{cleared}
use Rattle.mapping_audit.proofs.lanes.clear_gates.Given as goal

-- clearing what is left gives what clearing all does
abbrev pub invariant-loop-gate : goal.invariant-loop-gate
invariant-loop-gate l =
    (p : ℕ) → p < 64 → cleared (map (node_net l.mapped.circuit) (drop l.gate-index l.gates)) (column p l.words)
    ≡ cleared (map (node_net l.mapped.circuit) l.gates) (column p l.initial.words)
