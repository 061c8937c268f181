use Rattle.std.proofs.Common.{◌≡◌, ℕ, ◌+◌, ◌<◌}
use Rattle.fault_secure.specs.Circuit.{latch}
use Rattle.mapping_reading.specs.NamedMapping.{named_latch}
use Rattle.mapping_audit.proofs.names.have_same_latches.Given as goal

-- the latches so far are the same
abbrev pub invariant-loop-place : goal.invariant-loop-place
invariant-loop-place l = (k : ℕ) → k < l.place
    → named_latch l.plain.names (l.plain.circuit.inputs + k) (latch l.plain.circuit k) ≡ named_latch l.mapped.names (l.mapped.circuit.inputs + k) (latch l.mapped.circuit k)
