use Rattle.std.proofs.Common.{ℕ, ◌<◌}
use Rattle.mapping_reading.specs.NamedMapping.{IsGateNet}
use Rattle.mapping_audit.proofs.missing.first_missing.Given as goal

-- the names of the nodes so far are those of gates' nets
abbrev pub invariant-loop-node : goal.invariant-loop-node
invariant-loop-node l = (k : ℕ) → k < l.node → IsGateNet l.plain l.mapped k
