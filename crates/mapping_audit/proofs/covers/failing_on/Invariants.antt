use Rattle.std.proofs.Common.{ℕ, ◌<◌}
use Rattle.mapping_audit.specs.Covers.{IsRealised}
use Rattle.mapping_audit.specs.Values.{AreZeros}
use Rattle.mapping_audit.proofs.covers.failing_on.Given as goal

-- the covers so far are given, and the words are 0 again
abbrev pub invariant-loop-node : goal.invariant-loop-node
invariant-loop-node l = record {
  zeros : AreZeros l.mapped.circuit l.words;
  given : (k : ℕ) → k < l.node → IsRealised l.plain.circuit l.mapped.circuit l.moved l.blocks k;
}
