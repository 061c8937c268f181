use Rattle.std.proofs.Common.{ℕ, ◌-◌, ◌<◌, length, slice_index, IsTrue}
use Rattle.tsc_bits.specs.Bits.{bit_worth}
use Rattle.structure_audit.proofs.pairs.first_common.Given as goal

abbrev pub invariant-loop-node : goal.invariant-loop-node
invariant-loop-node l = record {
  within : l.node < length l.masks;
  earliest : (r : ℕ) → r < l.node → IsTrue (bit_worth l.first (slice_index l.masks r)) → IsTrue (bit_worth l.second (slice_index l.masks r)) → ⊥;
}

abbrev pub decreases-loop-node : goal.decreases-loop-node
decreases-loop-node l = length l.masks - l.node
