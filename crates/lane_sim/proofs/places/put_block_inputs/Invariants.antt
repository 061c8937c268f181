-- The first inputs are put at the points of the block.
use Rattle.std.proofs.Common.{◌≡◌, ℕ, ◌+◌, ◌*◌, ◌<◌}
use Rattle.tsc_bits.specs.Bits.{bits_of}
use Rattle.fault_secure.specs.Circuit.{bit}
use Rattle.lane_sim.specs.Points.{KeepsOtherBlocks, point_input, point_state}
use Rattle.lane_sim.proofs.places.put_block_inputs.Given as goal

abbrev pub invariant-loop-input : goal.invariant-loop-input
invariant-loop-input l = record {
  input : (k : ℕ) → k < l.input → (p : ℕ) → p < 64 → point_input l.points (l.block * 64 + p) k ≡ bit (bits_of l.inputs (l.base + p)) k;
  blocks : KeepsOtherBlocks l.block l.initial.points l.points;
  states : (p i : ℕ) → p < 1024 → point_state l.points p i ≡ point_state l.initial.points p i;
  inputs : l.points.inputs ≡ l.initial.points.inputs;
  latches : l.points.latches ≡ l.initial.points.latches;
}
