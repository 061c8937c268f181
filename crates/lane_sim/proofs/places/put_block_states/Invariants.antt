-- The lanes of the first latches are put.
use Rattle.std.proofs.Common.{◌≡◌, ℕ, ◌+◌, ◌*◌, ◌<◌, get_or}
use Rattle.tsc_bits.specs.Bits.{bit_worth}
use Rattle.lane_sim.specs.Points.{KeepsOtherBlocks, point_input, point_state}
use Rattle.lane_sim.proofs.places.put_block_states.Given as goal

abbrev pub invariant-loop-latch : goal.invariant-loop-latch
invariant-loop-latch l = record {
  state : (i : ℕ) → i < l.latch → (p : ℕ) → p < 64 → point_state l.points (l.block * 64 + p) i ≡ bit_worth p (get_or l.lanes i 0);
  blocks : KeepsOtherBlocks l.block l.initial.points l.points;
  input : (p k : ℕ) → p < 1024 → point_input l.points p k ≡ point_input l.initial.points p k;
  inputs : l.points.inputs ≡ l.initial.points.inputs;
  latches : l.points.latches ≡ l.initial.points.latches;
}
