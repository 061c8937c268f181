use Rattle.std.proofs.Common.{◌≡◌, ◌≢◌, ℕ, ◌+◌, ◌<◌}
use Rattle.tsc_bits.specs.Bits.{bits_of}
use Rattle.fault_secure.specs.Circuit.{bit}
use Rattle.lane_sim.specs.Points.{source_bit}
use Rattle.lane_sim.proofs.points.put_state.Given as goal

abbrev pub invariant-loop-latch : goal.invariant-loop-latch
invariant-loop-latch l = record {
  put : (k : ℕ) → k < l.latch → source_bit l.words (l.first + k) l.place ≡ bit (bits_of l.latches l.state) k;
  points : (net p : ℕ) → p < 1024 → p ≢ l.place → source_bit l.words net p ≡ source_bit l.initial.words net p;
  below : (net p : ℕ) → p < 1024 → net < l.first → source_bit l.words net p ≡ source_bit l.initial.words net p;
}
