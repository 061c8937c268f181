use Rattle.std.proofs.Common.{◌≡◌, ◌≢◌, ℕ, ◌+◌, ◌<◌}
use Rattle.fault_secure.specs.Circuit.{bit}
use Rattle.lane_sim.specs.Points.{source_bit}
use Rattle.lane_sim.proofs.points.put_bits.Given as goal

abbrev pub invariant-loop-index : goal.invariant-loop-index
invariant-loop-index l = record {
  put : (k : ℕ) → k < l.index → source_bit l.words (l.first + k) l.place ≡ bit l.bits k;
  points : (net p : ℕ) → p < 1024 → p ≢ l.place → source_bit l.words net p ≡ source_bit l.initial.words net p;
  below : (net p : ℕ) → p < 1024 → net < l.first → source_bit l.words net p ≡ source_bit l.initial.words net p;
}
