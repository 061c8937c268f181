-- One of the nets so far is wrong, or one of those left is, where one of all is.
use Rattle.std.proofs.Common.{◌≡◌, ℕ, ◌<◌, ◌||◌, length, drop}
use Rattle.fault_secure.specs.Circuit.{bit}
use Rattle.lane_sim.specs.Lanes.{lane_bit}
use Rattle.fault_lanes.specs.Bench.{valuation_of}
use Rattle.fault_grades.proofs.SeenLemmas.{apart}
use Rattle.fault_grades.proofs.seen.wrong_lanes.Given as goal

abbrev pub invariant-loop-net : goal.invariant-loop-net
invariant-loop-net l = record {
  sized : length l.wrong ≡ 16;
  left : (lane : ℕ) → lane < 1024 → (lane_bit l.wrong lane || apart (bit (valuation_of l.bench lane)) (bit (valuation_of l.bench 0)) (drop l.net-index l.outputs))
      ≡ apart (bit (valuation_of l.bench lane)) (bit (valuation_of l.bench 0)) l.outputs;
}
