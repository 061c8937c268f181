-- The first lanes are set.
use Rattle.std.proofs.Common.{◌≡◌, ℕ, ◌<◌, ◌≤◌, true, length}
use Rattle.lane_sim.specs.Lanes.{lane_bit}
use Rattle.fault_grades.proofs.marks.first_lanes.Given as goal

abbrev pub invariant-loop-index : goal.invariant-loop-index
invariant-loop-index l = record {
  sized : length l.words ≡ 16;
  set : (lane : ℕ) → 0 < lane → lane ≤ l.index → lane_bit l.words lane ≡ true;
}
