-- No bit is set so far.
use Rattle.std.proofs.Common.{◌≡◌, ℕ, ◌-◌, ◌<◌, ◌≤◌, true}
use Rattle.lane_sim.specs.Lanes.{lane_bit}
use Rattle.lane_sim.proofs.first_bit.first_bit.Given as goal

abbrev pub invariant-loop-at : goal.invariant-loop-at
invariant-loop-at l = record {
  low : l.from ≤ l.at;
  before : (p : ℕ) → l.from ≤ p → p < l.at → lane_bit l.words p ≡ true → ⊥;
}

abbrev pub decreases-loop-at : goal.decreases-loop-at
decreases-loop-at l = l.many - l.at
