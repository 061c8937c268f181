use Rattle.std.proofs.Common.{◌≡◌, ◌≢◌, ℕ, ◌*◌, ◌/◌, ◌%◌, ◌<◌, ◌≤◌, false, length}
use Rattle.lane_sim.specs.Lanes.{lane_bit}
use Rattle.lane_sim.specs.Points.{source_bit}
use Rattle.lane_sim.specs.Operation.{free_bit}
use Rattle.lane_sim.proofs.two_again.change_free.Given as goal

abbrev pub invariant-loop-part : goal.invariant-loop-part
invariant-loop-part l = record {
  done : (p : ℕ) → p < l.part * 128 → source_bit l.block (l.to / 16) p ≡ free_bit l.words l.initial.block p l.gate;
  rest : (p : ℕ) → l.part * 128 ≤ p → p < 1024 → source_bit l.block (l.to / 16) p ≡ source_bit l.initial.block (l.to / 16) p;
  same : (p : ℕ) → p < l.part * 128 → lane_bit l.changed (p % 128) ≡ false → source_bit l.block (l.to / 16) p ≡ source_bit l.initial.block (l.to / 16) p;
  others : (other p : ℕ) → p < 1024 → other ≢ l.to / 16 → source_bit l.block other p ≡ source_bit l.initial.block other p;
  sized : length l.block ≡ length l.initial.block;
}
