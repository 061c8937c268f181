use Rattle.std.proofs.Common.{◌≡◌, ◌≢◌, ℕ, ◌*◌, ◌<◌, ◌≤◌, length}
use Rattle.lane_sim.specs.Points.{source_bit}
use Rattle.lane_sim.specs.TwoPins.{table_bit}
use Rattle.fault_lanes.proofs.pairs.settle_pair.Given as goal

-- the row is written in the lanes of the parts so far, and nothing else is
abbrev pub invariant-loop-part : goal.invariant-loop-part
invariant-loop-part l = record {
  done : (lane : ℕ) → lane < l.part * 128 → source_bit l.words l.to lane ≡ table_bit l.table (source_bit l.initial.words l.first lane) (source_bit l.initial.words l.second lane);
  rest : (lane : ℕ) → l.part * 128 ≤ lane → lane < 1024 → source_bit l.words l.to lane ≡ source_bit l.initial.words l.to lane;
  others : (other lane : ℕ) → lane < 1024 → other ≢ l.to → source_bit l.words other lane ≡ source_bit l.initial.words other lane;
  sized : length l.words ≡ length l.initial.words;
}
