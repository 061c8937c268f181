use Rattle.std.proofs.Common.{◌≡◌, ℕ, ◌<◌, ◌-◌, ◌&&◌, length, drop}
use Rattle.tsc_cover.specs.Cover.{row_matches, literals}
use Rattle.tsc_net.specs.PlanView.{net_numbers}
use Rattle.lane_sim.specs.Lanes.{lane_bit}
use Rattle.fault_lanes.specs.Settling.{bits_at}
use Rattle.fault_lanes.proofs.covers.row_lanes.Given as goal

-- the row matches where what was read does and what is left does
abbrev pub invariant-loop-pin : goal.invariant-loop-pin
invariant-loop-pin l = record {
  sized : length l.all ≡ 16;
  left : (lane : ℕ) → lane < 1024 → (lane_bit l.all lane && row_matches (literals (length l.reads - l.pin) l.row.care l.row.value) (drop l.pin (bits_at l.words (net_numbers l.reads) lane)))
      ≡ row_matches (literals (length l.reads) l.row.care l.row.value) (bits_at l.words (net_numbers l.reads) lane);
}
