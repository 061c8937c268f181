use Rattle.std.proofs.Common.{◌≡◌, ℕ, ◌<◌, slice_index}
use Rattle.tsc_net.specs.PlanView.{net_numbers}
use Rattle.lane_sim.specs.Points.{source_bit}
use Rattle.fault_lanes.proofs.settling.load_pins.Given as goal

abbrev pub invariant-loop-pin : goal.invariant-loop-pin
invariant-loop-pin l = (at lane : ℕ) → at < l.pin → lane < 1024 → source_bit l.pins at lane ≡ source_bit l.words (slice_index (net_numbers l.reads) at) lane
