use Rattle.std.proofs.Common.{◌≡◌, ◌⊎◌, ℕ, ◌+◌, ◌<◌, ◌≤◌, true}
use Rattle.fault_secure.specs.StuckAt.{on_pin}
use Rattle.lane_sim.specs.Again.{is_at}
use Rattle.lane_sim.specs.Points.{source_bit}
use Rattle.fault_lanes.specs.Batch.{lane_fault}
use Rattle.fault_lanes.proofs.HoldLemmas.{IsHeldAbove}
use Rattle.fault_lanes.proofs.chains.Chains.hold_pins.Given as goal

-- each pin is held in the lanes after this one
abbrev pub invariant-loop-lane : goal.invariant-loop-lane
invariant-loop-lane l = record {
  below : l.lane < 1024;
  at : 0 < l.lane → is_at (lane_fault l.self.faults.items l.lane) l.driver ≡ true;
  held : (pin : ℕ) → pin < l.pins
      → IsHeldAbove (λ p. on_pin (lane_fault l.self.faults.items p) l.driver pin) l.lane (source_bit l.initial.words (l.base + pin)) (source_bit l.words (l.base + pin));
  others : (other p : ℕ) → p < 1024 → (other < l.base) ⊎ (l.base + l.pins ≤ other) → source_bit l.words other p ≡ source_bit l.initial.words other p;
}

abbrev pub decreases-loop-lane : goal.decreases-loop-lane
decreases-loop-lane l = l.lane
