use Rattle.std.proofs.Common.{◌≡◌, ◌≢◌, ℕ, ◌<◌, true}
use Rattle.fault_secure.specs.StuckAt.{on_stem}
use Rattle.lane_sim.specs.Again.{is_at}
use Rattle.lane_sim.specs.Points.{source_bit}
use Rattle.fault_lanes.specs.Batch.{lane_fault}
use Rattle.fault_lanes.proofs.HoldLemmas.{IsHeldAbove}
use Rattle.fault_lanes.proofs.chains.Chains.hold_stems.Given as goal

-- the net is held in the lanes after this one
abbrev pub invariant-loop-lane : goal.invariant-loop-lane
invariant-loop-lane l = record {
  below : l.lane < 1024;
  at : 0 < l.lane → is_at (lane_fault l.self.faults.items l.lane) l.net ≡ true;
  held : IsHeldAbove (λ p. on_stem (lane_fault l.self.faults.items p) l.net) l.lane (source_bit l.initial.words l.net) (source_bit l.words l.net);
  others : (other p : ℕ) → p < 1024 → other ≢ l.net → source_bit l.words other p ≡ source_bit l.initial.words other p;
}

abbrev pub decreases-loop-lane : goal.decreases-loop-lane
decreases-loop-lane l = l.lane
