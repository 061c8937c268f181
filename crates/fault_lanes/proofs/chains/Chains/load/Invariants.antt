use Rattle.std.proofs.Common.{◌≡◌, ℕ, ◌+◌, ◌≤◌, length}
use Rattle.fault_lanes.specs.Batch.{batch_fault, lane_fault}
use Rattle.fault_lanes.specs.Chains.{LeadThrough}
use Rattle.fault_lanes.proofs.chains.Chains.load.Given as goal

-- the lanes up to this one have their faults
abbrev pub invariant-loop-index : goal.invariant-loop-index
invariant-loop-index l = record {
  lead : LeadThrough (length l.fn.self.newest.items) (l.index + 1) l.self;
  faults : (lane : ℕ) → lane ≤ l.index → lane_fault l.self.faults.items lane ≡ batch_fault l.faults lane;
}
