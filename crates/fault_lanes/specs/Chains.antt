-- Lanes by the nets where their faults are: per net the last such lane, and per lane the last one before it at the same net.
use Rattle.std.specs.Prelude.{◌≡◌, ℕ, ◌<◌, ◌≤◌, true, false, List, length, slice_index, Option}
use Rattle.fault_secure.specs.StuckAt.{NoFault}
use Rattle.tsc_net.specs.declared.fault.Fault.{Fault}
use Rattle.lane_sim.specs.Again.{is_at}
use Rattle.fault_lanes.specs.Batch.{lane_fault}
use Rattle.fault_lanes.specs.declared.chains.Chains.{Chains}

-- the lane is the last one below a limit whose fault is at the net, or lane 0 where there is none
pub record IsLastAt (faults : List (Option Fault)) (net limit lane : ℕ) : Type 0 where
  pub below : lane < limit
  pub at : 0 < lane → is_at (lane_fault faults lane) net ≡ true
  pub last : (later : ℕ) → lane < later → later < limit → is_at (lane_fault faults later) net ≡ false

-- the chains of so many nets lead through the lanes below a limit, from the last one whose fault is at a net to the first; lane 0 is
-- without a fault, and so are the lanes from the limit on
pub record LeadThrough (nets lanes : ℕ) (chains : Chains) : Type 0 where
  pub faults_sized : length chains.faults.items ≡ 1024
  pub older_sized : length chains.older.items ≡ 1024
  pub newest_sized : length chains.newest.items ≡ nets
  pub first : lane_fault chains.faults.items 0 ≡ NoFault
  pub rest : (lane : ℕ) → lanes ≤ lane → lane_fault chains.faults.items lane ≡ NoFault
  pub newest : (net : ℕ) → net < nets → IsLastAt chains.faults.items net lanes (slice_index chains.newest.items net)
  pub older : (net lane : ℕ) → 0 < lane → lane < lanes → is_at (lane_fault chains.faults.items lane) net ≡ true
      → IsLastAt chains.faults.items net lane (slice_index chains.older.items lane)

-- they lead through all 1,024 lanes
abbrev pub AreChains : ℕ → Chains → Type 0
AreChains nets chains = LeadThrough nets 1024 chains
