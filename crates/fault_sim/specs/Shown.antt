-- The nets that a step shows, and the latches that it sets.
use Rattle.std.specs.Prelude.{◌≡◌, ℕ, ◌<◌, ◌≤◌, Bool, List, length, map, take, slice_index_or}
use Rattle.fault_secure.specs.Circuit.{Circuit, LatchOf, latch_net}
use Rattle.fault_secure.specs.StuckAt.{StuckAt, on_pin}
use Rattle.fault_secure.specs.CodePlan.{CodePlan}
use Rattle.tsc_net.specs.PlanView.{net_numbers}
use Rattle.tsc_net.specs.declared.netlist.LatchView.{LatchView}
use Rattle.fault_sim.specs.declared.shown.Shown.{Shown}

abbrev pub latch_as : LatchView → LatchOf
latch_as latch = record { reads = latch.reads.number; init = latch.init }

-- the bit that a latch takes where nets have these bits: what its pin reads
abbrev pub taken_bit : StuckAt → (ℕ → Bool) → LatchView → Bool
taken_bit f bits latch = on_pin f latch.out.number 0 (bits latch.reads.number)

-- they are the latches of the circuit
pub record AreLatchesOf (N : Circuit) (views : List LatchView) : Type 0 where
  pub latches : map latch_as views ≡ N.latches
  pub outs : (l : ℕ) (d : LatchView) → l < length views → (slice_index_or views l d).out.number ≡ latch_net N l

-- they are the plan, its outputs, the latches and the nets at their inputs
pub record IsShownOf (N : Circuit) (P : CodePlan) (shown : Shown) : Type 0 where
  pub plan : shown.plan.now ≡ P
  pub outputs : net_numbers shown.outputs.items ≡ take P.outputs N.outputs
  pub latches : AreLatchesOf N shown.latches.items
  pub next : shown.next.items ≡ map (λ latch. latch.reads) shown.latches.items
  pub few_outputs : length shown.outputs.items ≤ 64
  pub few_checks : length P.checks ≤ 64
