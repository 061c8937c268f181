-- What a simulation asks of a plan: its nets, and nothing of its states.
use Rattle.std.specs.Prelude.{◌≡◌, ◌+◌, ◌<◌, length, slice_index, All}
use Rattle.fault_secure.specs.Circuit.{Circuit, nets}
use Rattle.fault_secure.specs.CodePlan.{CodePlan}

-- the plan's nets are nets of the circuit, whose outputs are the plan's and then the two rails. Which states it lists doesn't matter
pub record HasPlanNets (N : Circuit) (P : CodePlan) : Type 0 where
  pub outputs : length N.outputs ≡ P.outputs + 2
  pub rail1 : slice_index N.outputs P.outputs ≡ P.rail1
  pub rail2 : slice_index N.outputs (P.outputs + 1) ≡ P.rail2
  pub checks : All (λ net. net < nets N) P.checks
  pub rails : (P.rail1 < nets N) × (P.rail2 < nets N)
