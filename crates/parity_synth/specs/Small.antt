-- Networks whose parity netlist is small.
use Rattle.std.specs.Prelude.{ℕ, ◌+◌, ◌*◌, ◌≤◌, List, length}
use Rattle.fault_secure.specs.Circuit.{Circuit}
use Rattle.fault_secure.specs.CodePlan.{concat_places}
use Rattle.fault_secure.specs.Size.{network_size}

-- the groups have few places, and a copy of the network for each group and two more are small
pub record IsSmall (C : Circuit) (groups : List (List ℕ)) : Type 0 where
  pub few : length (concat_places groups) ≤ 64
  pub copies : C.inputs + (length groups + 2) * network_size C ≤ 1048576
