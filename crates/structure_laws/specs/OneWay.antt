-- One-way errors: in a unate function a failing cell moves all nets in one direction.
use Rattle.std.specs.Prelude.{◌≡◌, ℕ, ◌<◌, ◌⊎◌, Bool, List, length, Contains}
use Rattle.fault_secure.specs.Circuit.{Circuit, node_net, bit}
use Rattle.fault_secure.specs.Settle.{Acyclic}
use Rattle.fault_secure.specs.CodePlan.{CodePlan, monitored}
use Rattle.fault_secure.specs.Depends.{InFunction}
use Rattle.fault_secure.specs.Structure.{IsUnate}
use Rattle.fault_secure.specs.FailingCell.{SettlesBut}

-- from a to b, if at all, towards d
abbrev pub Moves : Bool → Bool → Bool → Type 0
Moves d a b = (a ≡ b) ⊎ (b ≡ d)

-- no node outside the function drives the net: it is an input, a latch output, or driven by a node of the function
abbrev pub IsOfFunction : Circuit → CodePlan → ℕ → Type 0
IsOfFunction N P net = (q : ℕ) → q < length N.nodes → net ≡ node_net N q → InFunction N P q

-- from v to u the nets of the function, and so the monitored ones, move in one direction
pub record MovesOneWay (N : Circuit) (P : CodePlan) (v u : List Bool) : Type 0 where
  pub direction : Bool
  pub nets : (net : ℕ) → IsOfFunction N P net → Moves direction (bit v net) (bit u net)
  pub monitors : (net : ℕ) → Contains (monitored N P) net → Moves direction (bit v net) (bit u net)

-- in an acyclic unate function, between two valuations that settle at every net except one cell's, with the same input and state bits
abbrev pub OneWayErrors : Type 0
OneWayErrors = (N : Circuit) (P : CodePlan) (cell : ℕ) (x s : ℕ → Bool) (v u : List Bool)
    → Acyclic N → IsUnate N P → SettlesBut N cell x s v → SettlesBut N cell x s u → MovesOneWay N P v u
