-- Marks on nodes and nets: one for each, true exactly where it is what is asked.
use Rattle.std.specs.Prelude.{◌≡◌, ℕ, ◌<◌, ◌↔◌, Bool, List, length, Contains, IsTrue}
use Rattle.fault_secure.specs.Circuit.{Circuit, bit}
use Rattle.fault_secure.specs.CodePlan.{CodePlan}
use Rattle.fault_secure.specs.Depends.{InFunction}

-- so many marks, of which those at these places are set
pub record MarksPlaces (count : ℕ) (places : List ℕ) (marks : List Bool) : Type 0 where
  pub sized : length marks ≡ count
  pub exact : (q : ℕ) → q < count → IsTrue (bit marks q) ↔ Contains places q

-- a mark for each node: whether it is of the function
pub record MarksFunction (N : Circuit) (P : CodePlan) (marks : List Bool) : Type 0 where
  pub sized : length marks ≡ length N.nodes
  pub exact : (q : ℕ) → q < length N.nodes → IsTrue (bit marks q) ↔ InFunction N P q
