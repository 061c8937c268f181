-- Cones: which nodes a net depends on.
use Rattle.std.specs.Prelude.{◌≡◌, ℕ, ◌<◌, ◌⊎◌, length, Contains}
use Rattle.fault_secure.specs.Circuit.{Circuit, node, node_net, pin_net}
use Rattle.fault_secure.specs.CodePlan.{CodePlan, monitored}

-- the net depends on node q: q drives it, or it is driven by a node with a pin whose net depends on q. Latches aren't crossed.
pub data Depends (N : Circuit) (q : ℕ) : ℕ → Type 0 where
  itself : (net : ℕ) → q < length N.nodes → net ≡ node_net N q → Depends N q net
  through : (net j pin : ℕ) → j < length N.nodes → net ≡ node_net N j → pin < length (node N j).reads → Depends N q (pin_net N j pin) → Depends N q net

-- node q is of the function: some monitored net depends on it
pub record InFunction (N : Circuit) (P : CodePlan) (q : ℕ) : Type 0 where
  pub net : ℕ
  pub monitors : Contains (monitored N P) net
  pub depends : Depends N q net

-- node q is of the checker: a rail depends on it, and it isn't of the function
pub record InChecker (N : Circuit) (P : CodePlan) (q : ℕ) : Type 0 where
  pub depends : Depends N q P.rail1 ⊎ Depends N q P.rail2
  pub outside : InFunction N P q → ⊥
