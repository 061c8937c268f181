-- The nodes of a checker, in an order in which they can be settled.
use Rattle.std.specs.Prelude.{◌≡◌, ℕ, ◌<◌, Bool, not, ◌&&◌, List, [], ◌∷◌, length, Contains}
use Rattle.std.specs.List.{filter}
use Rattle.fault_secure.specs.Circuit.{Circuit, node, node_net, pin_net, bit}
use Rattle.fault_secure.specs.CodePlan.{CodePlan}
use Rattle.fault_secure.specs.Depends.{InChecker}

-- a node reads none of the nets that these nodes drive
abbrev pub ReadsNone : Circuit → ℕ → List ℕ → Type 0
ReadsNone N q places = (pin r : ℕ) → pin < length (node N q).reads → Contains places r → pin_net N q pin ≡ node_net N r → ⊥

-- each node stands once, and reads neither itself nor a later one
abbrev pub AreInOrder : Circuit → List ℕ → Type 0
AreInOrder N [] = Unit {0}
AreInOrder N (q ∷ places) = ReadsNone N q (q ∷ places) × (Contains places q → ⊥) × AreInOrder N places

-- the nodes of the checker in order
pub record IsProgram (N : Circuit) (P : CodePlan) (places : List ℕ) : Type 0 where
  pub order : AreInOrder N places
  pub sound : (q : ℕ) → Contains places q → (q < length N.nodes) × InChecker N P q
  pub whole : (q : ℕ) → q < length N.nodes → InChecker N P q → Contains places q

-- the nodes of an order that a rail depends on and that aren't of the function
abbrev pub checker_places : List Bool → List Bool → List ℕ → List ℕ
checker_places rails function order = filter (λ place. bit rails place && not (bit function place)) order
