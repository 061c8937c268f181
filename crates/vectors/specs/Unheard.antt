-- Faults at nodes on which no rail depends: none of them changes a rail, so that all are exposed at the same points.
use Rattle.std.specs.Prelude.{◌≡◌, ℕ, ◌<◌, List, [], ◌∷◌, length, IfSome}
use Rattle.fault_secure.specs.Circuit.{Circuit, node_net}
use Rattle.fault_secure.specs.CodePlan.{CodePlan}
use Rattle.fault_secure.specs.Depends.{Depends}
use Rattle.fault_secure.specs.StuckAt.{StuckAt, NoFault, fault_cell}
use Rattle.net_cones.specs.Cones.{MarksCone}
use Rattle.lane_sim.specs.Points.{PointsState}
use Rattle.lane_sim.specs.FaultBench.{AgreeUnder}
use Rattle.lane_sim.specs.First.{IsFirstIn}
use Rattle.vectors.specs.declared.unheard.Unheard.{Unheard}

-- the fault is at a node on which no rail depends
pub record IsUnheard (N : Circuit) (P : CodePlan) (f : StuckAt) : Type 0 where
  pub node : ℕ
  pub inside : node < length N.nodes
  pub at : fault_cell f ≡ node_net N node
  pub first : Depends N node P.rail1 → ⊥
  pub second : Depends N node P.rail2 → ⊥

-- the rails, as a list
abbrev pub rails : CodePlan → List ℕ
rails P = P.rail1 ∷ P.rail2 ∷ []

-- what is known of such faults: which nodes the rails depend on, and where the rails agree, if that was sought
pub record IsKnown (N : Circuit) (P : CodePlan) (points : PointsState) (many : ℕ) (unheard : Unheard) : Type 0 where
  pub marks : MarksCone N (rails P) unheard.heard.items
  pub found : IfSome unheard.found (IsFirstIn (AgreeUnder N NoFault points P.rail1 P.rail2) 0 many)
