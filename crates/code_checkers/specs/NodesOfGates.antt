-- The gates of a checker in a netlist, each with its net.
use Rattle.std.specs.Prelude.{◌≡◌, ℕ, drop, slice_index}
use Rattle.fault_secure.specs.Circuit.{Circuit, node_net}
use Rattle.fault_secure.specs.CodePlan.{CodePlan, monitored}
use Rattle.code_checkers.specs.GateList.{GateList}
use Rattle.code_checkers.specs.Nodes.{AllStand}
use Rattle.code_checkers.specs.CheckerNodes.{gate_nets, gate_nodes, checker_nodes, rail1_net, rail2_net}

-- each gate stands in the netlist from place lo on, over nets of which the plan's rails are those of the gates' rails
pub record StandsFrom (N : Circuit) (P : CodePlan) (lo : ℕ) (made : GateList) : Type 0 where
  pub net : ℕ → ℕ
  pub all : AllStand N P lo net made.gates
  pub first : net made.rail1 ≡ P.rail1
  pub second : net made.rail2 ≡ P.rail2

-- from place lo on the netlist has the nodes of the gates, in their order and no others, and the plan's rails are those of the gates
pub record EndsInGates (N : Circuit) (P : CodePlan) (lo : ℕ) (made : GateList) : Type 0 where
  pub nodes : drop lo N.nodes ≡ gate_nodes (gate_nets (monitored N P) (node_net N lo) made.gates) made.gates
  pub first : slice_index (gate_nets (monitored N P) (node_net N lo) made.gates) made.rail1 ≡ P.rail1
  pub second : slice_index (gate_nets (monitored N P) (node_net N lo) made.gates) made.rail2 ≡ P.rail2

-- from place lo on the netlist has the nodes of the plan's checker and no others, and its rails are those of the checker
pub record EndsInChecker (N : Circuit) (P : CodePlan) (lo : ℕ) : Type 0 where
  pub nodes : drop lo N.nodes ≡ checker_nodes P (monitored N P) (node_net N lo)
  pub first : rail1_net P (monitored N P) (node_net N lo) ≡ P.rail1
  pub second : rail2_net P (monitored N P) (node_net N lo) ≡ P.rail2
