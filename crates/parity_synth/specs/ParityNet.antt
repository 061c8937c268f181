-- The parity netlist of a network with its plan: each node, net and name of them, computed from the network alone. After the source's
-- own covers it has a predictor for each first-fit group.
use Rattle.std.specs.Prelude.{◌≡◌, ℕ, List, map, length}
use Rattle.fault_secure.specs.Circuit.{Circuit, NodeOf}
use Rattle.fault_secure.specs.CodePlan.{CodePlan}
use Rattle.tsc_net.specs.NetlistOf.{NetlistOf}
use Rattle.net_cones.specs.ConeMarks.{cone_of}
use Rattle.parity_code.specs.FirstFit.{first_fit_groups}
use Rattle.parity_code.specs.ParityFunction.{outputs_at}
use Rattle.parity_code.specs.ParityCircuit.{GroupCone, all_predictors, check_nets}
use Rattle.parity_synth.specs.CheckedNet.{checked_plan, checked_nodes, checked_circuit, checked_netlist}
pub use Rattle.parity_synth.specs.CheckedNet.{kept_places, output_nets, names_with}

-- a group with the cone of its outputs
abbrev pub group_cone_of : Circuit → List ℕ → GroupCone
group_cone_of C group = record { group = group; cone = cone_of C (outputs_at C group) }

-- the first-fit groups with their cones
abbrev pub parity_groups : Circuit → List GroupCone
parity_groups C = map (group_cone_of C) (first_fit_groups C)

-- the logic of the checks: a predictor for each group
abbrev pub parity_logic : Circuit → List NodeOf
parity_logic C = all_predictors C (parity_groups C) (length (kept_places C))

-- the nets of the checks
abbrev pub parity_checks : Circuit → List ℕ
parity_checks C = check_nets C.inputs (parity_groups C) (length (kept_places C))

-- the plan of the parity netlist of a network
abbrev pub parity_plan : Circuit → CodePlan
parity_plan C = checked_plan C (parity_logic C) (parity_checks C)

abbrev pub parity_nodes : Circuit → List NodeOf
parity_nodes C = checked_nodes C (parity_logic C) (parity_checks C)

abbrev pub parity_circuit : Circuit → Circuit
parity_circuit C = checked_circuit C (parity_logic C) (parity_checks C)

-- the parity netlist of a network: its circuit and its names
abbrev pub parity_netlist : NetlistOf → NetlistOf
parity_netlist S = checked_netlist S (parity_logic S.circuit) (parity_checks S.circuit)

-- the netlist and the plan are exactly those of the network
pub record IsParityNetlist (S N : NetlistOf) (P : CodePlan) : Type 0 where
  pub net : N ≡ parity_netlist S
  pub plan : P ≡ parity_plan S.circuit
