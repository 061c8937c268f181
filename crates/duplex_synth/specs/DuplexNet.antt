-- The duplex netlist of a network with its plan: each node, net and name of it, computed from the network alone. After the source's
-- own covers it has one copy of them, which all groups of outputs share, and over the copies the check of each group.
use Rattle.std.specs.Prelude.{◌≡◌, ℕ, ◌+◌, ◌*◌, ◌^◌, List, length}
use Rattle.fault_secure.specs.Circuit.{Circuit, NodeOf}
use Rattle.fault_secure.specs.CodePlan.{CodePlan}
use Rattle.fault_secure.specs.Size.{network_size}
use Rattle.tsc_net.specs.NetlistOf.{NetlistOf}
use Rattle.parity_code.specs.FirstFit.{first_fit_groups}
use Rattle.parity_code.specs.GroupChecks.{group_check_nets, shared_checks}
use Rattle.parity_synth.specs.CheckedNet.{kept_places, checked_plan, checked_circuit, checked_netlist}

-- the logic of the checks, after the own covers
abbrev pub duplex_logic : Circuit → List NodeOf
duplex_logic C = shared_checks C (kept_places C) (first_fit_groups C) (length (kept_places C))

-- the nets of the checks
abbrev pub duplex_checks : Circuit → List ℕ
duplex_checks C = group_check_nets C.inputs (first_fit_groups C) (length (kept_places C) + length (kept_places C))

-- the plan of the duplex netlist of a network
abbrev pub duplex_plan : Circuit → CodePlan
duplex_plan C = checked_plan C (duplex_logic C) (duplex_checks C)

abbrev pub duplex_circuit : Circuit → Circuit
duplex_circuit C = checked_circuit C (duplex_logic C) (duplex_checks C)

-- the duplex netlist of a network: its circuit and its names
abbrev pub duplex_netlist : NetlistOf → NetlistOf
duplex_netlist S = checked_netlist S (duplex_logic S.circuit) (duplex_checks S.circuit)

-- the netlist and the plan are exactly those of the network
pub record IsDuplexNetlist (S N : NetlistOf) (P : CodePlan) : Type 0 where
  pub net : N ≡ duplex_netlist S
  pub plan : P ≡ duplex_plan S.circuit

-- how many covers a duplex netlist has at most: parity's bound with one group, however many there are
abbrev pub duplex_bound : Circuit → ℕ
duplex_bound C = 4 * (3 * network_size C + C.inputs + 16 * (length C.outputs + 1) ^ 2)
