-- The laws of duplex netlists: their statements.
use Rattle.std.specs.Prelude.{◌≡◌, ◌≤◌, length}
use Rattle.fault_secure.specs.CodePlan.{CodePlan}
use Rattle.fault_secure.specs.CellSecure.{IsCellSecure}
use Rattle.fault_secure.specs.FaultSecure.{IsFaultSecure}
use Rattle.fault_secure.specs.Logic.Logic.{Network}
use Rattle.tsc_net.specs.NetlistOf.{NetlistOf, IsBuilt}
use Rattle.parity_code.specs.FirstFit.{first_fit_groups}
use Rattle.code_checkers.specs.GateList.{GateList}
use Rattle.parity_synth.specs.ParityNet.{parity_plan, parity_circuit, parity_netlist}
use Rattle.duplex_synth.specs.DuplexNet.{duplex_plan, duplex_circuit, duplex_netlist, IsDuplexNetlist}
use Rattle.duplex_synth.specs.Duplexable.{IsDuplexable}

-- a network has one duplex netlist, with one plan
abbrev pub OneDuplexNetlist : Type 0
OneDuplexNetlist = (S N K : NetlistOf) (P Q : CodePlan) → IsDuplexNetlist S N P → IsDuplexNetlist S K Q → (N ≡ K) × (P ≡ Q)

-- it is secure against any one failing cell, and against any listed fault
abbrev pub DuplexIsSecure : Type 0
DuplexIsSecure = (S N : NetlistOf) (P : CodePlan) (made : GateList) → IsDuplexable S made → IsBuilt N → IsDuplexNetlist S N P
    → IsCellSecure (Network S.circuit) N.circuit P × IsFaultSecure (Network S.circuit) N.circuit P

-- it has no more covers than the parity netlist of the network
abbrev pub DuplexIsNoLarger : Type 0
DuplexIsNoLarger = (S : NetlistOf) (made : GateList) → IsDuplexable S made → length (duplex_circuit S.circuit).nodes ≤ length (parity_circuit S.circuit).nodes

-- with one group it is that netlist, with its plan
abbrev pub OneGroupIsParity : Type 0
OneGroupIsParity = (S : NetlistOf) (made : GateList) → IsDuplexable S made → length (first_fit_groups S.circuit) ≡ 1 → (duplex_netlist S ≡ parity_netlist S) × (duplex_plan S.circuit ≡ parity_plan S.circuit)
