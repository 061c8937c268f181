-- The joint netlist of parts is a joint of them, and secure where each is: the statements of the laws.
use Rattle.std.specs.Prelude.{◌≡◌, ℕ, ◌+◌, ◌<◌, ◌^◌, Bool, List, [], ◌∷◌, length, slice_index_or, Some, None, IsFalse}
use Rattle.std.specs.List.{sum_by}
use Rattle.fault_secure.specs.CodePlan.{CodePlan, IsPlanOf}
use Rattle.fault_secure.specs.Circuit.{Circuit, latch_net, node_net, nets}
use Rattle.fault_secure.specs.Closed.{IsClosed}
use Rattle.fault_secure.specs.Settle.{Acyclic}
use Rattle.fault_secure.specs.Logic.{Logic}
use Rattle.fault_secure.specs.CellSecure.{IsCellSecure}
use Rattle.fault_secure.specs.FaultSecure.{IsFaultSecure}
use Rattle.tsc_net.specs.Names.{has_text, text_at}
use Rattle.tsc_net.specs.NetlistOf.{NetlistOf, IsBuilt}
use Rattle.tsc_text.specs.TextLine.{TextLine}
use Rattle.blif_read.specs.Denotes.{plan_circuit}
use Rattle.blif_read.specs.PlanText.{seen_circuit}
use Rattle.blif_read.specs.declared.clocks.Clock.{Clock}
use Rattle.blif_read.specs.declared.kinds.Kind.{Kind}
use Rattle.code_checkers.specs.Tree.{tree_gates}
use Rattle.joint_laws.specs.Joint.{IsJoint, part, no_part}
use Rattle.joint_laws.specs.JointSecure.{IsJointCellSecure, IsJointFaultSecure}
use Rattle.register_joints.specs.PartSource.{PartSource, IsPartSecure, IsPartFaultSecure}
use Rattle.register_joints.specs.SourcesSecure.{IsCellSecureForSources, IsFaultSecureForSources}
use Rattle.module_join.specs.JointNet.{PlannedOf, joint_inputs, joint_clock, taken_names, joint_prefix, own_text, tree_text, joint, joint_netlist}

-- what stands past the end of a list of netlists with plans
abbrev pub no_planned : PlannedOf
no_planned = record { net = record { circuit = no_part.circuit; names = []; model = [] }; plan = no_part.plan; clock = None }

-- netlist number i with its plan, and `no_planned` past the end
abbrev pub planned : List PlannedOf → ℕ → PlannedOf
planned parts i = slice_index_or parts i no_planned

-- what a joint shows of a circuit is what the plan says: the circuit's outputs are the plan's and then two rails, and the rails are nets of it.
-- Groups, checks and states a joint doesn't look at
pub record IsShownBy (N : Circuit) (P : CodePlan) : Type 0 where
  pub outputs : length N.outputs ≡ P.outputs + 2
  pub rails : (P.rail1 < nets N) × (P.rail2 < nets N)

-- the netlist was built, and the plan says what a joint shows of it
pub record IsPlanned (p : PlannedOf) : Type 0 where
  pub built : IsBuilt p.net
  pub plan : IsShownBy p.net.circuit p.plan

-- each of the netlists was built, and its plan says what a joint shows of it
abbrev pub ArePlanned : List PlannedOf → Type 0
ArePlanned [] = Unit {0}
ArePlanned (p ∷ parts) = IsPlanned p × ArePlanned parts

-- the joint of parts: a joint, closed and without a ring, whose part number i is the i-th netlist with
-- its plan. Each input of a part is the joint's input of that name; the nodes are those of the parts and of the tree
pub record IsJointOf (parts : List PlannedOf) : Type 0 where
  pub is_joint : IsJoint (joint parts)
  pub acyclic : Acyclic (joint parts).circuit
  pub closed : IsClosed (joint parts).circuit
  pub counted : length (joint parts).parts ≡ length parts
  pub nodes : length (joint parts).circuit.nodes ≡ sum_by (λ (p : PlannedOf). length p.net.circuit.nodes) parts + tree_gates (length parts)
  pub circuits : (i : ℕ) → i < length parts → (part (joint parts) i).circuit ≡ (planned parts i).net.circuit
  pub plans : (i : ℕ) → i < length parts → (part (joint parts) i).plan ≡ (planned parts i).plan
  pub inputs : (i k : ℕ) → i < length parts → k < (planned parts i).net.circuit.inputs
      → text_at (joint_netlist parts).names ((part (joint parts) i).at k) ≡ text_at (planned parts i).net.names k

abbrev pub JoinIsJoint : Type 0
JoinIsJoint = (parts : List PlannedOf) → 0 < length parts → ArePlanned parts → IsJointOf parts

abbrev pub JoinIsCellSecure : Type 0
JoinIsCellSecure = (M : ℕ → Logic) (parts : List PlannedOf) → 0 < length parts → ArePlanned parts
    → ((i : ℕ) → i < length parts → IsCellSecure (M i) (planned parts i).net.circuit (planned parts i).plan) → IsJointCellSecure M (joint parts)

abbrev pub JoinIsFaultSecure : Type 0
JoinIsFaultSecure = (M : ℕ → Logic) (parts : List PlannedOf) → 0 < length parts → ArePlanned parts
    → ((i : ℕ) → i < length parts → IsFaultSecure (M i) (planned parts i).net.circuit (planned parts i).plan) → IsJointFaultSecure M (joint parts)

-- parts that are secure for their sources, logic or circuits with registers, have a joint that is so for all of them, whichever one cell fails
abbrev pub JoinIsSecureForSources : Type 0
JoinIsSecureForSources = (source : ℕ → PartSource) (parts : List PlannedOf) → 0 < length parts → ArePlanned parts
    → ((i : ℕ) → i < length parts → IsPartSecure (source i) (planned parts i).net.circuit (planned parts i).plan)
    → IsCellSecureForSources source (joint parts)

-- and so whichever listed fault is present, at any steps
abbrev pub JoinIsFaultSecureForSources : Type 0
JoinIsFaultSecureForSources = (source : ℕ → PartSource) (parts : List PlannedOf) → 0 < length parts → ArePlanned parts
    → ((i : ℕ) → i < length parts → IsPartFaultSecure (source i) (planned parts i).net.circuit (planned parts i).plan)
    → IsFaultSecureForSources source (joint parts)

-- the joint netlist is one as it is built: different nets have different names
abbrev pub JoinIsBuilt : Type 0
JoinIsBuilt = (parts : List PlannedOf) → 0 < length parts → ArePlanned parts
    → nets (joint parts).circuit < 2 ^ 32 → IsBuilt (joint_netlist parts)

-- the name of each net is that of where it comes from. For a latch or node of a part it is the part's own name of it, after the prefix and the
-- part's number; for a node of the tree it is its number
pub record NamesFollow (parts : List PlannedOf) : Type 0 where
  pub latches : (i l : ℕ) → i < length parts → l < length (planned parts i).net.circuit.latches
      → text_at (joint_netlist parts).names ((part (joint parts) i).at (latch_net (planned parts i).net.circuit l))
      ≡ own_text (joint_prefix (taken_names parts)) i (text_at (planned parts i).net.names (latch_net (planned parts i).net.circuit l))
  pub nodes : (i j : ℕ) → i < length parts → j < length (planned parts i).net.circuit.nodes
      → text_at (joint_netlist parts).names ((part (joint parts) i).at (node_net (planned parts i).net.circuit j))
      ≡ own_text (joint_prefix (taken_names parts)) i (text_at (planned parts i).net.names (node_net (planned parts i).net.circuit j))
  pub tree : (k : ℕ) → k < tree_gates (length parts)
      → text_at (joint_netlist parts).names (node_net (joint parts).circuit ((joint parts).tree + k)) ≡ tree_text (joint_prefix (taken_names parts)) k

abbrev pub JoinNamesNets : Type 0
JoinNamesNets = (parts : List PlannedOf) → 0 < length parts → ArePlanned parts → NamesFollow parts

-- a control that is no input's name is the name of no net of the joint
abbrev pub ControlIsNoNet : Type 0
ControlIsNoNet = (parts : List PlannedOf) (clock : Clock) → 0 < length parts → ArePlanned parts → nets (joint parts).circuit < 2 ^ 32
    → joint_clock parts ≡ Some clock → IsFalse (has_text (joint_inputs parts) clock.control)
    → IsFalse (has_text (joint_netlist parts).names clock.control)

-- ---- which plans show a circuit

-- a plan of the circuit
abbrev pub PlanShows : Type 0
PlanShows = (N : Circuit) (P : CodePlan) → IsPlanOf N P → IsShownBy N P

-- a plan of the circuit as a plan sees it: with its registers as further inputs, where no states are listed
abbrev pub SeenPlanShows : Type 0
SeenPlanShows = (lists : Bool) (N : Circuit) (P : CodePlan) → IsPlanOf (seen_circuit lists N) P → IsShownBy N P

-- so the plan that is read with a netlist, whatever is read
abbrev pub ReadPlanShows : Type 0
ReadPlanShows = (kind : Kind) (lines : List TextLine) (net : NetlistOf) (P : CodePlan) → IsPlanOf (plan_circuit kind lines net) P → IsShownBy net.circuit P
