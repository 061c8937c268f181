-- Parts of both kinds, for logic and for circuits with registers, make a secure whole: the statements of the laws.
use Rattle.std.specs.Prelude.{◌≡◌, ℕ, ◌<◌, Bool, List, length, IsTrue}
use Rattle.tsc_bits.specs.Counting.{odd}
use Rattle.fault_secure.specs.Circuit.{Circuit, latch_net, nets}
use Rattle.fault_secure.specs.Settle.{Acyclic}
use Rattle.fault_secure.specs.Stretch.{StretchSettles}
use Rattle.fault_secure.specs.CodePlan.{CodePlan, RailsAgree}
use Rattle.fault_secure.specs.Logic.{Logic}
use Rattle.fault_secure.specs.CellSecure.{IsCellSecure}
use Rattle.fault_secure.specs.FailingCell.{RunsBut}
use Rattle.fault_secure.specs.FaultSecure.{at_step}
use Rattle.joint_laws.specs.Parts.{as_part}
use Rattle.joint_laws.specs.Joint.{JointOf, IsJoint, part}
use Rattle.joint_laws.specs.JointSecure.{JointRailsAgree, IsJointCellSecure, IsJointFaultSecure}
use Rattle.register_laws.specs.RegisterPlan.{RegisterPlan}
use Rattle.register_laws.specs.RegisterSecure.{IsRegisterSecure, IsRegisterFaultSecure}
use Rattle.register_laws.specs.RegisterStructure.{RegisterCheckerSettles, DecidesGroups}
use Rattle.register_laws.specs.Twin.{Placing}
use Rattle.register_laws.specs.Watch.{DriversSettle, IsWatchOf, differences}
use Rattle.register_joints.specs.PartSource.{PartSource, Logical, Registers, IsSeenAlike, IsPartSecure, IsPartFaultSecure}
use Rattle.register_joints.specs.SourcesSecure.{IsCellSecureForSources, IsFaultSecureForSources}

-- parts that are secure for their sources against any one failing cell make a joint that is so for all of them, whichever cell fails
abbrev pub SecurePartsJoin : Type 0
SecurePartsJoin = (source : ℕ → PartSource) (J : JointOf) → IsJoint J → Acyclic J.circuit
    → ((i : ℕ) → i < length J.parts → IsPartSecure (source i) (part J i).circuit (part J i).plan) → IsCellSecureForSources source J

-- and those that are so against each listed fault make a joint that is so, whichever listed fault of it is present, at any steps
abbrev pub FaultSecurePartsJoin : Type 0
FaultSecurePartsJoin = (source : ℕ → PartSource) (J : JointOf) → IsJoint J → Acyclic J.circuit
    → ((i : ℕ) → i < length J.parts → IsPartFaultSecure (source i) (part J i).circuit (part J i).plan) → IsFaultSecureForSources source J

-- a joint that is secure for the sources against any one failing cell is so against each listed fault
abbrev pub SourceCellsCoverFaults : Type 0
SourceCellsCoverFaults = (source : ℕ → PartSource) (J : JointOf) → Acyclic J.circuit → IsCellSecureForSources source J → IsFaultSecureForSources source J

-- ---- which parts are secure

-- for logic: what is secure against any one failing cell
abbrev pub CellSecureIsPart : Type 0
CellSecureIsPart = (M : Logic) (N : Circuit) (P : CodePlan) → IsCellSecure M N P → IsPartSecure (Logical M) N P

-- for a circuit with registers: what is secure, under a plan in which a joint sees the same
abbrev pub RegisterSecureIsPart : Type 0
RegisterSecureIsPart = (S N : Circuit) (P : RegisterPlan) (Q : CodePlan) → IsSeenAlike P.plan Q → IsRegisterSecure S N P → IsPartSecure (Registers S) N Q

-- and against each listed fault
abbrev pub RegisterFaultSecureIsPart : Type 0
RegisterFaultSecureIsPart = (S N : Circuit) (P : RegisterPlan) (Q : CodePlan) → IsSeenAlike P.plan Q → IsRegisterFaultSecure S N P
    → IsPartFaultSecure (Registers S) N Q

-- ---- where every source is logic

-- what is secure for logic alone is secure in the sense of joints of such parts, against any one failing cell
abbrev pub LogicalCellsJoin : Type 0
LogicalCellsJoin = (M : ℕ → Logic) (J : JointOf) → IsCellSecureForSources (λ i. Logical (M i)) J → IsJointCellSecure M J

-- and against each listed fault
abbrev pub LogicalFaultsJoin : Type 0
LogicalFaultsJoin = (M : ℕ → Logic) (J : JointOf) → IsFaultSecureForSources (λ i. Logical (M i)) J → IsJointFaultSecure M J

-- ---- alarms

-- the tree works in a valuation of the joint: it has one bit per net, and the nodes of the tree settle
pub record TreeSettles (J : JointOf) (v : List Bool) : Type 0 where
  pub sized : length v ≡ nets J.circuit
  pub settles : StretchSettles J.circuit v J.tree (length J.circuit.nodes)

-- the bits of a part in a valuation of the joint
abbrev pub part_in : JointOf → ℕ → List Bool → List Bool
part_in J i v = as_part (part J i).circuit (part J i).at v

-- where the tree works, an alarm of a part is one of the joint
abbrev pub AlarmsJoin : Type 0
AlarmsJoin = (J : JointOf) (i : ℕ) (v : List Bool) → IsJoint J → i < length J.parts → TreeSettles J v
    → RailsAgree (part J i).plan (part_in J i v) → JointRailsAgree J v

-- so is the watch of a part, under a plan in which a joint sees what it sees in the part's: where an odd number of its registers differs from their
-- copies, the joint's rails agree, wherever the part's checker, the check of its watch and the tree work
abbrev pub WatchesJoin : Type 0
WatchesJoin = (S : Circuit) (J : JointOf) (i : ℕ) (P : RegisterPlan) (own copy : Placing) (registers : List ℕ) (check : ℕ) (v : List Bool)
    → IsJoint J → i < length J.parts → IsSeenAlike P.plan (part J i).plan
    → DecidesGroups (part J i).circuit P → IsWatchOf S (part J i).circuit P own copy registers check
    → TreeSettles J v → RegisterCheckerSettles (part J i).circuit P (part_in J i v) → DriversSettle (part J i).circuit check (part_in J i v)
    → IsTrue (odd (differences (part J i).circuit own copy registers (part_in J i v))) → JointRailsAgree J v

-- so where one latch of the joint fails in any way: at each step at which an odd number of a part's registers differs from their copies, the
-- joint's rails agree at that very step
abbrev pub WatchesHearLatches : Type 0
WatchesHearLatches = (S : Circuit) (J : JointOf) (i : ℕ) (P : RegisterPlan) (own copy : Placing) (registers : List ℕ) (check : ℕ)
    (latch : ℕ) (xs us : List (List Bool)) (step : ℕ)
    → IsJoint J → i < length J.parts → IsSeenAlike P.plan (part J i).plan
    → DecidesGroups (part J i).circuit P → IsWatchOf S (part J i).circuit P own copy registers check
    → latch < length J.circuit.latches → RunsBut J.circuit (latch_net J.circuit latch) xs us → step < length xs
    → IsTrue (odd (differences (part J i).circuit own copy registers (part_in J i (at_step us step)))) → JointRailsAgree J (at_step us step)
