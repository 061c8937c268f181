-- What the text of the joint says, and that it is secure where each part is: the statements of the laws.
use Rattle.std.specs.Prelude.{◌≡◌, ℕ, ◌<◌, ◌≤◌, List, [], ◌∷◌, length}
use Rattle.fault_secure.specs.Logic.{Logic}
use Rattle.fault_secure.specs.CellSecure.{IsCellSecure}
use Rattle.fault_secure.specs.FaultSecure.{IsFaultSecure}
use Rattle.fault_secure.specs.Circuit.{nets}
use Rattle.tsc_net.specs.Limits.{most_nets}
use Rattle.tsc_net.specs.NetlistOf.{named_of, netlist_of}
use Rattle.blif_read.specs.NamedText.{named_text}
use Rattle.blif_write.specs.RegisterText.{clock_words}
use Rattle.blif_write.specs.Told.{IsTellable, IsToldClock, TellsRegisters, clocked_before_end}
use Rattle.joint_laws.specs.Joint.{JointOf}
use Rattle.joint_laws.specs.JointSecure.{IsJointCellSecure, IsJointFaultSecure}
use Rattle.register_joints.specs.PartSource.{PartSource, IsPartSecure, IsPartFaultSecure}
use Rattle.register_joints.specs.SourcesSecure.{IsCellSecureForSources, IsFaultSecureForSources}
use Rattle.module_join.specs.JointNet.{PlannedOf, joint_clock, joint_inputs, joint, joint_netlist}
use Rattle.module_join.specs.JoinLaws.{planned, ArePlanned, IsJointOf}
use Rattle.joint_text.specs.JointText.{joint_bytes}
use Rattle.joint_text.specs.JointNamed.{joint_named}

-- a text tells the part: its netlist, which has at most as many nets as a netlist in a text, and its clock
pub record IsTellablePart (p : PlannedOf) : Type 0 where
  pub net : IsTellable p.net
  pub few : nets p.net.circuit ≤ most_nets
  pub clock : IsToldClock p.clock

-- a text tells each of the parts
abbrev pub AreTellable : List PlannedOf → Type 0
AreTellable [] = Unit {0}
AreTellable (p ∷ parts) = IsTellablePart p × AreTellable parts

-- 1 to 64 parts, each with a plan that shows it, that have at most 1,024 inputs
pub record AreJoinable (parts : List PlannedOf) : Type 0 where
  pub some : 0 < length parts
  pub few : length parts ≤ 64
  pub planned : ArePlanned parts
  pub inputs : length (joint_inputs parts) ≤ 1024

-- by names the joint netlist is what stands part by part
abbrev pub JointIsNamed : Type 0
JointIsNamed = (parts : List PlannedOf) → AreJoinable parts → named_of (joint_netlist parts) ≡ joint_named parts

-- the text of the joint tells the joint netlist with its clock, without plan lines, whatever the reader's limits are
abbrev pub JointTextTells : Type 0
JointTextTells = (parts : List PlannedOf) → 0 < length parts → length parts ≤ 64 → ArePlanned parts → AreTellable parts
    → TellsRegisters (joint_clock parts) (joint_bytes parts) (joint_netlist parts) []

-- a text tells a joint of parts that is so: it tells the joint netlist with its clock, which is a joint of the parts, and the circuit that
-- the text denotes is that of the joint
pub record TellsJoint (text : List ℕ) (parts : List PlannedOf) (Secure : JointOf → Type 0) : Type 0 where
  pub tells : TellsRegisters (joint_clock parts) text (joint_netlist parts) []
  pub is_joint : IsJointOf parts
  pub circuit : (netlist_of (named_text (clocked_before_end (clock_words (joint_clock parts)) (joint_netlist parts) []))).circuit ≡ (joint parts).circuit
  pub secure : Secure (joint parts)

abbrev pub JointTextIsCellSecure : Type 0
JointTextIsCellSecure = (M : ℕ → Logic) (parts : List PlannedOf) → 0 < length parts → length parts ≤ 64 → ArePlanned parts → AreTellable parts
    → ((i : ℕ) → i < length parts → IsCellSecure (M i) (planned parts i).net.circuit (planned parts i).plan)
    → TellsJoint (joint_bytes parts) parts (IsJointCellSecure M)

abbrev pub JointTextIsFaultSecure : Type 0
JointTextIsFaultSecure = (M : ℕ → Logic) (parts : List PlannedOf) → 0 < length parts → length parts ≤ 64 → ArePlanned parts → AreTellable parts
    → ((i : ℕ) → i < length parts → IsFaultSecure (M i) (planned parts i).net.circuit (planned parts i).plan)
    → TellsJoint (joint_bytes parts) parts (IsJointFaultSecure M)

-- so for sources of both kinds, logic and circuits with registers: whichever one cell fails
abbrev pub JointTextIsSecureForSources : Type 0
JointTextIsSecureForSources = (source : ℕ → PartSource) (parts : List PlannedOf) → 0 < length parts → length parts ≤ 64
    → ArePlanned parts → AreTellable parts
    → ((i : ℕ) → i < length parts → IsPartSecure (source i) (planned parts i).net.circuit (planned parts i).plan)
    → TellsJoint (joint_bytes parts) parts (IsCellSecureForSources source)

-- and whichever listed fault is present
abbrev pub JointTextIsFaultSecureForSources : Type 0
JointTextIsFaultSecureForSources = (source : ℕ → PartSource) (parts : List PlannedOf) → 0 < length parts → length parts ≤ 64
    → ArePlanned parts → AreTellable parts
    → ((i : ℕ) → i < length parts → IsPartFaultSecure (source i) (planned parts i).net.circuit (planned parts i).plan)
    → TellsJoint (joint_bytes parts) parts (IsFaultSecureForSources source)
