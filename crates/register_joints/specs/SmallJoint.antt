-- A small joint of both kinds: a twin with a watch, for a circuit with one register, and a netlist of one AND gate, for a network, under one pair
-- of rails. It guards against definitions that nothing meets.
use Rattle.std.specs.Prelude.{◌≡◌, ℕ, zero, suc, ◌+◌, ◌<◌, Bool, true, List, [], ◌∷◌, length, slice_index}
use Rattle.tsc_cover.specs.Gates.{and_cover, buf_cover, not_cover, xor_cover}
use Rattle.fault_secure.specs.Circuit.{Circuit, gate, bit}
use Rattle.fault_secure.specs.Logic.{Network}
use Rattle.fault_secure.specs.FailingCell.{RunsBut}
use Rattle.fault_secure.specs.FaultSecure.{at_step}
use Rattle.structure_laws.specs.Toggle.{straight, crossed}
use Rattle.structure_laws.specs.SmallNetlist.{small_netlist, small_plan, small_source as small_network}
use Rattle.joint_laws.specs.Joint.{JointOf, IsJoint}
use Rattle.joint_laws.specs.JointSecure.{JointRailsAgree}
use Rattle.joint_laws.specs.JointCircuit.{MemberOf, TreeOf, joint_of}
use Rattle.register_laws.specs.SmallTwin.{small_source as small_registers, small_twin, small_register_plan}
use Rattle.register_joints.specs.PartSource.{PartSource, Logical, Registers}
use Rattle.register_joints.specs.SourcesSecure.{IsCellSecureForSources, IsFaultSecureForSources}

-- the joint has the inputs a and b. The twin reads b, and the netlist a and b. The twin's plan lists no states: to it registers are further inputs
abbrev pub twin_member : MemberOf
twin_member = record { circuit = small_twin; plan = record small_register_plan.plan { latches = 0 }; inputs = 1 ∷ [] }

-- the member that is the netlist of a network
abbrev pub network_member : MemberOf
network_member = record { circuit = small_netlist; plan = small_plan; inputs = 0 ∷ 1 ∷ [] }

-- the nets of two pairs of rails
abbrev pub two_pairs : List ℕ → List ℕ
two_pairs word = slice_index word 0 ∷ slice_index word 1 ∷ slice_index word 2 ∷ slice_index word 3 ∷ []

-- the tree over two pairs: one cell of a checker, of two nodes
abbrev pub pair_tree : List ℕ → ℕ → TreeOf
pair_tree word next = record { nodes = gate straight (two_pairs word) ∷ gate crossed (two_pairs word) ∷ []; rail1 = next; rail2 = next + 1 }

-- the joint of both
abbrev pub small_joint : JointOf
small_joint = joint_of 2 (twin_member ∷ network_member ∷ []) 2 pair_tree

-- the source of each part: a circuit with registers, and a network
abbrev pub small_sources : ℕ → PartSource
small_sources zero = Registers small_registers
small_sources (suc i) = Logical (Network small_network)

-- a and b are the nets 0 and 1, the registers 2 and 3; the nodes of the twin drive 4 to 9, those of the netlist 10 to 14, those of the tree 15 and 16
abbrev pub small_circuit : Circuit
small_circuit = record {
  inputs = 2;
  latches = record { reads = 4; init = true } ∷ record { reads = 5; init = true } ∷ [];
  nodes = gate xor_cover (1 ∷ 2 ∷ [])
      ∷ gate xor_cover (1 ∷ 3 ∷ [])
      ∷ gate not_cover (5 ∷ [])
      ∷ gate not_cover (3 ∷ [])
      ∷ gate straight (4 ∷ 6 ∷ 2 ∷ 7 ∷ [])
      ∷ gate crossed (4 ∷ 6 ∷ 2 ∷ 7 ∷ [])
      ∷ gate and_cover (0 ∷ 1 ∷ [])
      ∷ gate and_cover (0 ∷ 1 ∷ [])
      ∷ gate not_cover (11 ∷ [])
      ∷ gate buf_cover (10 ∷ [])
      ∷ gate buf_cover (12 ∷ [])
      ∷ gate straight (8 ∷ 9 ∷ 13 ∷ 14 ∷ [])
      ∷ gate crossed (8 ∷ 9 ∷ 13 ∷ 14 ∷ [])
      ∷ [];
  outputs = 4 ∷ 10 ∷ 15 ∷ 16 ∷ [];
}

-- this is the circuit of the joint
abbrev pub SmallIsJoined : Type 0
SmallIsJoined = small_joint.circuit ≡ small_circuit

-- it is a joint
abbrev pub SmallIsJoint : Type 0
SmallIsJoint = IsJoint small_joint

-- secure for both sources against any one failing cell
abbrev pub SmallJointIsSecure : Type 0
SmallJointIsSecure = IsCellSecureForSources small_sources small_joint

-- and against each listed fault
abbrev pub SmallJointIsFaultSecure : Type 0
SmallJointIsFaultSecure = IsFaultSecureForSources small_sources small_joint

-- and its watch is heard: whichever latch fails in any way, at each step at which the register and its copy differ, the joint's rails agree
abbrev pub SmallWatchIsHeard : Type 0
SmallWatchIsHeard = (latch : ℕ) (xs us : List (List Bool)) (step : ℕ) → latch < 2 → RunsBut small_joint.circuit (2 + latch) xs us → step < length xs
    → (bit (at_step us step) 2 ≡ bit (at_step us step) 3 → ⊥) → JointRailsAgree small_joint (at_step us step)
