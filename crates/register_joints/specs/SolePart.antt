-- A joint of one part, without a tree: its rails are the joint's. The statements of the laws.
use Rattle.std.specs.Prelude.{[], ◌∷◌, length}
use Rattle.fault_secure.specs.Circuit.{Circuit}
use Rattle.fault_secure.specs.Settle.{Acyclic}
use Rattle.fault_secure.specs.CodePlan.{CodePlan}
use Rattle.joint_laws.specs.Joint.{JointOf, IsJoint}
use Rattle.register_joints.specs.PartSource.{PartSource, IsPartSecure}
use Rattle.register_joints.specs.SourcesSecure.{IsCellSecureForSources}

-- the netlist with its plan as a joint of itself alone
abbrev pub sole : Circuit → CodePlan → JointOf
sole N P = record {
  circuit = N;
  parts = record { circuit = N; plan = P; at = λ net. net; first_latch = 0; first_node = 0 } ∷ [];
  rail1 = P.rail1;
  rail2 = P.rail2;
  tree = length N.nodes;
}

-- it is a joint
abbrev pub SoleIsJoint : Type 0
SoleIsJoint = (N : Circuit) (P : CodePlan) → IsJoint (sole N P)

-- and secure for the source for which its part is
abbrev pub SoleIsSecure : Type 0
SoleIsSecure = (source : PartSource) (N : Circuit) (P : CodePlan) → Acyclic N → IsPartSecure source N P → IsCellSecureForSources (λ i. source) (sole N P)
