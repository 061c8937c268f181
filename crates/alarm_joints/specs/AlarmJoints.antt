-- Parts that are alarm-secure make a secure whole: the statement of the law.
use Rattle.std.specs.Prelude.{ℕ, ◌<◌, length}
use Rattle.fault_secure.specs.Settle.{Acyclic}
use Rattle.fault_secure.specs.Logic.{Logic}
use Rattle.point_laws.specs.Heard.{IsAlarmSecure}
use Rattle.joint_laws.specs.Joint.{JointOf, IsJoint, part}
use Rattle.joint_laws.specs.JointSecure.{IsJointCellSecure}

-- where with any one failing cell no wrong output of a part comes before its alarm, whatever its first wrong word shows, none of any part
-- comes before the joint's, whichever one cell of the joint fails
abbrev pub AlarmSecurePartsJoin : Type 0
AlarmSecurePartsJoin = (M : ℕ → Logic) (J : JointOf) → IsJoint J → Acyclic J.circuit
    → ((i : ℕ) → i < length J.parts → IsAlarmSecure (M i) (part J i).circuit (part J i).plan) → IsJointCellSecure M J
