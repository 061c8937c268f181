-- What is answered to a text of netlists that are joined.
use Rattle.std.specs.Prelude.{◌≡◌, ℕ, ◌<◌, List, [], length}
use Rattle.fault_secure.specs.Logic.{Logic}
use Rattle.fault_secure.specs.CellSecure.{IsCellSecure}
use Rattle.fault_secure.specs.FaultSecure.{IsFaultSecure}
use Rattle.blif_write.specs.Told.{TellsRegisters}
use Rattle.joint_laws.specs.JointSecure.{IsJointCellSecure, IsJointFaultSecure}
use Rattle.register_joints.specs.PartSource.{PartSource, IsPartSecure, IsPartFaultSecure}
use Rattle.register_joints.specs.SourcesSecure.{IsCellSecureForSources, IsFaultSecureForSources}
use Rattle.module_join.specs.JointNet.{joint_clock, joint_netlist}
use Rattle.module_join.specs.JoinLaws.{ArePlanned, planned}
use Rattle.joint_text.specs.JointText.{joint_bytes}
use Rattle.joint_text.specs.JointTextLaws.{TellsJoint}
use Rattle.part_reading.specs.PartClocks.{AreClockedBy}
use Rattle.joint_answers.specs.JointParts.{parts_in}

-- the answer is exactly the text of the joint of the netlists that the text denotes, each built, with a plan that shows it, and it denotes that
-- joint, with its clock, which is that of each part that has one. Whatever the sources are: where each netlist with its plan is secure for its
-- own, whichever one cell fails in any way, the joint that the answer denotes is so for all of them; and the same of whichever one listed fault
-- is present at any steps. So it is for logic, and for sources of both kinds, logic and circuits with registers
pub record IsJointReply (text answer : List ℕ) : Type 0 where
  pub written : answer ≡ joint_bytes (parts_in text)
  pub planned_parts : ArePlanned (parts_in text)
  pub clocked : AreClockedBy (joint_clock (parts_in text)) (parts_in text)
  pub told : TellsRegisters (joint_clock (parts_in text)) answer (joint_netlist (parts_in text)) []
  pub cells : (M : ℕ → Logic)
      → ((i : ℕ) → i < length (parts_in text) → IsCellSecure (M i) (planned (parts_in text) i).net.circuit (planned (parts_in text) i).plan)
      → TellsJoint answer (parts_in text) (IsJointCellSecure M)
  pub secure : (M : ℕ → Logic)
      → ((i : ℕ) → i < length (parts_in text) → IsFaultSecure (M i) (planned (parts_in text) i).net.circuit (planned (parts_in text) i).plan)
      → TellsJoint answer (parts_in text) (IsJointFaultSecure M)
  pub cells_for_sources : (source : ℕ → PartSource)
      → ((i : ℕ) → i < length (parts_in text) → IsPartSecure (source i) (planned (parts_in text) i).net.circuit (planned (parts_in text) i).plan)
      → TellsJoint answer (parts_in text) (IsCellSecureForSources source)
  pub secure_for_sources : (source : ℕ → PartSource)
      → ((i : ℕ) → i < length (parts_in text) → IsPartFaultSecure (source i) (planned (parts_in text) i).net.circuit (planned (parts_in text) i).plan)
      → TellsJoint answer (parts_in text) (IsFaultSecureForSources source)
