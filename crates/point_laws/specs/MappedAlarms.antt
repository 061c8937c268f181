-- Mapping cover by cover keeps alarm-secure: against the gates of one block that fail at once, and against one failing gate.
use Rattle.std.specs.Prelude.{◌≡◌, ℕ, ◌<◌, Bool, List, length, All}
use Rattle.fault_secure.specs.Circuit.{Circuit}
use Rattle.fault_secure.specs.StuckAt.{NoFault}
use Rattle.fault_secure.specs.Settle.{Acyclic}
use Rattle.fault_secure.specs.Run.{Runs, HasOneRun}
use Rattle.fault_secure.specs.CodePlan.{CodePlan}
use Rattle.fault_secure.specs.Logic.{Logic}
use Rattle.fault_secure.specs.FailingCell.{IsCell}
use Rattle.fault_secure.specs.FaultSecure.{Follows, IsQuiet, NoSilentError}
use Rattle.mapping_laws.specs.Mapping.{IsMapped, moved_plan}
use Rattle.mapping_laws.specs.FailingBlock.{RunsButBlock, HasOneRunButBlock}
use Rattle.point_laws.specs.Heard.{IsAlarmSecure}

-- alarm-secure against any one failing block or latch: as secure against it, except for what is asked of the first wrong word
pub record IsBlockAlarmSecure (M : Logic) (N G : Circuit) (block : ℕ → ℕ) (P : CodePlan) : Type 0 where
  pub blocks : (g : ℕ) → g < length G.nodes → block g < length N.nodes
  pub one_run : (w : List Bool) (xs : List (List Bool)) → length w ≡ length xs → HasOneRun G NoFault w xs
  pub one_run_but : (cell : ℕ) (given xs : List (List Bool)) → IsCell N cell → length given ≡ length xs → HasOneRunButBlock N G block cell given xs
  pub follows : (w : List Bool) (xs vs : List (List Bool)) → Runs G NoFault w xs vs → Follows M G P xs vs
  pub quiet : (w : List Bool) (xs vs : List (List Bool)) → Runs G NoFault w xs vs → All (IsQuiet G P) vs
  pub alarmed : (cell : ℕ) (w : List Bool) (xs vs us : List (List Bool)) → IsCell N cell
      → Runs G NoFault w xs vs → RunsButBlock N G block cell xs us → NoSilentError M G P xs vs us

-- what is alarm-secure is, mapped cover by cover, alarm-secure against any failing gates of one block
abbrev pub MappedIsBlockAlarmSecure : Type 0
MappedIsBlockAlarmSecure = (M : Logic) (N G : Circuit) (at block : ℕ → ℕ) (P : CodePlan) → IsMapped N G at block → Acyclic G
    → IsAlarmSecure M N P → IsBlockAlarmSecure M N G block (moved_plan at P)

-- and so against any one failing gate or latch of its own
abbrev pub MappedIsAlarmSecure : Type 0
MappedIsAlarmSecure = (M : Logic) (N G : Circuit) (at block : ℕ → ℕ) (P : CodePlan) → IsMapped N G at block → Acyclic G
    → IsAlarmSecure M N P → IsAlarmSecure M G (moved_plan at P)
