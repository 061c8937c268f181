-- What `grade` answers is determined by the text; of a netlist that is secure it tells no fault as silent; and the alarms that it tells are
-- those of `sim`: the statements of the laws.
use Rattle.std.specs.Prelude.{◌≡◌, ℕ, ◌<◌, true, List, length, count_by, slice_index_or, None}
use Rattle.tsc_text.specs.Lines.{lines_of}
use Rattle.fault_secure.specs.Circuit.{Circuit}
use Rattle.fault_secure.specs.CodePlan.{CodePlan}
use Rattle.fault_secure.specs.Listed.{listed_faults}
use Rattle.fault_secure.specs.Logic.{Logic}
use Rattle.fault_secure.specs.FaultSecure.{IsFaultSecure}
use Rattle.fault_secure.specs.CellSecure.{IsCellSecure}
use Rattle.fault_secure.specs.StuckAt.{NoFault}
use Rattle.tsc_net.specs.When.{has_step}
use Rattle.point_laws.specs.Heard.{IsAlarmSecure, AllowsOneOutput}
use Rattle.register_laws.specs.RegisterPlan.{RegisterPlan}
use Rattle.register_laws.specs.RegisterSecure.{IsRegisterSecure}
use Rattle.register_laws.specs.RegisterMapping.{IsRegisterAlarmSecure}
use Rattle.grading_laws.specs.Grades.{AlarmAt, Unseen, IsFirstAlarm}
use Rattle.grading_laws.specs.Counts.{is_silent}
use Rattle.commands.specs.declared.sim_words.SimFault.{SimFault}
use Rattle.commands.specs.declared.sim_words.SimFault.TheVariants.{NoFault as NoNamedFault}
use Rattle.text_sections.specs.Denoted.{first_any_plan, lines_behind, netlist_in}
use Rattle.netlist_answers.specs.Answers.{IsGradeReply, IsSimulation}
use Rattle.netlist_answers.specs.Refused.{sim_refusal}
use Rattle.netlist_answers.specs.Simulated.{steps_of}

-- a text that nothing refuses has at most one list of grades
abbrev pub OneGradeReply : Type 0
OneGradeReply =
    (text answer other : List ℕ) → sim_refusal NoNamedFault text ≡ None → IsGradeReply text answer → IsGradeReply text other → answer ≡ other

-- the circuit that a text denotes, and its plan, which may list no states
abbrev pub circuit_in : List ℕ → Circuit
circuit_in text = (netlist_in text).circuit

abbrev pub any_plan_in : List ℕ → CodePlan
any_plan_in text = first_any_plan (lines_of text)

-- whatever step lines the text has, it tells no fault as silent
abbrev pub TellsNoSilent : List ℕ → Type 0
TellsNoSilent text = (answer : List ℕ) (reply : IsGradeReply text answer) → count_by is_silent reply.grades ≡ 0

-- the plan of a text, which has so many registers as latches: where it lists no states, the text's has them as further inputs
abbrev pub with_latches : ℕ → List ℕ → CodePlan
with_latches latches text = record (any_plan_in text) { latches = latches }

-- so it is of a netlist that is fault-secure or secure against any one failing cell for some source, alarm-secure for one that allows one
-- list of outputs, or secure or alarm-secure for a source with registers
pub record SecureTellsNoSilent : Type 0 where
  pub faults : (M : Logic) (text : List ℕ) → IsFaultSecure M (circuit_in text) (any_plan_in text) → TellsNoSilent text
  pub cells : (M : Logic) (text : List ℕ) → IsCellSecure M (circuit_in text) (any_plan_in text) → TellsNoSilent text
  pub alarms : (M : Logic) (text : List ℕ) → AllowsOneOutput M (any_plan_in text).version → IsAlarmSecure M (circuit_in text) (any_plan_in text) → TellsNoSilent text
  pub registers : (S : Circuit) (P : RegisterPlan) (latches : ℕ) (text : List ℕ) → P.plan ≡ with_latches latches text → IsRegisterSecure S (circuit_in text) P → TellsNoSilent text
  pub register_alarms : (S : Circuit) (P : RegisterPlan) (latches : ℕ) (text : List ℕ) → P.plan ≡ with_latches latches text → IsRegisterAlarmSecure S (circuit_in text) P
      → TellsNoSilent text

-- the fault is present at each step that the text has
abbrev pub IsAtEachStep : SimFault → List ℕ → Type 0
IsAtEachStep fault text = (step : ℕ) → step < length (lines_behind (lines_of text)) → has_step (steps_of fault) step ≡ true

-- a fault that `grade` tells with an alarm at a step is one of which `sim`, from the first step on, has its first alarm at that step
abbrev pub AlarmsAreSimulated : Type 0
AlarmsAreSimulated =
    (text answer printed : List ℕ) (fault : SimFault) (place step : ℕ) → sim_refusal NoNamedFault text ≡ None
    → (graded : IsGradeReply text answer) (run : IsSimulation fault (lines_of text) printed) → IsAtEachStep fault text
    → place < length (listed_faults (circuit_in text)) → slice_index_or (listed_faults (circuit_in text)) place NoFault ≡ run.stuck
    → slice_index_or graded.grades place Unseen ≡ AlarmAt step → IsFirstAlarm (any_plan_in text) run.run.one.run step
