-- What the answer of a command on a netlist is to the text that was read. Each definition is a function of the two texts' bytes.
use Rattle.std.specs.Prelude.{◌≡◌, ℕ, List, Option}
use Rattle.tsc_text.specs.Lines.{lines_of}
use Rattle.tsc_text.specs.TextLine.{TextLine}
use Rattle.fault_secure.specs.CodePlan.{CodePlan}
use Rattle.fault_secure.specs.Logic.{Logic}
use Rattle.tsc_net.specs.NetlistOf.{NetlistOf}
use Rattle.fault_secure.specs.FaultSecure.{IsFaultSecure}
use Rattle.fault_secure.specs.CellSecure.{IsCellSecure}
use Rattle.audit.specs.Verdict.{IsVerdict}
use Rattle.audit.specs.declared.verdict.Reason.{Reason}
use Rattle.audit.specs.declared.verdict.Verdict.TheVariants.{Yes, No}
use Rattle.vectors.specs.Vectors.{AreTests}
use Rattle.lane_sim.specs.declared.point.Point.{Point}
use Rattle.grading_laws.specs.Grades.{Grade}
use Rattle.grading_laws.specs.Counts.{AreGrades}
use Rattle.sim_text.specs.StepLines.{all_steps}
use Rattle.refusals.specs.declared.ending.Ending.{Ending}
use Rattle.refusals.specs.declared.ending.Ending.TheVariants.{Finished, Rejected}
use Rattle.commands.specs.declared.sim_words.SimFault.{SimFault}
use Rattle.commands.specs.declared.source_format.SourceFormat.{SourceFormat}
use Rattle.text_sections.specs.Denoted.{behind_source, first_any_plan, first_net, lines_behind, net_from, netlist_in, plan_from, plan_in, second_netlist_in, second_plan_in, source_in, source_of}
use Rattle.netlist_answers.specs.FaultList.{fault_list}
use Rattle.netlist_answers.specs.VectorList.{vector_list}
use Rattle.netlist_answers.specs.GradeText.{grade_list}
use Rattle.netlist_answers.specs.VerdictText.{verdict_text}
use Rattle.netlist_answers.specs.Simulated.{IsRunOf}

-- the answer is the fault list of the netlist that the text denotes
abbrev pub IsFaultList : List ℕ → List ℕ → Type 0
IsFaultList text answer = answer ≡ fault_list (netlist_in text)

-- the answer is the list of the test vectors of the netlist and the plan that the text denotes: its tests are those of the listed faults
pub record IsVectorList (text answer : List ℕ) : Type 0 where
  pub tests : List (Option Point)
  pub right : AreTests (netlist_in text).circuit (plan_in text) tests
  pub listed : answer ≡ vector_list (netlist_in text) tests

-- the answer is the list of the grades of the netlist and the plan that the first section of the lines denotes: each listed fault has its
-- grade over the step lines after the section, with the fault at every step beside the run without one
pub record IsGradeListOf (lines : List TextLine) (answer : List ℕ) : Type 0 where
  pub grades : List Grade
  pub right : AreGrades (first_net lines).circuit (first_any_plan lines) (all_steps (first_net lines).circuit.inputs (lines_behind lines)) grades
  pub listed : answer ≡ grade_list (first_net lines) grades

-- the same of the lines of a text
abbrev pub IsGradeReply : List ℕ → List ℕ → Type 0
IsGradeReply text answer = IsGradeListOf (lines_of text) answer

-- the answer is the run of the netlist that the first section of the lines denotes, over the step lines after it
abbrev pub IsSimulation : SimFault → List TextLine → List ℕ → Type 0
IsSimulation fault lines answer = IsRunOf fault (first_net lines) (first_any_plan lines) (lines_behind lines) answer

-- the audit's verdict on a netlist with its plan is yes: they are secure for the source, whichever one cell fails in any way, and
-- whichever one listed fault is present at any steps; and the answer says so
pub record IsAcceptanceOf (M : Logic) (net : NetlistOf) (plan : CodePlan) (answer : List ℕ) : Type 0 where
  pub verdict : IsVerdict M net.circuit plan Yes
  pub cells : IsCellSecure M net.circuit plan
  pub secure : IsFaultSecure M net.circuit plan
  pub written : answer ≡ verdict_text net Yes

-- the audit's verdict on them is no for a reason, and the answer tells it
pub record IsRejectionOf (M : Logic) (net : NetlistOf) (plan : CodePlan) (answer : List ℕ) : Type 0 where
  pub reason : Reason
  pub verdict : IsVerdict M net.circuit plan (No reason)
  pub written : answer ≡ verdict_text net (No reason)

-- the answer of an audit of them, by how it ends
abbrev pub IsVerdictReplyOf : Ending → Logic → NetlistOf → CodePlan → List ℕ → Type 0
IsVerdictReplyOf Finished M net plan answer = IsAcceptanceOf M net plan answer
IsVerdictReplyOf Rejected M net plan answer = IsRejectionOf M net plan answer

-- the answer of an audit of lines: of the source that they begin with, and the netlist and the plan after it
abbrev pub IsLinesReply : Ending → SourceFormat → List TextLine → List ℕ → Type 0
IsLinesReply ending format lines answer =
    IsVerdictReplyOf ending (source_of format lines) (net_from lines (behind_source format lines)) (plan_from lines (behind_source format lines)) answer

-- the verdict on the netlist and the plan after the source of a text is yes, and the answer says so
abbrev pub IsAcceptance : SourceFormat → List ℕ → List ℕ → Type 0
IsAcceptance format text answer = IsAcceptanceOf (source_in format text) (second_netlist_in format text) (second_plan_in format text) answer

-- the verdict on them is no, and the answer tells the reason
abbrev pub IsRejection : SourceFormat → List ℕ → List ℕ → Type 0
IsRejection format text answer = IsRejectionOf (source_in format text) (second_netlist_in format text) (second_plan_in format text) answer

-- the answer of an audit of a text: that of its lines
abbrev pub IsVerdictReply : Ending → SourceFormat → List ℕ → List ℕ → Type 0
IsVerdictReply ending format text answer = IsLinesReply ending format (lines_of text) answer
