-- What is answered to a text of a source and a netlist that is decided exactly.
use Rattle.std.specs.Prelude.{◌≡◌, ℕ, Bool, List, IsTrue}
use Rattle.tsc_text.specs.Lines.{lines_of}
use Rattle.tsc_text.specs.TextLine.{TextLine}
use Rattle.fault_secure.specs.CodePlan.{CodePlan}
use Rattle.fault_secure.specs.FaultSecure.{NoSilentError}
use Rattle.fault_secure.specs.Logic.{Logic}
use Rattle.fault_secure.specs.Run.{Runs}
use Rattle.fault_secure.specs.StuckAt.{StuckAt, NoFault, is_listed}
use Rattle.tsc_net.specs.NetlistOf.{NetlistOf}
use Rattle.point_laws.specs.Heard.{IsAlarmSecure}
use Rattle.exact_audit.specs.ExactVerdict.{IsExactVerdict}
use Rattle.exact_audit.specs.declared.verdict.ExactReason.{ExactReason}
use Rattle.exact_audit.specs.declared.verdict.ExactVerdict.{ExactVerdict}
use Rattle.exact_audit.specs.declared.verdict.ExactVerdict.TheVariants.{Yes, No}
use Rattle.refusals.specs.declared.ending.Ending.{Ending}
use Rattle.refusals.specs.declared.ending.Ending.TheVariants.{Finished, Rejected}
use Rattle.commands.specs.declared.source_format.SourceFormat.{SourceFormat}
use Rattle.text_sections.specs.Denoted.{behind_source, net_from, plan_from, source_of}
use Rattle.exact_answers.specs.ExactText.{exact_text}

-- with one listed fault, present at any steps, no wrong output comes before its alarm
abbrev pub ShowsEachFault : Logic → NetlistOf → CodePlan → Type 0
ShowsEachFault M net plan =
    (f : StuckAt) (w : List Bool) (xs vs us : List (List Bool)) → IsTrue (is_listed net.circuit f) → Runs net.circuit NoFault w xs vs → Runs net.circuit f w xs us
    → NoSilentError M net.circuit plan xs vs us

-- the exact verdict on a netlist with its plan is yes: it is alarm-secure for the source, whichever one cell fails in any way and at any
-- steps, and shows each listed fault; and the answer says so
pub record IsExactYes (M : Logic) (net : NetlistOf) (plan : CodePlan) (answer : List ℕ) : Type 0 where
  pub verdict : IsExactVerdict M net.circuit plan Yes
  pub secure : IsAlarmSecure M net.circuit plan
  pub faults : ShowsEachFault M net plan
  pub written : answer ≡ exact_text net Yes

-- the verdict is no for a first reason, and the answer tells it
pub record IsExactNo (M : Logic) (net : NetlistOf) (plan : CodePlan) (answer : List ℕ) : Type 0 where
  pub reason : ExactReason
  pub verdict : IsExactVerdict M net.circuit plan (No reason)
  pub written : answer ≡ exact_text net (No reason)

-- the answer on them, by how the command ends
abbrev pub IsExactReplyOf : Ending → Logic → NetlistOf → CodePlan → List ℕ → Type 0
IsExactReplyOf Finished M net plan answer = IsExactYes M net plan answer
IsExactReplyOf Rejected M net plan answer = IsExactNo M net plan answer

-- the answer to lines: on the source that they begin with, and the netlist and the plan after it
abbrev pub IsExactLinesReply : Ending → SourceFormat → List TextLine → List ℕ → Type 0
IsExactLinesReply ending format lines answer =
    IsExactReplyOf ending (source_of format lines) (net_from lines (behind_source format lines)) (plan_from lines (behind_source format lines)) answer

-- the answer to a text: that to its lines
abbrev pub IsExactReply : Ending → SourceFormat → List ℕ → List ℕ → Type 0
IsExactReply ending format text answer = IsExactLinesReply ending format (lines_of text) answer

-- how an exact audit ends with a verdict
abbrev pub exact_ending : ExactVerdict → Ending
exact_ending Yes = Finished
exact_ending (No why) = Rejected

-- what a verdict says of security
abbrev pub IsShownWhereYes : Logic → NetlistOf → CodePlan → ExactVerdict → Type 0
IsShownWhereYes M net plan Yes = IsAlarmSecure M net.circuit plan × ShowsEachFault M net plan
IsShownWhereYes M net plan (No why) = Unit {0}
