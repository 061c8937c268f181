-- The verdict of an audit: yes where every condition holds, else the first one that doesn't.
use Rattle.std.specs.Prelude.{◌≡◌, ◌≢◌, ℕ, ◌*◌, ◌^◌, None, Some}
use Rattle.fault_secure.specs.Circuit.{Circuit}
use Rattle.fault_secure.specs.CodePlan.{CodePlan}
use Rattle.fault_secure.specs.Logic.{Logic, inputs_of, outputs_count, states_of}
use Rattle.structure_audit.specs.StructureReason.{IsStructureAnswer}
use Rattle.structure_audit.specs.declared.reason.StructureReason.{StructureReason}
use Rattle.structure_audit.specs.declared.reason.StructureReason.TheVariants as structure
use Rattle.behaviour_audit.specs.Reason.{IsBehaviourAnswer}
use Rattle.behaviour_audit.specs.declared.reason.BehaviourReason.{BehaviourReason}
use Rattle.behaviour_audit.specs.declared.reason.BehaviourReason.TheVariants as behaviour
use Rattle.checker_audit.specs.CheckerAnswer.{IsCheckerAnswer}
use Rattle.checker_audit.specs.declared.reason.CheckerReason.{CheckerReason}
use Rattle.checker_audit.specs.declared.reason.CheckerReason.TheVariants as checker
use Rattle.audit.specs.declared.verdict.Shape.{Shape}
use Rattle.audit.specs.declared.verdict.Shape.TheVariants.{Inputs, Outputs, States}
use Rattle.audit.specs.declared.verdict.Reason.{Reason}
use Rattle.audit.specs.declared.verdict.Reason.TheVariants as reason
use Rattle.audit.specs.declared.verdict.Verdict.{Verdict}
use Rattle.audit.specs.declared.verdict.Verdict.TheVariants.{Yes, No}
use Rattle.fault_secure.specs.Exposing.{listed_states}

-- how many points an audit tries: each state of the source with each input
abbrev pub audit_points : Logic → ℕ
audit_points M = states_of M * 2 ^ inputs_of M

-- the netlist has as many inputs, outputs and states as the source
pub record FitsSource (M : Logic) (N : Circuit) (P : CodePlan) : Type 0 where
  pub inputs : N.inputs ≡ inputs_of M
  pub outputs : P.outputs ≡ outputs_count M
  pub states : listed_states P ≡ states_of M

-- it has another number of these, and of those before them as many
abbrev pub HasOther : Logic → Circuit → CodePlan → Shape → Type 0
HasOther M N P Inputs = N.inputs ≢ inputs_of M
HasOther M N P Outputs = (N.inputs ≡ inputs_of M) × (P.outputs ≢ outputs_count M)
HasOther M N P States = (N.inputs ≡ inputs_of M) × ((P.outputs ≡ outputs_count M) × (listed_states P ≢ states_of M))

-- it fits its source, and its structure is as it should be: rails outside the function, a checker that reads only the word, and what
-- the code asks of the function
pub record HasStructure (M : Logic) (N : Circuit) (P : CodePlan) : Type 0 where
  pub fits : FitsSource M N P
  pub structure : IsStructureAnswer N P None

-- and without a fault it follows its source
pub record Behaves (M : Logic) (N : Circuit) (P : CodePlan) : Type 0 where
  pub before : HasStructure M N P
  pub follows : IsBehaviourAnswer M N P None

-- and its checker decides the code: every condition holds
pub record IsAccepted (M : Logic) (N : Circuit) (P : CodePlan) : Type 0 where
  pub before : Behaves M N P
  pub checker : IsCheckerAnswer N P None

-- the first condition that doesn't hold is this one of the structure
abbrev pub BreaksStructure : Logic → Circuit → CodePlan → StructureReason → Type 0
BreaksStructure M N P why = FitsSource M N P × IsStructureAnswer N P (Some why)

-- the first condition that doesn't hold is this one of the behaviour
abbrev pub BreaksBehaviour : Logic → Circuit → CodePlan → BehaviourReason → Type 0
BreaksBehaviour M N P why = HasStructure M N P × IsBehaviourAnswer M N P (Some why)

-- the first condition that doesn't hold is this one of the checker
abbrev pub BreaksChecker : Logic → Circuit → CodePlan → CheckerReason → Type 0
BreaksChecker M N P why = Behaves M N P × IsCheckerAnswer N P (Some why)

-- the reason is the first condition that doesn't hold
abbrev pub IsFirstReason : Logic → Circuit → CodePlan → Reason → Type 0
IsFirstReason M N P (reason.Shape what) = HasOther M N P what
IsFirstReason M N P (reason.Rails net) = BreaksStructure M N P (structure.Rails net)
IsFirstReason M N P (reason.Reads at pin) = BreaksStructure M N P (structure.Reads at pin)
IsFirstReason M N P (reason.Sign at pin) = BreaksStructure M N P (structure.Sign at pin)
IsFirstReason M N P reason.Latched = BreaksStructure M N P structure.Latched
IsFirstReason M N P (reason.Shares group first second at) = BreaksStructure M N P (structure.Shares group first second at)
IsFirstReason M N P reason.Reset = BreaksBehaviour M N P behaviour.Reset
IsFirstReason M N P (reason.Next state input) = BreaksBehaviour M N P (behaviour.Next state input)
IsFirstReason M N P (reason.Word state input) = BreaksBehaviour M N P (behaviour.Word state input)
IsFirstReason M N P (reason.Output state input place) = BreaksBehaviour M N P (behaviour.Output state input place)
IsFirstReason M N P (reason.CheckerWord value width) = BreaksChecker M N P (checker.Word value width)
IsFirstReason M N P (reason.CheckerNet net) = BreaksChecker M N P (checker.Net net)

-- the verdict: yes where every condition holds, else the first one that doesn't
abbrev pub IsVerdict : Logic → Circuit → CodePlan → Verdict → Type 0
IsVerdict M N P Yes = IsAccepted M N P
IsVerdict M N P (No why) = IsFirstReason M N P why
