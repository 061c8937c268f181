-- The verdict of an exact audit: yes where the netlist follows its source and is heard at its points, else the first reason why not.
use Rattle.std.specs.Prelude.{◌<◌, None, Some}
use Rattle.fault_secure.specs.Circuit.{Circuit, nets}
use Rattle.fault_secure.specs.CodePlan.{CodePlan}
use Rattle.fault_secure.specs.Logic.{Logic}
use Rattle.behaviour_audit.specs.Reason.{IsBehaviourAnswer}
use Rattle.behaviour_audit.specs.declared.reason.BehaviourReason.{BehaviourReason}
use Rattle.behaviour_audit.specs.declared.reason.BehaviourReason.TheVariants as behaviour
use Rattle.audit.specs.Verdict.{FitsSource, HasOther}
use Rattle.audit.specs.Shown.{IsNumberOf}
use Rattle.unheard_cells.specs.PointReason.{IsPointAnswer}
use Rattle.unheard_cells.specs.declared.reason.PointReason.{PointReason}
use Rattle.unheard_cells.specs.declared.reason.PointReason.TheVariants as point
use Rattle.exact_audit.specs.declared.verdict.ExactReason.{ExactReason}
use Rattle.exact_audit.specs.declared.verdict.ExactReason.TheVariants as reason
use Rattle.exact_audit.specs.declared.verdict.ExactVerdict.{ExactVerdict}
use Rattle.exact_audit.specs.declared.verdict.ExactVerdict.TheVariants.{Yes, No}

-- it has as many inputs, outputs and states as its source, and without a fault follows it
pub record FitsAndFollows (M : Logic) (N : Circuit) (P : CodePlan) : Type 0 where
  pub fits : FitsSource M N P
  pub follows : IsBehaviourAnswer M N P None

-- the reason is the first one: the shape, then the behaviour without a fault, then the points with and without a failing cell
abbrev pub IsFirstReason : Logic → Circuit → CodePlan → ExactReason → Type 0
IsFirstReason M N P (reason.Shape what) = HasOther M N P what
IsFirstReason M N P (reason.Behaviour why) = FitsSource M N P × IsBehaviourAnswer M N P (Some why)
IsFirstReason M N P (reason.Point why) = FitsAndFollows M N P × IsPointAnswer N P (Some why)

-- the verdict: yes where there is no reason, else the first one
abbrev pub IsExactVerdict : Logic → Circuit → CodePlan → ExactVerdict → Type 0
IsExactVerdict M N P Yes = FitsAndFollows M N P × IsPointAnswer N P None
IsExactVerdict M N P (No why) = IsFirstReason M N P why

-- each net that a verdict names is one of the netlist's, and each input has the bits that it is told with
abbrev pub IsBehaviourIn : Circuit → BehaviourReason → Type 0
IsBehaviourIn N behaviour.Reset = Unit {0}
IsBehaviourIn N (behaviour.Next state input) = IsNumberOf N.inputs input
IsBehaviourIn N (behaviour.Word state input) = IsNumberOf N.inputs input
IsBehaviourIn N (behaviour.Output state input place) = IsNumberOf N.inputs input

abbrev pub IsPointIn : Circuit → PointReason → Type 0
IsPointIn N (point.Quiet state input) = IsNumberOf N.inputs input
IsPointIn N (point.Alarm net value state input) = (net.number < nets N) × IsNumberOf N.inputs input

abbrev pub IsExactIn : Circuit → ExactVerdict → Type 0
IsExactIn N Yes = Unit {0}
IsExactIn N (No (reason.Shape what)) = Unit {0}
IsExactIn N (No (reason.Behaviour why)) = IsBehaviourIn N why
IsExactIn N (No (reason.Point why)) = IsPointIn N why
